-- The theorems about circuits, as statements; each is proved under its name in proofs/.
use Rattle.std.specs.Prelude.{ℕ, suc, ◌+◌, ◌≤◌, ◌<◌, max, ◌≡◌, ◌↔◌, ◌⊎◌, true, not, ◌&&◌, List, [], ◌∷◌, ◌++◌, map, length, get_or, replicate}
use Rattle.lists.specs.First.{first}
use Rattle.lines.specs.Text.{is_partial}
use Rattle.circuit.specs.Circuit.{Gate, Circuit, xor_kind, and_kind, max_inputs, max_gates, max_outputs, min_level, max_level, constants, first_gate, references, no_start, gate_at}
use Rattle.circuit.specs.Table.{inputs, gates, outputs, refs, starts, gates_from, gate_lines, closing_line, decode, encode_lines, encode}
use Rattle.circuit.specs.Refusal.{head_in_limits, lines_as_head_says, starts_right, KnownKinds, gate_kinds_ok, closing_kinds_ok, operands_ok, closing_references_ok, refusal}
use Rattle.circuit.specs.WellFormed.{WellFormed}
use Rattle.circuit.specs.Each.{count_gates, EachGate}
use Rattle.circuit.specs.Fold.{fold_gates}
use Rattle.circuit.specs.Valuation.{Ordered, Solves}
use Rattle.circuit.specs.Evaluation.{evaluate}
use Rattle.circuit.specs.Depth.{is_counted, plus_counted, start_levels, depth, circuit_depth}
use Rattle.circuit.specs.Path.{is_among, is_gate, is_operand, is_path, counted_on}
use Rattle.circuit.specs.MultiplicativeDepth.{contribution, multiplicative_depth}
use Rattle.circuit.specs.ReverseDepth.{is_live, above}
use Rattle.circuit.specs.Critical.{is_critical, critical_count}
use Rattle.circuit.specs.Trim.{rename_gate, is_kept, new_number, old_number, trim_of}
use Rattle.circuit.specs.EvaluateCall.{evaluating}
use Rattle.circuit.specs.MeasureCall.{measuring}

-- ---- tables

-- 02, 2026-01, of a circuit's starting lines
pub record StartLines (c : Circuit) : Type 0 where
  pub names-input : (i : ℕ) → i < length c.starts
      → (constants ≤ (get_or c.starts i no_start).input) × ((get_or c.starts i no_start).input < first_gate c.inputs)
  pub level-limits : (i : ℕ) → i < length c.starts
      → (min_level ≤ (get_or c.starts i no_start).level) × ((get_or c.starts i no_start).level ≤ max_level)
  pub ascends : (i : ℕ) → suc i < length c.starts → (get_or c.starts i no_start).input < (get_or c.starts (suc i) no_start).input

-- A table is well formed exactly if it is not refused.
abbrev pub AcceptedIsWellFormed : Type 0
AcceptedIsWellFormed = (t : List ℕ) → (refusal t ≡ 0) ↔ WellFormed t

-- 01, Circuits, 2 to 5, of such a table: each gate is an XOR or an AND whose operands are below it, each output is one of the circuit's
-- references, and its starting lines are right.
abbrev pub WellFormedIsCircuit : Type 0
WellFormedIsCircuit =
    (t : List ℕ) → WellFormed t
    → Ordered (first_gate (inputs t)) (gate_lines t)
    × EachGate (λ m g. (g.kind ≡ xor_kind) ⊎ (g.kind ≡ and_kind)) (first_gate (inputs t)) (gate_lines t)
    × ((o : ℕ) → is_among o (decode t).outputs ≡ true → o < refs t)
    × StartLines (decode t)

-- The table of a circuit whose gates are each of a known kind says the circuit.
abbrev pub DecodeAfterEncode : Type 0
DecodeAfterEncode = (c : Circuit) → KnownKinds c → decode (encode c) ≡ c

-- A well-formed table is the table of what it says.
abbrev pub EncodeAfterDecode : Type 0
EncodeAfterDecode = (t : List ℕ) → WellFormed t → encode (decode t) ≡ t

-- 01, Refusals, 4: no refusal is given outside its condition. The table of a circuit within the limits, each gate an XOR or an AND whose
-- operands are below it, each output one of its references, and its starting lines right, is accepted.
abbrev pub CircuitIsAccepted : Type 0
CircuitIsAccepted =
    (c : Circuit) → c.inputs ≤ max_inputs → length c.gates ≤ max_gates → 1 ≤ length c.outputs → length c.outputs ≤ max_outputs
    → Ordered (first_gate c.inputs) c.gates
    → EachGate (λ m g. (g.kind ≡ xor_kind) ⊎ (g.kind ≡ and_kind)) (first_gate c.inputs) c.gates
    → ((o : ℕ) → is_among o c.outputs ≡ true → o < references c)
    → StartLines c
    → refusal (encode c) ≡ 0

-- ---- starting lines

-- 02, 2026-01: a circuit's starting lines are right exactly if each names an input and a level from 1 to 255, and its reference is above
-- that of the one before.
abbrev pub StartsAreRight : Type 0
StartsAreRight = (c : Circuit) → (starts_right c ≡ true) ↔ StartLines c

-- So there are no more of them than inputs.
abbrev pub StartsAreInputs : Type 0
StartsAreInputs = (t : List ℕ) → WellFormed t → starts t ≤ inputs t

-- An input starts at the level that is listed for it, and at 0 if none is; so do the constants.
abbrev pub StartsAtLevel : Type 0
StartsAtLevel =
    (c : Circuit) → starts_right c ≡ true
    → (length (start_levels c) ≡ first_gate c.inputs)
    × ((i : ℕ) → i < length c.starts → get_or (start_levels c) (get_or c.starts i no_start).input 0 ≡ (get_or c.starts i no_start).level)
    × ((v : ℕ) → ((i : ℕ) → i < length c.starts → (get_or c.starts i no_start).input ≡ v → ⊥) → get_or (start_levels c) v 0 ≡ 0)

-- A table without starting lines is read as 01 says: where its gate lines begin, and its refusal; and so are, of a circuit without any, its
-- table and the depths of its constants and inputs. All else that is said of circuits goes by these, but for the sizes of buffers.
abbrev pub EmptyRun : Type 0
EmptyRun =
    ((t : List ℕ) → starts t ≡ 0
    → (gates_from t ≡ 3)
    × ((decode t).starts ≡ [])
    × (refusal t
    ≡ first (is_partial 3 t) 1
    (first (not (head_in_limits t)) 4
    (first (not (lines_as_head_says t)) 5
    (first (not (gate_kinds_ok t && closing_kinds_ok t)) 6
    (first (not (operands_ok t && closing_references_ok t)) 7
    0))))))
    × ((c : Circuit) → c.starts ≡ []
    → (encode c ≡ c.inputs ∷ length c.gates ∷ length c.outputs ∷ (encode_lines c.gates ++ encode_lines (map closing_line c.outputs)))
    × (start_levels c ≡ replicate (first_gate c.inputs) 0))

-- ---- values, over any carrier

-- The fold behind a start list for the references below n gives each gate what `op` gives for its operands' values.
abbrev pub FoldSolves : Type 1
FoldSolves =
    (A : Type 0) (op : ℕ → A → A → A) (z : A) (gs : List Gate) (start : List A) (n : ℕ) → length start ≡ n → Ordered n gs
    → Solves op (λ r. get_or (fold_gates op z gs start) r z) n gs

-- And it keeps the start list.
abbrev pub FoldKeepsStart : Type 1
FoldKeepsStart =
    (A : Type 0) (op : ℕ → A → A → A) (z : A) (gs : List Gate) (start : List A)
    → (length (fold_gates op z gs start) ≡ length start + length gs)
    × ((r : ℕ) → r < length start → get_or (fold_gates op z gs start) r z ≡ get_or start r z)

-- Two valuations agree along a renaming ρ on all wanted references, if they agree on those below the gates, wanted gates have wanted
-- operands, the first valuation gives every gate what `op` gives, and the second each wanted one.
abbrev pub Simulation : Type 1
Simulation =
    (A : Type 0) (op : ℕ → A → A → A) (Wanted : ℕ → Type 0) (ρ : ℕ → ℕ) (v v' : ℕ → A) (n : ℕ) (gs : List Gate)
    → Ordered n gs
    → Solves op v n gs
    → EachGate (λ m g. Wanted m → Wanted g.left × Wanted g.right × (v' (ρ m) ≡ op g.kind (v' (ρ g.left)) (v' (ρ g.right)))) n gs
    → ((r : ℕ) → r < n → Wanted r → v' (ρ r) ≡ v r)
    → (r : ℕ) → r < n + length gs → Wanted r → v' (ρ r) ≡ v r

-- The evaluator gives one byte, 0 or 1, an output.
abbrev pub EvaluationGivesBits : Type 0
EvaluationGivesBits =
    (c : Circuit) (bytes : List ℕ)
    → (length (evaluate c bytes) ≡ length c.outputs) × ((i : ℕ) → get_or (evaluate c bytes) i 0 < 2)

-- ---- depth, in the words of source 003

-- 02, 2026-04: where operands are below their gates, as in every circuit that is not refused (`AcceptedIsWellFormed`, `WellFormedIsCircuit`), a
-- gate's depth is its own contribution plus the larger of its operands' depths.
abbrev pub DepthOfGate : Type 0
DepthOfGate =
    (c : Circuit) → Ordered (first_gate c.inputs) c.gates → (v : ℕ) → is_gate c v ≡ true
    → depth c v ≡ contribution (gate_at c v) + max (depth c (gate_at c v).left) (depth c (gate_at c v).right)

-- So the depth of every gate, and of every other reference, is `multiplicative_depth`: by 003's equation, with starting levels, and with nothing
-- contributed by an AND with a constant.
abbrev pub DepthIsMultiplicative : Type 0
DepthIsMultiplicative = (c : Circuit) → Ordered (first_gate c.inputs) c.gates → (v : ℕ) → multiplicative_depth c v ≡ depth c v

-- ---- paths

-- A reference is live exactly if there is a path from it up to an output.
abbrev pub LiveIsReached : Type 0
LiveIsReached =
    (t : List ℕ) → WellFormed t → (v : ℕ) → (is_live (decode t) v ≡ true) ↔ ((path : List ℕ) × (is_path (decode t) v path ≡ true))

-- A live reference's `above` is the number of gates that count on some path, and on no path are there more.
abbrev pub AboveIsLargest : Type 0
AboveIsLargest =
    (t : List ℕ) → WellFormed t → (v : ℕ) → is_live (decode t) v ≡ true
    → ((path : List ℕ) × (is_path (decode t) v path ≡ true) × (counted_on (decode t) path ≡ above (decode t) v))
    × ((path : List ℕ) → is_path (decode t) v path ≡ true → counted_on (decode t) path ≤ above (decode t) v)

-- So a live gate's operands are live, and above each of them is what is above the gate, and the gate itself if it counts, or more.
abbrev pub OperandsOfLive : Type 0
OperandsOfLive =
    (t : List ℕ) → WellFormed t → (v w : ℕ) → is_gate (decode t) w ≡ true → is_operand v (gate_at (decode t) w) ≡ true → is_live (decode t) w ≡ true
    → (is_live (decode t) v ≡ true) × (plus_counted (gate_at (decode t) w) (above (decode t) w) ≤ above (decode t) v)

-- 01, Depth and critical count, 4, on paths: no path from a reference, with its depth, makes more than D, and a gate is critical exactly if
-- it counts and some path from it, with its depth, makes D.
abbrev pub CriticalIsDeepest : Type 0
CriticalIsDeepest =
    (t : List ℕ) → WellFormed t → (v : ℕ)
    → ((path : List ℕ) → is_path (decode t) v path ≡ true → depth (decode t) v + counted_on (decode t) path ≤ circuit_depth (decode t))
    × (is_gate (decode t) v ≡ true
    → (is_critical (decode t) v (gate_at (decode t) v) ≡ true)
    ↔ ((is_counted (gate_at (decode t) v) ≡ true)
    × ((path : List ℕ) × (is_path (decode t) v path ≡ true) × (depth (decode t) v + counted_on (decode t) path ≡ circuit_depth (decode t)))))

-- ---- trimming

-- The trimmed table of a well-formed table is well formed.
abbrev pub TrimmedIsWellFormed : Type 0
TrimmedIsWellFormed = (t : List ℕ) → WellFormed t → WellFormed (trim_of t)

-- It has as many inputs and outputs, and no more gates.
abbrev pub TrimKeepsCounts : Type 0
TrimKeepsCounts =
    (t : List ℕ) → WellFormed t → (inputs (trim_of t) ≡ inputs t) × (outputs (trim_of t) ≡ outputs t) × (gates (trim_of t) ≤ gates t)

-- 02, 2026-01: it has the same starting lines.
abbrev pub TrimKeepsStarts : Type 0
TrimKeepsStarts = (t : List ℕ) → WellFormed t → (decode (trim_of t)).starts ≡ (decode t).starts

-- Its gates are the live ones, as many as there are, each in the place of its new number with its operands renumbered.
abbrev pub TrimKeepsGates : Type 0
TrimKeepsGates =
    (t : List ℕ) → WellFormed t
    → (gates (trim_of t) ≡ count_gates (λ v g. is_live (decode t) v) (first_gate (inputs t)) (gate_lines t))
    × ((v : ℕ) → is_gate (decode t) v ≡ true → is_live (decode t) v ≡ true
    → gate_at (decode (trim_of t)) (new_number (decode t) v) ≡ rename_gate (new_number (decode t)) (gate_at (decode t) v))

-- The old number leads back from the new one; and to the end of the circuit, where no gate is, from what is beyond the trimmed one.
abbrev pub OldNumberLeadsBack : Type 0
OldNumberLeadsBack =
    (t : List ℕ) → WellFormed t
    → ((v : ℕ) → v < refs t → is_kept (decode t) v ≡ true → old_number (decode t) (new_number (decode t) v) ≡ v)
    × ((v : ℕ) → refs (trim_of t) ≤ v → old_number (decode t) v ≡ refs t)

-- It gives the same outputs on every input.
abbrev pub TrimKeepsOutputs : Type 0
TrimKeepsOutputs =
    (t : List ℕ) → WellFormed t → (bytes : List ℕ) → length bytes ≡ inputs t
    → evaluate (decode (trim_of t)) bytes ≡ evaluate (decode t) bytes

-- It has the same D.
abbrev pub TrimKeepsDepth : Type 0
TrimKeepsDepth = (t : List ℕ) → WellFormed t → circuit_depth (decode (trim_of t)) ≡ circuit_depth (decode t)

-- It has the same N.
abbrev pub TrimKeepsCriticalCount : Type 0
TrimKeepsCriticalCount = (t : List ℕ) → WellFormed t → critical_count (decode (trim_of t)) ≡ critical_count (decode t)

-- Every reference that is kept, so every live one, has the depth and the above that it had, under its new number, and is live if it was.
abbrev pub TrimKeepsDepths : Type 0
TrimKeepsDepths =
    (t : List ℕ) → WellFormed t → (v : ℕ) → v < refs t → is_kept (decode t) v ≡ true
    → (depth (decode (trim_of t)) (new_number (decode t) v) ≡ depth (decode t) v)
    × (above (decode (trim_of t)) (new_number (decode t) v) ≡ above (decode t) v)
    × (is_live (decode (trim_of t)) (new_number (decode t) v) ≡ is_live (decode t) v)

-- Every gate of a trimmed circuit is live.
abbrev pub TrimmedIsLive : Type 0
TrimmedIsLive =
    (t : List ℕ) → WellFormed t → (i : ℕ) → i < gates (trim_of t)
    → is_live (decode (trim_of t)) (first_gate (inputs (trim_of t)) + i) ≡ true

-- Trimming twice is trimming once.
abbrev pub TrimOfTrim : Type 0
TrimOfTrim = (t : List ℕ) → WellFormed t → trim_of (trim_of t) ≡ trim_of t

-- The calls answer for the trimmed table as for the table itself.
abbrev pub TrimKeepsCalls : Type 0
TrimKeepsCalls =
    (t : List ℕ) → WellFormed t
    → ((input_bytes output_bytes : List ℕ) → evaluating (trim_of t) input_bytes output_bytes ≡ evaluating t input_bytes output_bytes)
    × (measuring (trim_of t) ≡ measuring t)
