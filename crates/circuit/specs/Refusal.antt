-- The refusals 1, 4, 5, 11, 6 and 7 of a circuit's table; 8 is of rules alone.
use Rattle.std.specs.Prelude.{ℕ, suc, ◌≡◌, Bool, true, not, ◌&&◌, ◌||◌, List, [], ◌∷◌, eqb, leb, ltb, length}
use Rattle.lists.specs.First.{first}
use Rattle.lines.specs.Text.{is_partial}
use Rattle.circuit.specs.Circuit.{Gate, Start, Circuit, xor_kind, and_kind, closing_kind, max_inputs, max_gates, max_outputs, min_level, max_level, constants, first_gate}
use Rattle.circuit.specs.Table.{inputs, gates, outputs, refs, table_end, gate_lines, closing_lines, reference, decode}
use Rattle.circuit.specs.Each.{all_gates, EachGate}

-- 01, refusal 4, does not apply: the head's numbers are within their limits.
abbrev pub head_in_limits : List ℕ → Bool
head_in_limits t = leb (inputs t) max_inputs && (leb (gates t) max_gates && (leb 1 (outputs t) && leb (outputs t) max_outputs))

-- 01, refusal 5, does not apply: there are as many lines as the head says, beside the starting lines, whatever is in them.
abbrev pub lines_as_head_says : List ℕ → Bool
lines_as_head_says t = eqb (length t) (table_end t)

-- 02, 2026-01, refusal 11, does not apply: each starting line names an input, which is above the one before, and a level from 1 to 255.
abbrev pub is_start : (top low : ℕ) → Start → Bool
is_start top low s = leb low s.input && (ltb s.input top && (leb min_level s.level && leb s.level max_level))

unfoldable pub starts_ascend : (top low : ℕ) → List Start → Bool
starts_ascend top low [] = true
starts_ascend top low (s ∷ ss) = is_start top low s && starts_ascend top (suc s.input) ss

abbrev pub starts_right : Circuit → Bool
starts_right c = starts_ascend (first_gate c.inputs) constants c.starts

abbrev pub starts_ok : List ℕ → Bool
starts_ok t = starts_right (decode t)

-- 01, refusal 6, does not apply: each gate is of a known kind, and each closing line is 3, some reference, 0.
abbrev pub has_gate_kind : ℕ → Gate → Bool
has_gate_kind n g = eqb g.kind xor_kind || eqb g.kind and_kind

abbrev pub is_closing : ℕ → Gate → Bool
is_closing n line = eqb line.kind closing_kind && eqb line.right 0

abbrev pub gate_kinds_ok : List ℕ → Bool
gate_kinds_ok t = all_gates has_gate_kind (first_gate (inputs t)) (gate_lines t)

-- the same, of a circuit
abbrev pub KnownKinds : Circuit → Type 0
KnownKinds c = EachGate (λ m g. has_gate_kind m g ≡ true) (first_gate c.inputs) c.gates

abbrev pub closing_kinds_ok : List ℕ → Bool
closing_kinds_ok t = all_gates is_closing 0 (closing_lines t)

-- 01, refusal 7, does not apply: operands are below their gate, and outputs within the circuit.
abbrev pub operands_below : ℕ → Gate → Bool
operands_below n g = ltb g.left n && ltb g.right n

abbrev pub reference_below : (top : ℕ) → ℕ → Gate → Bool
reference_below top n line = ltb (reference line) top

abbrev pub operands_ok : List ℕ → Bool
operands_ok t = all_gates operands_below (first_gate (inputs t)) (gate_lines t)

abbrev pub closing_references_ok : List ℕ → Bool
closing_references_ok t = all_gates (reference_below (refs t)) 0 (closing_lines t)

-- 01, Refusals, 1: the table that a refusal names
abbrev pub circuit_table : ℕ
circuit_table = 1

-- 01, Refusals, 2: the lowest number that applies, all 6s before any 7, and 11 right after 5 (02, 2026-01); 0 if none does.
unfoldable pub refusal : List ℕ → ℕ
refusal t =
    first (is_partial 3 t) 1
    (first (not (head_in_limits t)) 4
    (first (not (lines_as_head_says t)) 5
    (first (not (starts_ok t)) 11
    (first (not (gate_kinds_ok t && closing_kinds_ok t)) 6
    (first (not (operands_ok t && closing_references_ok t)) 7
    0)))))
