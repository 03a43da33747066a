-- 01, Circuits, 8: trimming takes the dead gates out; the others keep their order and are renumbered. The starting lines stay (02, 2026-01).
-- That live is 01's: `LiveIsReached` in Theorems.antt.
use Rattle.std.specs.Prelude.{ℕ, zero, suc, ◌+◌, Bool, ◌&&◌, ◌||◌, List, [], ◌∷◌, map, eqb, ltb, get_or}
use Rattle.lists.specs.First.{first}
use Rattle.circuit.specs.Circuit.{Gate, Circuit, first_gate, references, no_gate}
use Rattle.circuit.specs.Table.{decode, encode}
use Rattle.circuit.specs.ReverseDepth.{is_live}

-- a gate with its operands renamed
abbrev pub rename_gate : (ℕ → ℕ) → Gate → Gate
rename_gate ρ g = record { kind = g.kind; left = ρ g.left; right = ρ g.right }

-- how many references below v are kept: the new number of v
unfoldable pub rank : (kept : ℕ → Bool) → (v : ℕ) → ℕ
rank kept zero = 0
rank kept (suc v) = first (kept v) (rank kept v + 1) (rank kept v)

-- the gates that are kept, renumbered; the first of the list is reference n
unfoldable pub keep_gates : (kept : ℕ → Bool) → (n : ℕ) → List Gate → List Gate
keep_gates kept n [] = []
keep_gates kept n (g ∷ gs) = first (kept n) (rename_gate (rank kept) g ∷ keep_gates kept (suc n) gs) (keep_gates kept (suc n) gs)

-- which references stay: the constants and inputs, and of the gates those that are live
abbrev pub is_kept : Circuit → (v : ℕ) → Bool
is_kept c v = ltb v (first_gate c.inputs) || is_live c v

-- the number of reference v in the trimmed circuit
abbrev pub new_number : Circuit → (v : ℕ) → ℕ
new_number c = rank (is_kept c)

-- of the first n references, the one that is kept and has the new number v; `beyond` if there is none
unfoldable pub old_below : (kept : ℕ → Bool) (beyond v : ℕ) → (n : ℕ) → ℕ
old_below kept beyond v zero = beyond
old_below kept beyond v (suc n) = first (kept n && eqb (rank kept n) v) n (old_below kept beyond v n)

-- the reference whose number in the trimmed circuit is v; one beyond the circuit if there is none (`OldNumberLeadsBack` in Theorems.antt)
abbrev pub old_number : Circuit → (v : ℕ) → ℕ
old_number c v = old_below (is_kept c) (references c) v (references c)

-- gate i of the circuit, renumbered
abbrev pub renumbered_gate : Circuit → (i : ℕ) → Gate
renumbered_gate c i = rename_gate (new_number c) (get_or c.gates i no_gate)

-- the gates and outputs of the trimmed circuit
abbrev pub trimmed_gates : Circuit → List Gate
trimmed_gates c = keep_gates (is_kept c) (first_gate c.inputs) c.gates

abbrev pub trimmed_outputs : Circuit → List ℕ
trimmed_outputs c = map (new_number c) c.outputs

unfoldable pub trim : Circuit → Circuit
trim c = record { inputs = c.inputs; starts = c.starts; gates = trimmed_gates c; outputs = trimmed_outputs c }

-- the table of the trimmed circuit
abbrev pub trim_of : List ℕ → List ℕ
trim_of t = encode (trim (decode t))
