-- 01, Depth and critical count, 1 and 2, and 02, 2026-01 and 2026-06: the depth of a reference, and D.
use Rattle.std.specs.Prelude.{ℕ, ◌+◌, max, Bool, not, ◌&&◌, ◌||◌, List, [], ◌∷◌, eqb, get_or, set, replicate}
use Rattle.lists.specs.First.{first}
use Rattle.lists.specs.Each.{append_each}
use Rattle.circuit.specs.Circuit.{Gate, Start, Circuit, and_kind, is_constant, first_gate}
use Rattle.circuit.specs.Fold.{at_outputs}

-- whether a gate counts, for depth, above and N: an AND does, but not one with a constant on either side (02, 2026-06), and an XOR does not
-- (other kinds are refused). Only the operands' references say so: a gate whose value is the same on every input is no constant.
abbrev pub is_counted : Gate → Bool
is_counted g = eqb g.kind and_kind && not (is_constant g.left || is_constant g.right)

-- 1 more for a gate that counts
abbrev pub plus_counted : Gate → (x : ℕ) → ℕ
plus_counted g x = first (is_counted g) (x + 1) x

-- a gate's depth, where d has those of the references before it: the larger of its operands', and 1 more if it counts
abbrev pub gate_depth : Gate → (d : List ℕ) → ℕ
gate_depth g d = plus_counted g (max (get_or d g.left 0) (get_or d g.right 0))

-- 02, 2026-01: d with each starting level in the place of its input
unfoldable pub set_levels : List Start → (d : List ℕ) → List ℕ
set_levels [] d = d
set_levels (s ∷ ss) d = set_levels ss (set d s.input s.level)

-- the starting levels of the constants and inputs, which are their depths: 0 but for the inputs that are listed (`StartsAtLevel` in
-- Theorems.antt)
unfoldable pub start_levels : Circuit → List ℕ
start_levels c = set_levels c.starts (replicate (first_gate c.inputs) 0)

-- the depth of each reference, gate by gate; that source 003's equation holds of it: `DepthOfGate` and `DepthIsMultiplicative` in
-- Theorems.antt
unfoldable pub depths : Circuit → List ℕ
depths c = append_each gate_depth c.gates (start_levels c)

abbrev pub depth : Circuit → (v : ℕ) → ℕ
depth c v = get_or (depths c) v 0

unfoldable pub largest : List ℕ → ℕ
largest [] = 0
largest (x ∷ xs) = max x (largest xs)

-- D: the largest depth of an output
unfoldable pub circuit_depth : Circuit → ℕ
circuit_depth c = largest (at_outputs 0 c (depths c))
