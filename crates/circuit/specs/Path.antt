-- 01, Circuits, 7, and Depth and critical count, 3, and 02, 2026-06: the paths from v up to an output, and the AND gates on them that count, v
-- left out.
use Rattle.std.specs.Prelude.{ℕ, Bool, false, ◌&&◌, ◌||◌, List, [], ◌∷◌, eqb, leb, ltb}
use Rattle.circuit.specs.Circuit.{Gate, Circuit, first_gate, references, gate_at}
use Rattle.circuit.specs.Depth.{plus_counted}

-- whether v is one of the list
unfoldable pub is_among : ℕ → List ℕ → Bool
is_among v [] = false
is_among v (o ∷ os) = eqb v o || is_among v os

abbrev pub is_output : Circuit → ℕ → Bool
is_output c v = is_among v c.outputs

abbrev pub is_gate : Circuit → ℕ → Bool
is_gate c v = leb (first_gate c.inputs) v && ltb v (references c)

abbrev pub is_operand : ℕ → Gate → Bool
is_operand v g = eqb v g.left || eqb v g.right

-- whether some gate of a list uses v
unfoldable pub is_used : (v : ℕ) → List Gate → Bool
is_used v [] = false
is_used v (g ∷ gs) = is_operand v g || is_used v gs

-- A path from v is the list of the gates that it goes up through: each has the reference before it as an operand, and the
-- last, or v itself if there is none, is an output.
unfoldable pub is_path : Circuit → (v : ℕ) → (path : List ℕ) → Bool
is_path c v [] = is_output c v
is_path c v (w ∷ ws) = is_gate c w && (is_operand v (gate_at c w) && is_path c w ws)

-- how many gates on it count, v left out
unfoldable pub counted_on : Circuit → (path : List ℕ) → ℕ
counted_on c [] = 0
counted_on c (w ∷ ws) = plus_counted (gate_at c w) (counted_on c ws)
