-- Live (01, Circuits, 7) and above (01, Depth and critical count, 3, and 02, 2026-06) in one pass from the last gate to the first. A reference's
-- reverse depth is 0 if it is not live, else its above plus 1. That this is what 01's paths say: `LiveIsReached` and
-- `AboveIsLargest` in Theorems.antt.
-- An example: inputs 2 and 3, gate 4 the AND 2·3, gate 5 the XOR 3⊕3, gate 6 the AND 4·3, which is the output. Marked: 6 has 1. Gate 6 is
-- live and counts, so 4 and 3 get 2; gate 5 is dead and passed over; gate 4 is live and counts, so 2 and 3 get 3. So the reverse depths of
-- 2 to 6 are 3, 3, 2, 0, 1, and above(3) is 2, by the path through 4 and 6, not 1, by the path through 6 alone.
use Rattle.std.specs.Prelude.{ℕ, suc, ◌-◌, max, Bool, List, [], ◌∷◌, eqb, ltb, get_or, set, replicate}
use Rattle.lists.specs.First.{first}
use Rattle.circuit.specs.Circuit.{Gate, Circuit, first_gate, references}
use Rattle.circuit.specs.Depth.{plus_counted}

-- each output is live, so far with nothing above it
unfoldable pub mark_outputs : (outputs d : List ℕ) → List ℕ
mark_outputs [] d = d
mark_outputs (o ∷ os) d = mark_outputs os (set d o 1)

-- place v of d raised to x, where it is lower
abbrev pub raise : (d : List ℕ) (v x : ℕ) → List ℕ
raise d v x = set d v (max (get_or d v 0) x)

-- A live gate g of reference n makes its operands live; if it counts, there is one more above them.
unfoldable pub raise_operands : ℕ → Gate → (d : List ℕ) → List ℕ
raise_operands n g d =
    first (eqb (get_or d n 0) 0) d
    (raise (raise d g.left (plus_counted g (get_or d n 0))) g.right (plus_counted g (get_or d n 0)))

-- the gates from reference n on, the last one first
unfoldable pub raise_gates : ℕ → List Gate → (d : List ℕ) → List ℕ
raise_gates n [] d = d
raise_gates n (g ∷ gs) d = raise_operands n g (raise_gates (suc n) gs d)

-- the reverse depth of each reference
unfoldable pub reverse_depths : Circuit → List ℕ
reverse_depths c = raise_gates (first_gate c.inputs) c.gates (mark_outputs c.outputs (replicate (references c) 0))

abbrev pub reverse_depth : Circuit → (v : ℕ) → ℕ
reverse_depth c v = get_or (reverse_depths c) v 0

-- 01, Circuits, 7: some output reaches v
abbrev pub is_live : Circuit → (v : ℕ) → Bool
is_live c v = ltb 0 (reverse_depth c v)

-- 01, Depth and critical count, 3: above(v), of a live v
abbrev pub above : Circuit → (v : ℕ) → ℕ
above c v = reverse_depth c v - 1
