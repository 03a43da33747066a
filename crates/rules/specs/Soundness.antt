-- 01, Rules, 6: when a rule is sound; 02, 2026-07, 2, for ten holes, which have 1,024 assignments.
use Rattle.std.specs.Prelude.{ℕ, ◌/◌, ◌%◌, ◌^◌, Bool, List, ◌∷◌, eqb, get_or}
use Rattle.lists.specs.Below.{all_below, map_below}
use Rattle.circuit.specs.Circuit.{Gate}
use Rattle.circuit.specs.Fold.{fold_gates}
use Rattle.circuit.specs.Evaluation.{bit_op}
use Rattle.rules.specs.Rule.{Rule, root}

-- bit i of a number, worth 2 to the power i
abbrev pub bit : (i x : ℕ) → ℕ
bit i x = x / 2 ^ i % 2

-- what reference r of a side comes to, where the constants and the holes have the values of the start list
abbrev pub side_value : List Gate → (r : ℕ) (start : List ℕ) → ℕ
side_value gs r start = get_or (fold_gates bit_op 0 gs start) r 0

-- the constants, then the holes by an assignment, which gives hole j its bit
abbrev pub start_holes : (holes : ℕ) (assignment : ℕ → ℕ) → List ℕ
start_holes holes assignment = 0 ∷ 1 ∷ map_below assignment holes

-- the two sides' values: the left side's last gate and the right side's closing reference
abbrev pub left_value : Rule → (assignment : ℕ → ℕ) → ℕ
left_value u assignment = side_value u.lefts (root u) (start_holes u.holes assignment)

abbrev pub right_value : Rule → (assignment : ℕ → ℕ) → ℕ
right_value u assignment = side_value u.rights u.closing (start_holes u.holes assignment)

-- assignment a, of those below 2 to the power of the holes: hole j has bit j of a
abbrev pub assignment : (a hole : ℕ) → ℕ
assignment a j = bit j a

abbrev pub agrees_at : Rule → (a : ℕ) → Bool
agrees_at u a = eqb (left_value u (assignment a)) (right_value u (assignment a))

-- Sound: both sides agree at each of these. So they agree on every assignment of bits, and conversely (`SoundIsAgreement` in
-- Theorems.antt).
unfoldable pub is_sound : Rule → Bool
is_sound u = all_below (agrees_at u) (2 ^ u.holes)
