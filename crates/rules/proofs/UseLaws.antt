-- Which references are used: by later gates only, and the holes and left gates that are to be used as one range. Assumes nothing.
use mathlib.Core.Path.{◌≡◌, refl, sym, ap, ap₂, ◌∙◌}
use mathlib.Core.Bool.{true, false, ◌||◌}
use mathlib.Core.List.{List, [], ◌∷◌}
use Prim.Native.Nat.{ℕ, zero, suc, ◌+◌, ◌-◌, ◌≤◌, ◌<◌}
use native.Mathlib.Decide.{dec_lt}
use native.Mathlib.Omega.{arith}
use lib.Dec.{ltb}
use lib.ListN.{length, drop}
use borrow.Author.Tests.{ltb-true, ne_eqb}
use Rattle.lists.specs.Below.{all_below}
use Rattle.lists.proofs.Tests.{same_test, both, left-of, right_of}
use Rattle.lists.proofs.Below.{below_at, below_of}
use Rattle.circuit.specs.Circuit.{Gate, constants, first_gate}
use Rattle.circuit.specs.Each.{all_gates}
use Rattle.circuit.specs.Path.{is_operand, is_used}
use Rattle.circuit.specs.Refusal.{operands_below}
use Rattle.rules.specs.Rule.{Rule}
use Rattle.rules.specs.RuleRefusal.{hole_used, left_used, uses_ok}
use Rattle.rules.specs.Theorems.{UseIsLater}

-- a gate's operands lie below it
not-used : (m r : ℕ) (g : Gate) → operands_below m g ≡ true → m ≤ r → is_operand r g ≡ false
not-used m r g o h =
    let a : g.left < m = ltb-true _ _ (left-of (ltb g.left m) (ltb g.right m) o) in
    let b : g.right < m = ltb-true _ _ (right_of (ltb g.left m) (ltb g.right m) o) in
    ap₂ ◌||◌ (ne_eqb r g.left (λ e. omega arith)) (ne_eqb r g.right (λ e. omega arith))

-- so the gates up to a reference don't use it
pub used-later : (m : ℕ) (gs : List Gate) → all_gates operands_below m gs ≡ true → (i r : ℕ) → m + i ≤ r + 1 → is_used r (drop i gs) ≡ is_used r gs
unfolding all_gates is_used
used-later m gs h zero r l = refl
used-later m [] h (suc i) r l = refl
used-later m (g ∷ gs) h (suc i) r l =
    let o = left-of (operands_below m g) (all_gates operands_below (suc m) gs) h in
    let e : is_operand r g ≡ false = not-used m r g o (omega arith) in
    used-later (suc m) gs (right_of (operands_below m g) (all_gates operands_below (suc m) gs) h) i r (omega arith) ∙ sym (ap (λ b. b || is_used r gs) e)

-- the references from 2 up to the root are the holes, then the left gates but the last
pub uses-below : (u : Rule) → 1 ≤ length u.lefts → all_below (hole_used u) (u.holes + length u.lefts - 1) ≡ uses_ok u
uses-below u some =
    same_test _ _
    (λ h. both {a = all_below (hole_used u) u.holes}
    (below_of (hole_used u) u.holes (λ j l. below_at (hole_used u) n j h (omega arith)))
    (below_of (left_used u) (length u.lefts - 1) (λ i l. sym (same i) ∙ below_at (hole_used u) n (u.holes + i) h (omega arith))))
    (λ h. below_of (hole_used u) n (λ i l.
    elim (dec_lt i u.holes) [
      | yes k ↦ below_at (hole_used u) u.holes i (left-of (all_below (hole_used u) u.holes) _ h) k
      | no k ↦
          let e : i ≡ u.holes + (i - u.holes) = omega arith in
          ap (hole_used u) e ∙ same (i - u.holes)
          ∙ below_at (left_used u) (length u.lefts - 1) (i - u.holes) (right_of (all_below (hole_used u) u.holes) _ h) (omega arith)
    ]))
  where
    n : ℕ
    n = u.holes + length u.lefts - 1

    same : (i : ℕ) → hole_used u (u.holes + i) ≡ left_used u i
    same i = let e : u.holes + i + constants ≡ first_gate u.holes + i = omega arith in ap (λ r. is_used r u.lefts) e

pub use-is-later : UseIsLater
use-is-later u some ok = (
  λ h. (
    λ j l. below_at (hole_used u) u.holes j (left-of (all_below (hole_used u) u.holes) _ h) l,
    λ i l. later i ∙ below_at (left_used u) (length u.lefts - 1) i (right_of (all_below (hole_used u) u.holes) _ h) (omega arith),
  ),
  λ p. both {a = all_below (hole_used u) u.holes} (below_of (hole_used u) u.holes p.0)
      (below_of (left_used u) (length u.lefts - 1) (λ i l. sym (later i) ∙ p.1 i (omega arith))),
)
  where
    later : (i : ℕ) → is_used (first_gate u.holes + i) (drop (i + 1) u.lefts) ≡ left_used u i
    later i =
        used-later (first_gate u.holes) u.lefts (left-of (all_gates operands_below (first_gate u.holes) u.lefts) _ ok) (i + 1) (first_gate u.holes + i) (omega arith)
