-- `same` is equality. Assumes nothing.
use mathlib.Core.Path.{◌≡◌, refl, sym, ap, ap₂, ◌∙◌}
use mathlib.Core.Bool.{Bool, true, ◌&&◌, false≢true, and_assoc}
use mathlib.Core.List.{List, [], ◌∷◌, ◌++◌}
use Prim.Native.Nat.{ℕ}
use native.Mathlib.Omega.{arith}
use lib.Dec.{eqb}
use lib.ListN.{length}
use borrow.Author.Tests.{eq-eqb, eqb-true}
use Rattle.lists.specs.Same.{same}
use Rattle.lists.proofs.Tests.{left-of, right_of}

pub same_refl : (xs : List ℕ) → same xs xs ≡ true
unfolding same
same_refl [] = refl
same_refl (x ∷ xs) = rw (eq-eqb x x refl) (same_refl xs)

pub same-is : (xs ys : List ℕ) → same xs ys ≡ true → xs ≡ ys
unfolding same
same-is [] [] e = refl
same-is [] (y ∷ ys) e = absurd (false≢true e)
same-is (x ∷ xs) [] e = absurd (false≢true e)
same-is (x ∷ xs) (y ∷ ys) e = ap₂ ◌∷◌ (eqb-true x y (left-of (eqb x y) (same xs ys) e)) (same-is xs ys (right_of (eqb x y) (same xs ys) e))

pub same-append : (xs xs' ys ys' : List ℕ) → length xs ≡ length xs' → same (xs ++ ys) (xs' ++ ys') ≡ same xs xs' && same ys ys'
unfolding same
same-append [] [] ys ys' e = refl
same-append [] (x ∷ xs') ys ys' e = absurd (omega arith)
same-append (x ∷ xs) [] ys ys' e = absurd (omega arith)
same-append (x ∷ xs) (x' ∷ xs') ys ys' e =
    ap (λ (b : Bool). eqb x x' && b) (same-append xs xs' ys ys' (omega arith)) ∙ sym (and_assoc (eqb x x') (same xs xs') (same ys ys'))
