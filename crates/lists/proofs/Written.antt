-- A loop that writes a known list over the front of a buffer, one element a turn. Assumes nothing.
use mathlib.Core.Path.{◌≡◌, refl, sym, ap, ◌∙◌}
use mathlib.Core.List.{List, [], ◌∷◌, ◌++◌}
use Prim.Native.Nat.{ℕ, zero, suc, ◌+◌, ◌<◌}
use native.Mathlib.Nat.{le_of_suc-le-suc, not-suc-le-zero, le_of_eq}
use native.Mathlib.Numerals.{add-one}
use lib.ListN.{length, take, drop, get_or, set, length-set}
use lib.Seq.{take_all}

-- d is d₀ with the first i elements of xs over its front
pub record Written {A : Type 0} (xs d₀ d : List A) (i : ℕ) : Type 0 where
  pub front : d ≡ take i xs ++ drop i d₀
  pub long : length d ≡ length d₀

module _ {A : Type 0} (z : A) where
  store : (xs ys : List A) (i : ℕ) (v : A) → i < length xs → i < length ys → v ≡ get_or xs i z → set (take i xs ++ drop i ys) i v ≡ take (suc i) xs ++ drop (suc i) ys
  store [] ys i v h k e = absurd (not-suc-le-zero h)
  store (x ∷ xs) [] i v h k e = absurd (not-suc-le-zero k)
  store (x ∷ xs) (y ∷ ys) zero v h k e = ap (λ a. a ∷ ys) e
  store (x ∷ xs) (y ∷ ys) (suc i) v h k e = ap (λ l. x ∷ l) (store xs ys i v (le_of_suc-le-suc h) (le_of_suc-le-suc k) e)

  module _ (xs d₀ : List A) where
    pub written_none : Written xs d₀ d₀ 0
    written_none = record { front = refl; long = refl }

    pub written-more : (d : List A) (i : ℕ) (v : A) → Written xs d₀ d i → i < length xs → i < length d₀ → v ≡ get_or xs i z → Written xs d₀ (set d i v) (i + 1)
    written-more d i v w h k e =
        record { front = rw add-one (ap (λ l. set l i v) w.front ∙ store xs d₀ i v h k e); long = rw length-set w.long }

    pub written_all : (d : List A) (i : ℕ) → Written xs d₀ d i → i ≡ length xs → d ≡ xs ++ drop i d₀
    written_all d i w e = w.front ∙ ap (λ l. l ++ drop i d₀) (take_all i xs (le_of_eq (sym e)))
