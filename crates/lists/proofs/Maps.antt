-- Lists made by `map`, `replicate` and `take`. Assumes nothing.
use mathlib.Core.Path.{◌≡◌, refl, sym, ap, ◌∙◌}
use mathlib.Core.List.{List, [], ◌∷◌, map}
use Prim.Native.Nat.{ℕ, zero, suc, ◌≤◌, ◌<◌}
use native.Mathlib.Nat.{add-zero, not-suc-le-zero, le_of_suc-le-suc}
use native.Mathlib.Decide.{dec_lt}
use native.Mathlib.Omega.{arith}
use lib.ListN.{take, drop, get_or, set, replicate, length-take}
use lib.Seq.{get_or-drop, get_or-take, take-set-lt, take-set-le, set_out}

module _ {A B : Type 0} (f : A → B) where
  pub map-drop : (i : ℕ) (xs : List A) → drop i (map f xs) ≡ map f (drop i xs)
  map-drop zero xs = refl
  map-drop (suc i) [] = refl
  map-drop (suc i) (x ∷ xs) = map-drop i xs

  -- element i of a mapped list, where a loop has come to x
  pub map-step : (i : ℕ) (xs rest : List A) (x : A) (z : B) → drop i xs ≡ x ∷ rest → get_or (map f xs) i z ≡ f x
  map-step i xs rest x z e =
      ap (λ k. get_or (map f xs) k z) (sym (add-zero i)) ∙ sym (get_or-drop i (map f xs) 0 z) ∙ ap (λ l. get_or l 0 z) (map-drop i xs ∙ ap (map f) e)

module _ {A : Type 0} where
  pub take-replicate : (m n : ℕ) (a : A) → m ≤ n → take m (replicate n a) ≡ replicate m a
  take-replicate zero n a h = refl
  take-replicate (suc m) zero a h = absurd (not-suc-le-zero h)
  take-replicate (suc m) (suc n) a h = ap (λ l. a ∷ l) (take-replicate m n a (le_of_suc-le-suc h))

  -- a store, seen by one who looks at the first n elements
  pub take-set : (n : ℕ) (d : List A) (p : ℕ) (v : A) → take n (set d p v) ≡ set (take n d) p v
  take-set n d p v =
      elim (dec_lt p n) [
        | yes l ↦ take-set-lt n d p v l
        | no l ↦ take-set-le n d p v (omega arith) ∙ sym (set_out (take n d) p v (omega (arith, length-take n d)))
      ]

  -- an element among the first n, where those are known
  pub take-read : (n : ℕ) (d xs : List A) (i : ℕ) (z : A) → take n d ≡ xs → i < n → get_or d i z ≡ get_or xs i z
  take-read n d xs i z e h = sym (get_or-take n d i z h) ∙ ap (λ l. get_or l i z) e
