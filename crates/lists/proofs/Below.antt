-- Laws of `all_below` and `map_below`: loops that test or list the numbers below n, and what holds of each. Assumes nothing.
use mathlib.Core.Path.{◌≡◌, refl, sym, ap, ap₂, ◌∙◌}
use mathlib.Core.Bool.{Bool, true}
use mathlib.Core.List.{[], ◌∷◌, ◌++◌, map, map-append}
use Prim.Native.Nat.{ℕ, zero, suc, ◌+◌, ◌≤◌, ◌<◌}
use native.Mathlib.Nat.{not-suc-le-zero, le_refl}
use native.Mathlib.Decide.{dec_lt}
use native.Mathlib.Numerals.{add-one}
use native.Mathlib.Omega.{arith}
use lib.ListN.{length, take, get_or, length-append, get_or-append, get_or-eq_default}
use lib.Seq.{take_all, take-append-le, get_or-append_seam}
use Rattle.lists.specs.Below.{all_below, map_below}
use Rattle.lists.proofs.Tests.{both, left-of, right_of}

module _ (test : ℕ → Bool) where
  pub below_none : all_below test 0 ≡ true
  unfolding all_below
  below_none = refl

  pub below_more : (n : ℕ) → all_below test n ≡ true → test n ≡ true → all_below test (n + 1) ≡ true
  unfolding all_below
  below_more n e h = rw add-one (both {a = all_below test n} {b = test n} e h)

  -- a number of those that all pass
  pub below_at : (n i : ℕ) → all_below test n ≡ true → i < n → test i ≡ true
  unfolding all_below
  below_at zero i e h = absurd (not-suc-le-zero h)
  below_at (suc n) i e h =
      elim (dec_lt i n) [
        | yes l ↦ below_at n i (left-of (all_below test n) (test n) e) l
        | no l ↦
            let q : i ≡ n = omega arith in
            ap test q ∙ right_of (all_below test n) (test n) e
      ]

  pub below_of : (n : ℕ) → ((i : ℕ) → i < n → test i ≡ true) → all_below test n ≡ true
  unfolding all_below
  below_of zero h = refl
  below_of (suc n) h = both {a = all_below test n} {b = test n} (below_of n (λ i l. h i (omega arith))) (h n (le_refl (suc n)))

module _ {A : Type 0} (make : ℕ → A) where
  pub below_length : (n : ℕ) → length (map_below make n) ≡ n
  unfolding map_below
  below_length zero = refl
  below_length (suc n) = length-append (map_below make n) (make n ∷ []) ∙ omega (arith, below_length n)

  pub below-element : (n i : ℕ) (z : A) → i < n → get_or (map_below make n) i z ≡ make i
  unfolding map_below
  below-element zero i z h = absurd (not-suc-le-zero h)
  below-element (suc n) i z h =
      elim (dec_lt i n) [
        | yes l ↦ get_or-append (map_below make n) (make n ∷ []) z i (rw (below_length n) l) ∙ below-element n i z l
        | no l ↦
            let q : i ≡ length (map_below make n) = omega (arith, below_length n) in
            let r : i ≡ n = omega arith in
            ap (λ k. get_or (map_below make n ++ (make n ∷ [])) k z) q ∙ get_or-append_seam (map_below make n) (make n) [] z ∙ ap make (sym r)
      ]

  -- the first of them
  pub below-take : (m n : ℕ) → m ≤ n → take m (map_below make n) ≡ map_below make m
  unfolding map_below
  below-take m zero h = let e : m ≡ 0 = omega arith in rw e
  below-take m (suc n) h =
      elim (dec_lt n m) [
        | yes l ↦
            let e : m ≡ suc n = omega arith in
            rw e (take_all (suc n) (map_below make (suc n)) (omega (arith, below_length (suc n))))
        | no l ↦ take-append-le m (map_below make n) (make n ∷ []) (omega (arith, below_length n)) ∙ below-take m n (omega arith)
      ]

  -- what holds of z and of whatever is made holds of each element
  pub below_each : (P : A → Type 0) (z : A) → P z → (n : ℕ) → ((i : ℕ) → i < n → P (make i)) → (r : ℕ) → P (get_or (map_below make n) r z)
  below_each P z pz n h r =
      elim (dec_lt r n) [
        | yes l ↦ rw (below-element n r z l) (h r l)
        | no l ↦ rw (get_or-eq_default (map_below make n) z {n = r} (omega (arith, below_length n))) pz
      ]

pub below-map : {A B : Type 0} (f : A → B) (make : ℕ → A) (n : ℕ) → map f (map_below make n) ≡ map_below (λ i. f (make i)) n
unfolding map_below
below-map f make zero = refl
below-map f make (suc n) = map-append f (map_below make n) (make n ∷ []) ∙ ap (λ l. l ++ (f (make n) ∷ [])) (below-map f make n)

pub below-same : {A : Type 0} (f g : ℕ → A) (n : ℕ) → ((i : ℕ) → i < n → f i ≡ g i) → map_below f n ≡ map_below g n
unfolding map_below
below-same f g zero e = refl
below-same f g (suc n) e = ap₂ (λ l x. l ++ (x ∷ [])) (below-same f g n (λ i h. e i (omega arith))) (e n (le_refl (suc n)))
