-- The first of some records, where whatever looks at a record looks no further than its end. Assumes nothing.
use mathlib.Core.Path.{◌≡◌, refl, ap, ap₂, ◌∙◌}
use mathlib.Core.Bool.{Bool, true, ◌&&◌}
use mathlib.Core.List.{List, ◌++◌}
use Prim.Native.Nat.{ℕ, zero, suc, ◌+◌, ◌*◌, ◌≤◌}
use native.Mathlib.Nat.{mul-zero, mul-suc, not-suc-le-zero, le_of_suc-le-suc}
use native.Mathlib.Omega.{arith}
use lib.ListN.{length, take, drop, length-drop}
use lib.Seq.{drop-append-le, take-append-add}
use Rattle.lists.specs.Records.{map_records, all_records}
use Rattle.lists.proofs.Tests.{both, left-of, right_of}

module _ {A : Type 0} (test : List A → Bool) (size : ℕ) where
  pub all-fewer : (k n : ℕ) (t : List A) → k ≤ n → all_records test size n t ≡ true → all_records test size k t ≡ true
  unfolding all_records
  all-fewer zero n t h e = refl
  all-fewer (suc k) zero t h e = absurd (not-suc-le-zero h)
  all-fewer (suc k) (suc n) t h e =
      both {a = test t} {b = all_records test size k (drop size t)} (left-of (test t) _ e) (all-fewer k n (drop size t) (le_of_suc-le-suc h) (right_of (test t) _ e))

  pub all_append : ((t r : List A) → size ≤ length t → test (t ++ r) ≡ test t) → (n : ℕ) (t r : List A) → length t ≡ size * n
      → all_records test size n (t ++ r) ≡ all_records test size n t
  unfolding all_records
  all_append near zero t r e = refl
  all_append near (suc n) t r e =
      let l : length t ≡ size * n + size = e ∙ mul-suc size n in
      ap₂ ◌&&◌ (near t r (omega arith))
      (ap (all_records test size n) (drop-append-le size t r (omega arith)) ∙ all_append near n (drop size t) r (rw length-drop (omega arith)))

module _ {A B : Type 0} (make : List A → List B) (size : ℕ) where
  pub map-append : ((t r : List A) → size ≤ length t → make (t ++ r) ≡ make t) → (n : ℕ) (t r : List A) → length t ≡ size * n
      → map_records make size n (t ++ r) ≡ map_records make size n t
  unfolding map_records
  map-append near zero t r e = refl
  map-append near (suc n) t r e =
      let l : length t ≡ size * n + size = e ∙ mul-suc size n in
      ap₂ ◌++◌ (near t r (omega arith))
      (ap (map_records make size n) (drop-append-le size t r (omega arith)) ∙ map-append near n (drop size t) r (rw length-drop (omega arith)))

  pub map-fewer : (width : ℕ) → ((t : List A) → length (make t) ≡ width) → (k n : ℕ) (t : List A) → k ≤ n
      → take (width * k) (map_records make size n t) ≡ map_records make size k t
  unfolding map_records
  map-fewer width wide zero n t h = rw (mul-zero width)
  map-fewer width wide (suc k) zero t h = absurd (not-suc-le-zero h)
  map-fewer width wide (suc k) (suc n) t h =
      let e : width * suc k ≡ length (make t) + width * k = omega (arith, mul-suc width k, wide t) in
      ap (λ j. take j (make t ++ map_records make size n (drop size t))) e ∙ take-append-add (make t) (map_records make size n (drop size t)) (width * k)
      ∙ ap (λ r. make t ++ r) (map-fewer width wide k n (drop size t) (le_of_suc-le-suc h))
