-- Laws of `map_records` and `all_records`: what loops over records, and readers of their results, need. Assumes nothing.
use mathlib.Core.Path.{◌≡◌, refl, sym, ap, ◌∙◌}
use mathlib.Core.List.{List, [], ◌∷◌, ◌++◌, append_assoc, append-nil}
use mathlib.Core.Bool.{Bool, true, ◌&&◌, and-true, and_assoc}
use Prim.Native.Nat.{ℕ, zero, suc, ◌+◌, ◌*◌, ◌/◌, ◌≤◌, ◌<◌}
use native.Mathlib.Nat.{add-div_left, div-eq_of_lt, zero-add, mul-zero, mul-suc, mul-le-mul_left, mul_comm, div-lt_iff_lt-mul, div-mul-le_self, add_comm, not-suc-le-zero, le_of_suc-le-suc}
use native.Mathlib.Numerals.{add-one}
use native.Mathlib.Omega.{arith}
use lib.ListN.{length, drop, get_or, length-append, length-drop, get_or-append}
use lib.Seq.{sets, length-sets, drop-drop, drop_at, drop-append-add, get_or-append-add}
use Rattle.lists.specs.Records.{map_records, all_records}
use Rattle.lists.proofs.Tests.{left-of, right_of}
use Rattle.lists.proofs.Stores.{sets_behind}

-- where record n + 1 begins
next : (size n : ℕ) → size + size * n ≡ size * suc n
next size n = add_comm size (size * n) ∙ sym (mul-suc size n)

module _ {A : Type 0} (test : List A → Bool) (size : ℕ) where
  -- a turn of a loop that tests each record
  pub all_more : (n : ℕ) (t : List A) → all_records test size (suc n) t ≡ all_records test size n t && test (drop (size * n) t)
  unfolding all_records
  all_more zero t = rw (mul-zero, and-true)
  all_more (suc n) t = ap (λ (b : Bool). test t && b) (all_more n (drop size t)) ∙ rw (drop-drop, next, and_assoc)

  -- record i of those that all pass
  pub all-at : (i n : ℕ) (t : List A) → i < n → all_records test size n t ≡ true → test (drop (size * i) t) ≡ true
  unfolding all_records
  all-at i zero t h e = absurd (not-suc-le-zero h)
  all-at zero (suc n) t h e = rw mul-zero (left-of (test t) _ e)
  all-at (suc i) (suc n) t h e = rw (drop-drop, next) at (all-at i n (drop size t) (le_of_suc-le-suc h) (right_of (test t) _ e))

  -- a test that all pass
  pub all-of : ((t : List A) → test t ≡ true) → (n : ℕ) (t : List A) → all_records test size n t ≡ true
  unfolding all_records
  all-of e zero t = refl
  all-of e (suc n) t = rw (e t, all-of e n (drop size t))

  -- a weaker test
  pub all-imply : (weaker : List A → Bool) → ((t : List A) → test t ≡ true → weaker t ≡ true)
      → (n : ℕ) (t : List A) → all_records test size n t ≡ true → all_records weaker size n t ≡ true
  unfolding all_records
  all-imply weaker imply zero t e = refl
  all-imply weaker imply (suc n) t e = rw (imply t (left-of (test t) _ e), all-imply weaker imply n (drop size t) (right_of (test t) _ e))

  -- the records behind the first k
  pub all-behind : (k n m : ℕ) (t : List A) → n ≡ k + m → all_records test size n t ≡ true → all_records test size m (drop (size * k) t) ≡ true
  unfolding all_records
  all-behind zero n m t q e = let q' : n ≡ m = omega arith in rw (mul-zero, ← q') e
  all-behind (suc k) zero m t q e = let z : ⊥ = omega arith in absurd z
  all-behind (suc k) (suc n) m t q e = rw (drop-drop, next) at (all-behind k n m (drop size t) (omega arith) (right_of (test t) _ e))

-- there is room for record i of n
pub record-room : (size i n len : ℕ) → i < n → size * n ≤ len → size * i + size ≤ len
record-room size i n len h l = omega (arith, mul-suc size i, mul-le-mul_left {m = suc i} {n = n} size h)

-- whether there is room for n records, by how many have room
pub room-none : (size n len : ℕ) → 0 < size → len / size < n → len < size * n
room-none size n len some h = rw (mul_comm size n) ((div-lt_iff_lt-mul some).0 h)

pub room-there : (size n len : ℕ) → 0 < size → n ≤ len / size → size * n ≤ len
room-there size n len some h = omega (arith, mul-le-mul_left {m = n} {n = len / size} size h, div-mul-le_self len size, mul_comm size (len / size))

-- a loop over whole chunks, where a record looks no further than its end: `rest` is what is left
module _ {A : Type 0} (test : List A → Bool) (size : ℕ) (some : 0 < size) where
  pub all-chunk : ((t r : List A) → size ≤ length t → test (t ++ r) ≡ test t) → (x rest : List A) → length x ≡ size
      → all_records test size (length (x ++ rest) / size) (x ++ rest) ≡ test x && all_records test size (length rest / size) rest
  unfolding all_records
  all-chunk near x rest e =
      let more : length (x ++ rest) / size ≡ suc (length rest / size) =
      ap (λ (n : ℕ). n / size) (length-append x rest ∙ ap (λ (n : ℕ). n + length rest) e) ∙ add-div_left (length rest) some ∙ add-one (length rest / size) in
      rw (more, near x rest (omega arith), drop_at x rest size e)

  pub all-end : (rest : List A) → length rest < size → all_records test size (length rest / size) rest ≡ true
  unfolding all_records
  all-end rest h = rw (div-eq_of_lt h)

module _ {A B : Type 0} (make : List A → List B) (size width : ℕ) (wide : (t : List A) → length (make t) ≡ width) where
  pub map-length : (n : ℕ) (t : List A) → length (map_records make size n t) ≡ width * n
  unfolding map_records
  map-length zero t = sym (mul-zero width)
  map-length (suc n) t = rw (length-append, wide, map-length n, next)

  pub map_more : (n : ℕ) (t : List A) → map_records make size (suc n) t ≡ map_records make size n t ++ make (drop (size * n) t)
  unfolding map_records
  map_more zero t = rw (mul-zero, append-nil)
  map_more (suc n) t = ap (λ (r : List B). make t ++ r) (map_more n (drop size t)) ∙ rw (drop-drop, next, append_assoc)

  -- what the records behind the first k give
  pub map-behind : (k n m : ℕ) (t : List A) → n ≡ k + m → drop (width * k) (map_records make size n t) ≡ map_records make size m (drop (size * k) t)
  unfolding map_records
  map-behind zero n m t q = let q' : n ≡ m = omega arith in rw (mul-zero, mul-zero, q')
  map-behind (suc k) zero m t q = let z : ⊥ = omega arith in absurd z
  map-behind (suc k) (suc n) m t q =
      let e : width * suc k ≡ length (make t) + width * k = omega (arith, mul-suc width k, wide t) in
      ap (λ j. drop j (make t ++ map_records make size n (drop size t))) e ∙ drop-append-add (make t) (map_records make size n (drop size t)) (width * k)
      ∙ map-behind k n m (drop size t) (omega arith) ∙ rw (drop-drop, next)

  -- element j of what record i gives
  pub map_at : (i n j : ℕ) (t : List A) (z : B) → i < n → j < width → get_or (map_records make size n t) (width * i + j) z ≡ get_or (make (drop (size * i) t)) j z
  unfolding map_records
  map_at i zero j t z h l = absurd (not-suc-le-zero h)
  map_at zero (suc n) j t z h l =
      let l' : j < length (make t) = rw wide l in
      rw (mul-zero width, mul-zero size, zero-add j) (get_or-append (make t) (map_records make size n (drop size t)) z j l')
  map_at (suc i) (suc n) j t z h l =
      let e : width * suc i + j ≡ length (make t) + (width * i + j) = rw (wide, mul-suc) (omega arith) in
      rw (e, get_or-append-add (make t)) (map_at i n j (drop size t) z (le_of_suc-le-suc h) l ∙ rw (drop-drop, next))

-- records that `make` and `unmake` turn into each other
module _ {A B : Type 0} (test : List A → Bool) (make : List A → List B) (size width : ℕ) (wide : (t : List A) → length (make t) ≡ width) where
  pub map-passes : (other : List B → Bool) → ((t : List A) (r : List B) → test t ≡ true → other (make t ++ r) ≡ true)
      → (n : ℕ) (t : List A) → all_records test size n t ≡ true → all_records other width n (map_records make size n t) ≡ true
  unfolding map_records all_records
  map-passes other right zero t e = refl
  map-passes other right (suc n) t e =
      let r = map_records make size n (drop size t) in
      rw (right t r (left-of (test t) _ e), drop_at (make t) r width (wide t)) (map-passes other right n (drop size t) (right_of (test t) _ e))

  pub map_back : (unmake : List B → List A) → ((t : List A) (r : List B) → test t ≡ true → size ≤ length t → unmake (make t ++ r) ++ drop size t ≡ t)
      → (n : ℕ) (t : List A) → all_records test size n t ≡ true → length t ≡ size * n → map_records unmake width n (map_records make size n t) ≡ t
  unfolding map_records all_records
  map_back unmake back zero [] e l = refl
  map_back unmake back zero (x ∷ t) e l =
      let z : suc (length t) ≡ 0 = l ∙ mul-zero size in
      absurd (omega arith)
  map_back unmake back (suc n) t e l =
      let r = map_records make size n (drop size t) in
      let l' : length t ≡ size * n + size = l ∙ mul-suc size n in
      let ih : map_records unmake width n r ≡ drop size t = map_back unmake back n (drop size t) (right_of (test t) _ e) (rw length-drop (omega arith)) in
      rw (drop_at (make t) r width (wide t), ih) (back t r (left-of (test t) _ e) (omega arith))

-- a loop that makes one record after the other: d is d₀ with what the first n records give over its front
pub record Mapped {A B : Type 0} (make : List A → List B) (size width : ℕ) (t : List A) (d₀ d : List B) (n : ℕ) : Type 0 where
  pub front : d ≡ map_records make size n t ++ drop (width * n) d₀
  pub long : length d ≡ length d₀

module _ {A B : Type 0} (make : List A → List B) (size width : ℕ) (t : List A) (d₀ : List B) where
  pub mapped-none : Mapped make size width t d₀ d₀ 0
  unfolding map_records
  mapped-none = record { front = rw mul-zero; long = refl }

  pub mapped-more : ((t : List A) → length (make t) ≡ width) → (d d' : List B) (n : ℕ) → Mapped make size width t d₀ d n → width * n + width ≤ length d₀
      → d' ≡ sets d (width * n) (make (drop (size * n) t)) → Mapped make size width t d₀ d' (n + 1)
  mapped-more wide d d' n m h e =
      let room : length (make (drop (size * n) t)) ≤ length (drop (width * n) d₀) = rw (wide, length-drop) (omega arith) in
      record {
        front =
            e ∙ ap (λ (l : List B). sets l (width * n) (make (drop (size * n) t))) m.front
            ∙ sets_behind (map_records make size n t) (make (drop (size * n) t)) (drop (width * n) d₀) (width * n) (map-length make size width wide n t) room
            ∙ rw (add-one, map_more make size width wide n t, wide, drop-drop, mul-suc);
        long = ap length e ∙ length-sets d (width * n) (make (drop (size * n) t)) ∙ m.long;
      }
