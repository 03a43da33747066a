-- What the calls give, case by case: for the proofs of the calls, and for those who call them. Assumes nothing.
use mathlib.Core.Path.{◌≡◌, refl, sym, ap, ap₂, ◌∙◌}
use mathlib.Core.List.{List, [], ◌∷◌, ◌++◌}
use mathlib.Core.Bool.{Bool, true, false, not, ◌||◌}
use Prim.Native.Nat.{ℕ, ◌+◌, ◌*◌, ◌/◌, ◌%◌, ◌≤◌, ◌<◌}
use native.Mathlib.Nat.{div-add-mod, mul-zero}
use native.Mathlib.Omega.{arith}
use lib.Dec.{eqb}
use lib.ListN.{length, take, drop, get_or, length-append, length-drop}
use lib.Seq.{take_at}
use borrow.Author.Tests.{eqb-true, eqb-false, lt-ltb, le-ltb, ltb-false, not-false}
use Rattle.lists.specs.First.{first}
use Rattle.lists.specs.Records.{map_records, all_records}
use Rattle.lists.proofs.Records.{map-length}
use Rattle.lines.specs.Text.{is_partial}
use Rattle.lines.specs.Refusal.{Result, refused, gives, no_table, leaving}
use Rattle.lines.specs.Checks.{found, check, first_found, answering}
use Rattle.lines.specs.Calls.{line_checks, conversion_checks, validation, conversion}
use Rattle.lines.proofs.CheckLaws.{check-passed, Passed, answer-given, answer-turned, outcome-refused, found_front}

-- ---- whole lines, at least one

whole-test : (empty rest : Bool) → empty || not rest ≡ false → (empty ≡ false) × (rest ≡ true)
whole-test false rest e = (refl, not-false rest e)
whole-test true rest e = (e, let z : ◌≡◌ {A = ℕ} 0 1 = ap (λ (b : Bool). first b 0 1) e in absurd (omega arith))

-- a source that is n whole lines of `size` elements
pub record Whole {A : Type 0} (size : ℕ) (source : List A) (n : ℕ) : Type 0 where
  pub count : n ≡ length source / size
  pub long : length source ≡ size * n
  pub some : 0 < n

module _ {A : Type 0} (size : ℕ) (source : List A) where
  pub whole_is : is_partial size source ≡ false → Whole size source (length source / size)
  unfolding is_partial
  whole_is e =
      let k = whole-test (eqb (length source) 0) (eqb (length source % size) 0) e in
      let long : length source ≡ size * (length source / size) = omega (arith, div-add-mod (length source) size, eqb-true (length source % size) 0 k.1) in
      let some : length source / size ≡ 0 → ⊥ = λ z. eqb-false (length source) 0 k.0 (long ∙ ap (λ (n : ℕ). size * n) z ∙ mul-zero size) in
      record { count = refl; long = long; some = omega arith }

-- ---- what a success of a validation says

pub record Valid {A : Type 0} (size : ℕ) (test : List A → Bool) (source : List A) (n : ℕ) : Type 0 where
  pub whole : Whole size source n
  pub not-partial : is_partial size source ≡ false
  pub right : all_records test size n source ≡ true

module _ {A : Type 0} (size : ℕ) (test : List A → Bool) (source : List A) where
  pub valid-passed : Passed (line_checks size test source) → Valid size test source (length source / size)
  valid-passed p =
      let w = check-passed (is_partial size source) 0 no_table p.0 in
      record { whole = whole_is size source w; not-partial = w; right = not-false _ (check-passed _ 2 no_table p.1.0) }

  pub valid-is : (n : ℕ) → validation size test source ≡ gives (n ∷ []) → Valid size test source n
  unfolding validation
  valid-is n e =
      let (p, v) = answer-given (line_checks size test source) _ _ e in
      rw (ap (λ l. get_or l 0 0) v) (valid-passed p)

-- ---- what a conversion gives, by its validation

module _ {A B : Type 0} (size width : ℕ) (test : List A → Bool) (make : List A → List B) (source : List A) (buffer : List B) where
  pub conversion-refused : (k t : ℕ) → validation size test source ≡ refused k t → leaving (refused k t) buffer ≡ conversion size width test make source buffer
  unfolding validation conversion
  conversion-refused k t e =
      let (q, some) = answer-turned (line_checks size test source) _ k t e in
      outcome-refused (conversion_checks size width test source buffer) _ buffer _ (found k t) (found_front _ (line_checks size test source) (found k t) q some) some

  module _ (n : ℕ) (v : Valid size test source n) where
    pub conversion-short : (r : Result) → r ≡ refused 2 0 → length buffer < width * n → leaving r buffer ≡ conversion size width test make source buffer
    unfolding conversion answering first_found check
    conversion-short r e h =
        let right : all_records test size (length source / size) source ≡ true = rw (← v.whole.count) v.right in
        rw (e, v.not-partial, right, ← v.whole.count, lt-ltb _ _ h)

    pub conversion-done : ((t : List A) → length (make t) ≡ width) → width * n ≤ length buffer
        → (after : List B) → after ≡ map_records make size n source ++ drop (width * n) buffer
        → leaving (gives (n ∷ [])) after ≡ conversion size width test make source buffer
    unfolding conversion answering first_found check
    conversion-done wide h after e =
        let right : all_records test size (length source / size) source ≡ true = rw (← v.whole.count) v.right in
        rw (e, v.not-partial, right, ← v.whole.count, le-ltb _ _ h, map-length make size width wide n source)

-- ---- what an answer says, for callers

-- a success has converted n valid lines into a buffer with room for them
pub record Converted {A B : Type 0} (size width : ℕ) (test : List A → Bool) (make : List A → List B) (source : List A) (buffer after : List B) (n : ℕ) : Type 0 where
  pub valid : Valid size test source n
  pub room : width * n ≤ length buffer
  pub result : after ≡ map_records make size n source ++ drop (width * n) buffer

module _ {A B : Type 0} (size width : ℕ) (test : List A → Bool) (make : List A → List B) (source : List A) (buffer : List B) where
  pub converted : ((t : List A) → length (make t) ≡ width) → (n : ℕ) → (conversion size width test make source buffer).answer ≡ gives (n ∷ [])
      → Converted size width test make source buffer (conversion size width test make source buffer).buffers n
  unfolding conversion
  converted wide n e =
      let m = length source / size in
      let (p, q) = answer-given (conversion_checks size width test source buffer) _ _ e in
      let v : Valid size test source m = valid-passed size test source (p.0, (p.1.0, tt)) in
      let r : width * m ≤ length buffer = ltb-false (length buffer) (width * m) (check-passed _ 1 0 p.1.1.0) in
      let s : m ≡ n = ap (λ l. get_or l 0 0) (sym q) in
      rw (← s) (record { valid = v; room = r; result = ap (λ o. o.buffers) (sym (conversion-done size width test make source buffer m v wide r _ refl)) })

-- the elements that a success has left
module _ {A B : Type 0} (size width : ℕ) (test : List A → Bool) (make : List A → List B) (wide : (t : List A) → length (make t) ≡ width) (source : List A) (buffer after : List B) (n : ℕ)
    (k : Converted size width test make source buffer after n) where
  pub converted-all : take (width * n) after ≡ map_records make size n source
  converted-all = ap (take (width * n)) k.result ∙ take_at (map_records make size n source) (drop (width * n) buffer) (width * n) (map-length make size width wide n source)

  pub converted-length : length after ≡ length buffer
  converted-length =
      ap length k.result ∙ length-append (map_records make size n source) (drop (width * n) buffer)
      ∙ ap₂ ◌+◌ (map-length make size width wide n source) (length-drop (width * n) buffer) ∙ omega (arith, k.room)
