-- What the calls give, and that reading and writing are inverse to each other, of texts and tables and of the calls. Assumes nothing.
use mathlib.Core.Path.{◌≡◌, refl, sym, ap, ap₂, ◌∙◌, subst}
use mathlib.Core.Logic.{◌↔◌}
use mathlib.Core.List.{List, [], ◌∷◌, ◌++◌}
use mathlib.Core.Bool.{Bool, true, false, not, ◌&&◌}
use Prim.Native.Nat.{ℕ, ◌*◌, ◌/◌, ◌≤◌, ◌<◌}
use native.Mathlib.Nat.{mul-div_right}
use native.Mathlib.Omega.{arith}
use lib.Dec.{ltb}
use lib.ListN.{length, take, drop, take-append-drop}
use lib.Seq.{drop-cons}
use borrow.Author.Tests.{ltb-true, ltb-false}
use Rattle.lists.specs.First.{first}
use Rattle.lists.specs.Records.{map_records, all_records}
use Rattle.lists.proofs.Records.{map-length, map-passes, map_back}
use Rattle.lines.specs.Number.{read_number}
use Rattle.lines.specs.Line.{is_row, is_line, write_line, read_line}
use Rattle.lines.specs.Text.{is_partial, is_text, is_table, read_text, write_table}
use Rattle.lines.specs.Refusal.{refused, gives, leaving}
use Rattle.lines.specs.Calls.{over, conversion}
use Rattle.lines.specs.Theorems.{LineIsWriting, TextIsWriting, WriteAfterRead, ReadAfterWrite, ReadGives, WriteGives, given_back, WriteCallAfterRead, ReadCallAfterWrite}
use Rattle.lines.specs.RecordLaws.{row-length, line-length}
use Rattle.lines.proofs.LineLaws.{row_back, row_line, line_row, line-back}
use Rattle.lines.proofs.CallLaws.{Valid, Converted, converted, converted-all, conversion-short, conversion-done}
use Rattle.lines.proofs.TextLaws.{whole-passes, valid-all, all_valid}

-- ---- one line, with what stands behind it

line-again : (t r : List ℕ) → is_line t ≡ true → 19 ≤ length t → write_line (read_line t ++ r) ++ drop 19 t ≡ t
line-again t r g h = rw (line-back t r g) (take-append-drop 19 t)

row-again : (t r : List ℕ) → is_row t ≡ true → 3 ≤ length t → read_line (write_line t ++ r) ++ drop 3 t ≡ t
row-again t r g h = rw (row_back t r g) (rw (← drop-cons t 2 0 (omega arith), ← drop-cons t 1 0 (omega arith), ← drop-cons t 0 0 (omega arith)))

-- ---- whole texts and tables

-- lines of `size` elements, right by `test`, and of `width` elements, right by `other`, which `make` and `unmake` turn into each other
module _ (size width : ℕ) (test other : List ℕ → Bool) (make unmake : List ℕ → List ℕ) (wide : (t : List ℕ) → length (make t) ≡ width)
    (wide' : (t : List ℕ) → length (unmake t) ≡ size) (pos : 0 < width)
    (right : (t r : List ℕ) → test t ≡ true → other (make t ++ r) ≡ true)
    (back : (t r : List ℕ) → test t ≡ true → size ≤ length t → unmake (make t ++ r) ++ drop size t ≡ t) where
  module _ (t : List ℕ) (n : ℕ) (v : Valid size test t n) where
    made : List ℕ
    made = map_records make size n t

    made-length : length made ≡ width * n
    unfolding made
    made-length = map-length make size width wide n t

    made-valid : Valid width other made n
    unfolding made
    made-valid =
        record {
          whole = record { count = sym (ap (λ (k : ℕ). k / width) made-length ∙ mul-div_right n pos); long = made-length; some = v.whole.some };
          not-partial = whole-passes width n made pos made-length v.whole.some;
          right = map-passes test make size width wide other right n t v.right;
        }

    made-back : map_records unmake width n made ≡ t
    unfolding made
    made-back = map_back test make size width wide unmake back n t v.right v.whole.long

  -- of texts and tables
  there_and_back : (t : List ℕ) → not (is_partial size t) && all_records test size (length t / size) t ≡ true
      → (map_records unmake width (length (map_records make size (length t / size) t) / width) (map_records make size (length t / size) t) ≡ t)
      × (not (is_partial width (map_records make size (length t / size) t))
      && all_records other width (length (map_records make size (length t / size) t) / width) (map_records make size (length t / size) t) ≡ true)
  unfolding made
  there_and_back t e =
      let n = length t / size in
      let v = valid-all size test t e in
      let w = made-valid t n v in
      (rw (← w.whole.count) (made-back t n v), all_valid width other (made t n v) n w)

  -- of the calls
  given-back : (t out : List ℕ) (n : ℕ) (v : Valid size test t n) (short : Bool) → ltb (length out) (length t) ≡ short
      → first short (leaving (refused 2 0) out) (leaving (gives (n ∷ [])) (over t out)) ≡ conversion width size other unmake (made t n v) out
  given-back t out n v true e =
      let h : length out < size * n = rw (← v.whole.long) (ltb-true (length out) (length t) e) in
      conversion-short width size other unmake (made t n v) out n (made-valid t n v) (refused 2 0) refl h
  given-back t out n v false e =
      let h : size * n ≤ length out = rw (← v.whole.long) (ltb-false (length out) (length t) e) in
      let after : over t out ≡ map_records unmake width n (made t n v) ++ drop (size * n) out =
      ap₂ (λ (x : List ℕ) (k : ℕ). x ++ drop k out) (sym (made-back t n v)) v.whole.long in
      conversion-done width size other unmake (made t n v) out n (made-valid t n v) wide' h (over t out) after

  call-after-call : (t b out : List ℕ) (n : ℕ) → (conversion size width test make t b).answer ≡ gives (n ∷ [])
      → conversion width size other unmake (take (width * n) (conversion size width test make t b).buffers) out ≡ given_back n t out
  unfolding made
  call-after-call t b out n e =
      let k = converted size width test make t b wide n e in
      let v = k.valid in
      ap (λ (x : List ℕ). conversion width size other unmake x out) (converted-all size width test make wide t b _ n k)
      ∙ sym (given-back t out n v (ltb (length out) (length t)) refl)

-- when lines of `size` elements, right by `test`, are turned into lines of `width` elements by `make`
module _ (size width : ℕ) (test : List ℕ → Bool) (make : List ℕ → List ℕ) (wide : (t : List ℕ) → length (make t) ≡ width) (pos : 0 < size)
    (source buffer : List ℕ) (n : ℕ) where
  call-gives : (((conversion size width test make source buffer).answer ≡ gives (n ∷ []))
      ↔ ((not (is_partial size source) && all_records test size (length source / size) source ≡ true) × (length source ≡ size * n) × (width * n ≤ length buffer)))
      × ((conversion size width test make source buffer).answer ≡ gives (n ∷ [])
      → (conversion size width test make source buffer).buffers ≡ over (map_records make size (length source / size) source) buffer)
  call-gives =
      let read : (conversion size width test make source buffer).answer ≡ gives (n ∷ [])
      → Converted size width test make source buffer (conversion size width test make source buffer).buffers n = converted size width test make source buffer wide n in (
        (
          λ e. (all_valid size test source n (read e).valid, (read e).valid.whole.long, (read e).room),
          λ x.
              let v : Valid size test source n = rw (← ap (λ (k : ℕ). k / size) x.1 ∙ mul-div_right n pos) (valid-all size test source x.0) in
              ap (λ o. o.answer) (sym (conversion-done size width test make source buffer n v wide x.2 _ refl)),
        ),
        λ e.
            let made = map_records make size n source in
            (read e).result ∙ ap (λ k. made ++ drop k buffer) (sym (map-length make size width wide n source))
            ∙ ap (λ k. over (map_records make size k source) buffer) (read e).valid.whole.count,
      )

-- ---- the theorems

pub line-is-writing : LineIsWriting
unfolding read_line
line-is-writing t = (
  λ g. (read_number t, read_number (drop 6 t), read_number (drop 12 t), line_row t [] g, sym (line-back t [] g)),
  λ x. subst (λ l. is_line l ≡ true) (ap (λ (l : List ℕ). l ++ drop 19 t) (sym x.4) ∙ take-append-drop 19 t) (row_line _ (drop 19 t) x.3),
)

pub write-after-read : WriteAfterRead
unfolding is_text is_table write_table read_text
write-after-read = there_and_back 19 3 is_line is_row read_line write_line row-length line-length (omega arith) line_row line-again

pub read-after-write : ReadAfterWrite
unfolding is_text is_table write_table read_text
read-after-write = there_and_back 3 19 is_row is_line write_line read_line line-length row-length (omega arith) row_line row-again

pub text-is-writing : TextIsWriting
text-is-writing t = (
  λ e. (read_text t, (write-after-read t e).1, sym (write-after-read t e).0),
  λ x. rw x.2 (read-after-write x.0 x.1).1,
)

pub read-gives : ReadGives
unfolding is_text read_text
read-gives = call-gives 19 3 is_line read_line row-length (omega arith)

pub write-gives : WriteGives
unfolding is_table write_table
write-gives = call-gives 3 19 is_row write_line line-length (omega arith)

pub write-call-after-read : WriteCallAfterRead
write-call-after-read = call-after-call 19 3 is_line is_row read_line write_line row-length line-length (omega arith) line_row line-again

pub read-call-after-write : ReadCallAfterWrite
read-call-after-write = call-after-call 3 19 is_row is_line write_line read_line line-length row-length (omega arith) row_line row-again
