-- Texts and tables of whole lines: the first lines of a text, the first rows of a table, and what reading and writing make of them. Assumes nothing.
use mathlib.Core.Path.{◌≡◌, refl, sym, ap, ap₂, ◌∙◌}
use mathlib.Core.Bool.{Bool, true, false, not, ◌&&◌}
use mathlib.Core.List.{List, [], ◌∷◌, ◌++◌}
use Prim.Native.Nat.{ℕ, zero, suc, ◌+◌, ◌-◌, ◌*◌, ◌/◌, ◌%◌, ◌≤◌, ◌<◌}
use native.Mathlib.Nat.{add-zero, mul-div_right, mul-mod_right, mul-pos}
use native.Mathlib.Omega.{arith}
use lib.ListN.{length, take, drop, get_or, length-drop, take-append-drop}
use lib.Seq.{length-take-le}
use borrow.Author.Tests.{eq-eqb, ne_eqb, le-leb, not-true}
use Rattle.lists.specs.Records.{map_records, all_records}
use Rattle.lists.proofs.Tests.{both, left-of, right_of}
use Rattle.lists.proofs.Records.{all-at, all-behind, map-length, map_at, map-behind}
use Rattle.lists.proofs.Fronts.{all-fewer, all_append, map-append, map-fewer}
use Rattle.lines.specs.Number.{read_number, is_number}
use Rattle.lines.specs.Line.{is_row, is_line, read_line, write_line}
use Rattle.lines.specs.Text.{is_partial, is_table, read_text, write_table}
use Rattle.lines.specs.Calls.{over}
use Rattle.lines.proofs.LineLaws.{line-numbers}
use Rattle.lines.specs.RecordLaws.{row-length, line-length, line_near, read_near, write_near}
use Rattle.lines.proofs.CallLaws.{Valid, whole_is}

-- whole lines, at least one
pub whole-passes : (size n : ℕ) (t : List ℕ) → 0 < size → length t ≡ size * n → 0 < n → is_partial size t ≡ false
unfolding is_partial
whole-passes size n t p l s =
    let some : length t ≡ 0 → ⊥ = omega (arith, mul-pos {m = size} {n = n} p s) in
    rw (ne_eqb (length t) 0 some, eq-eqb (length t % size) 0 (ap (λ (k : ℕ). k % size) l ∙ mul-mod_right size n))

-- whole lines that are right, as `is_text` and `is_table` say it
module _ (size : ℕ) (test : List ℕ → Bool) (t : List ℕ) where
  pub valid-all : not (is_partial size t) && all_records test size (length t / size) t ≡ true → Valid size test t (length t / size)
  valid-all e =
      let w = not-true (is_partial size t) (left-of (not (is_partial size t)) _ e) in
      record { whole = whole_is size t w; not-partial = w; right = right_of (not (is_partial size t)) _ e }

  pub all_valid : (n : ℕ) → Valid size test t n → not (is_partial size t) && all_records test size (length t / size) t ≡ true
  all_valid n v = rw (v.not-partial, ← v.whole.count) v.right

-- ---- the first k lines of a text

module _ (text : List ℕ) (n : ℕ) (v : Valid 19 is_line text n) (k : ℕ) (fewer : k ≤ n) where
  pub front-right : all_records is_line 19 k text ≡ true
  front-right = all-fewer is_line 19 k n text fewer v.right

  front-numbers : map_records read_line 19 k text ≡ take (3 * k) (read_text text)
  unfolding read_text
  front-numbers =
      sym (ap (λ j. take (3 * k) (map_records read_line 19 j text)) (sym v.whole.count) ∙ map-fewer read_line 19 3 row-length k n text fewer)

  pub front_length : length (take (3 * k) (read_text text)) ≡ 3 * k
  front_length = ap length (sym front-numbers) ∙ map-length read_line 19 3 row-length k text

  -- what `read_lines` leaves
  pub front_read : (table after : List ℕ) → after ≡ map_records read_line 19 k text ++ drop (3 * k) table → after ≡ over (take (3 * k) (read_text text)) table
  front_read table after e = e ∙ ap₂ (λ x j. x ++ drop j table) front-numbers (sym front_length)

  -- the same lines as a text of their own
  module _ (some : 0 < k) where
    front_long : length (take (19 * k) text) ≡ 19 * k
    front_long = length-take-le (19 * k) text (omega (arith, v.whole.long))

    pub front-valid : Valid 19 is_line (take (19 * k) text) k
    front-valid =
        record {
          whole = record { count = sym (ap (λ (j : ℕ). j / 19) front_long ∙ mul-div_right k (omega arith)); long = front_long; some = some };
          not-partial = whole-passes 19 k (take (19 * k) text) (omega arith) front_long some;
          right =
              sym (all_append is_line 19 line_near k (take (19 * k) text) (drop (19 * k) text) front_long)
              ∙ ap (all_records is_line 19 k) (take-append-drop (19 * k) text) ∙ front-right;
        }

    pub front_reads : read_text (take (19 * k) text) ≡ take (3 * k) (read_text text)
    unfolding read_text
    front_reads =
        ap (λ j. map_records read_line 19 j (take (19 * k) text)) (sym front-valid.whole.count)
        ∙ sym (map-append read_line 19 read_near k (take (19 * k) text) (drop (19 * k) text) front_long)
        ∙ ap (map_records read_line 19 k) (take-append-drop (19 * k) text) ∙ front-numbers

-- ---- m lines behind the first k, and one line by itself

module _ (text : List ℕ) (n : ℕ) (v : Valid 19 is_line text n) where
  module _ (k m : ℕ) (fewer : k + m ≤ n) where
    pub behind-right : all_records is_line 19 m (drop (19 * k) text) ≡ true
    behind-right = all-fewer is_line 19 m (n - k) (drop (19 * k) text) (omega arith) (all-behind is_line 19 k n (n - k) text (omega arith) v.right)

    pub behind-numbers : map_records read_line 19 m (drop (19 * k) text) ≡ take (3 * m) (drop (3 * k) (read_text text))
    unfolding read_text
    behind-numbers =
        sym (ap (λ j. take (3 * m) (drop (3 * k) (map_records read_line 19 j text))) (sym v.whole.count)
        ∙ ap (take (3 * m)) (map-behind read_line 19 3 row-length k n (n - k) text (omega arith))
        ∙ map-fewer read_line 19 3 row-length m (n - k) (drop (19 * k) text) (omega arith))

  module _ (i : ℕ) (h : i < n) where
    pub first-right : is_number (drop (19 * i) text) ≡ true
    first-right = (line-numbers (drop (19 * i) text) (rw length-drop (omega (arith, v.whole.long))) (all-at is_line 19 i n text h v.right)).0

    pub first-number : get_or (read_text text) (3 * i) 0 ≡ read_number (drop (19 * i) text)
    unfolding read_text read_line
    first-number =
        ap₂ (λ j p. get_or (map_records read_line 19 j text) p 0) (sym v.whole.count) (sym (add-zero (3 * i)))
        ∙ map_at read_line 19 3 row-length i n 0 text 0 h (omega arith)

-- all of its numbers
pub numbers-length : (text : List ℕ) (n : ℕ) → Valid 19 is_line text n → length (read_text text) ≡ 3 * n
unfolding read_text
numbers-length text n v = map-length read_line 19 3 row-length (length text / 19) text ∙ ap (λ j. 3 * j) (sym v.whole.count)

-- ---- tables that can be written

-- numbers that can be
abbrev pub AllSmall : List ℕ → Type 0
AllSmall [] = Unit {0}
AllSmall (x ∷ xs) = (x ≤ 999999) × AllSmall xs

small_at : (t : List ℕ) → AllSmall t → (i : ℕ) → get_or t i 0 ≤ 999999
small_at [] s i = omega arith
small_at (x ∷ t) s zero = s.0
small_at (x ∷ t) s (suc i) = small_at t s.1 i

small-drop : (k : ℕ) (t : List ℕ) → AllSmall t → AllSmall (drop k t)
small-drop zero t s = s
small-drop (suc k) [] s = tt
small-drop (suc k) (x ∷ t) s = small-drop k t s.1

pub small-append : (a b : List ℕ) → AllSmall a → AllSmall b → AllSmall (a ++ b)
small-append [] b s r = r
small-append (x ∷ a) b s r = (s.0, small-append a b s.1 r)

pub small-rows : (n : ℕ) (t : List ℕ) → AllSmall t → all_records is_row 3 n t ≡ true
unfolding all_records is_row
small-rows zero t s = refl
small-rows (suc n) t s =
    let a = le-leb _ _ (small_at t s 0) in
    let b = le-leb _ _ (small_at t s 1) in
    let c = le-leb _ _ (small_at t s 2) in
    both (both (both a b) c) (small-rows n (drop 3 t) (small-drop 3 t s))

pub small_line : (a b c : ℕ) (t : List ℕ) → a ≤ 999999 → b ≤ 999999 → c ≤ 999999 → AllSmall t → AllSmall (a ∷ b ∷ c ∷ t)
small_line a b c t ha hb hc s = (ha, (hb, (hc, s)))

pub valid-table : (t : List ℕ) (n : ℕ) → Valid 3 is_row t n → is_table t ≡ true
unfolding is_table
valid-table = all_valid 3 is_row

pub bytes-length : (t : List ℕ) (n : ℕ) → length t ≡ 3 * n → length (write_table t) ≡ 19 * n
unfolding write_table
bytes-length t n l =
    map-length write_line 3 19 line-length (length t / 3) t ∙ ap (λ k. 19 * k) (ap (λ (k : ℕ). k / 3) l ∙ mul-div_right n (omega arith))

-- ---- the first n rows of a table

module _ (t : List ℕ) (n : ℕ) (some : 3 * n ≤ length t) where
  rows-bytes : map_records write_line 3 n t ≡ write_table (take (3 * n) t)
  unfolding write_table
  rows-bytes =
      let l = length-take-le (3 * n) t some in
      ap (map_records write_line 3 n) (sym (take-append-drop (3 * n) t)) ∙ map-append write_line 3 write_near n (take (3 * n) t) (drop (3 * n) t) l
      ∙ ap (λ j. map_records write_line 3 j (take (3 * n) t)) (sym (ap (λ (j : ℕ). j / 3) l ∙ mul-div_right n (omega arith)))

  -- what `write_lines` leaves
  pub rows_written : (buffer after : List ℕ) → after ≡ map_records write_line 3 n t ++ drop (19 * n) buffer → after ≡ over (write_table (take (3 * n) t)) buffer
  rows_written buffer after e =
      e ∙ ap₂ (λ x j. x ++ drop j buffer) rows-bytes (sym (bytes-length (take (3 * n) t) n (length-take-le (3 * n) t some)))
