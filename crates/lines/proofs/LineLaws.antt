-- One line: its parts, the test of its parts, and reading back what was written. Assumes nothing.
use mathlib.Core.Path.{◌≡◌, refl, sym, ap, ap₂, ◌∙◌}
use mathlib.Core.Bool.{Bool, true, false, ◌&&◌, and-true, and-false, and_assoc}
use mathlib.Core.List.{List, [], ◌∷◌, ◌++◌, append_assoc, append-nil}
use Prim.Native.Nat.{ℕ, ◌+◌, ◌≤◌}
use native.Mathlib.Omega.{arith}
use lib.Dec.{eqb, leb}
use lib.ListN.{length, take, drop, get_or, set, length-append, length-drop, drop_of_length-le}
use lib.Seq.{sets, length-sets, take-add, drop-cons, take_at, drop_at, length-take-le}
use borrow.Author.Tests.{leb-true}
use Rattle.lists.specs.Same.{same}
use Rattle.lists.proofs.Tests.{both, left-of, right_of}
use Rattle.lists.proofs.Same.{same_refl, same-is, same-append}
use Rattle.lists.proofs.Stores.{sets-append, sets_behind, put_mid-sets}
use borrow.Rule.Slice.PartMut.{put_mid}
use Rattle.lines.specs.Number.{write_number, read_number, is_number}
use Rattle.lines.specs.Line.{is_row, is_line, write_line, read_line}
use Rattle.lines.specs.RecordLaws.{number-length, line-length}
use Rattle.lines.proofs.NumberLaws.{read_back}

-- only the first three numbers of a table make its first row

first_three : (t : List ℕ) → write_line (get_or t 0 0 ∷ get_or t 1 0 ∷ get_or t 2 0 ∷ []) ≡ write_line t
unfolding write_line
first_three t = refl

row-three : (t : List ℕ) → is_row t ≡ true → is_row (get_or t 0 0 ∷ get_or t 1 0 ∷ get_or t 2 0 ∷ []) ≡ true
unfolding is_row
row-three t g = g

-- ---- the parts of 19 bytes

line-parts : (t : List ℕ) → 19 ≤ length t → take 19 t ≡ take 6 t ++ take 6 (drop 6 t) ++ take 6 (drop 12 t) ++ (get_or t 18 0 ∷ [])
line-parts t h =
    take-add 18 1 t
    ∙ ap₂ ◌++◌ (take-add 12 6 t ∙ ap (λ (x : List ℕ). x ++ take 6 (drop 12 t)) (take-add 6 6 t)) (ap (take 1) (drop-cons t 18 0 (omega arith)))

-- four parts compared one by one
parts_same : (x₀ x₁ x₂ w₀ w₁ w₂ : List ℕ) (e : ℕ) → length x₀ ≡ length w₀ → length x₁ ≡ length w₁ → length x₂ ≡ length w₂
    → same (x₀ ++ x₁ ++ x₂ ++ (e ∷ [])) (w₀ ++ w₁ ++ w₂ ++ (10 ∷ [])) ≡ same x₀ w₀ && same x₁ w₁ && same x₂ w₂ && eqb e 10
unfolding same
parts_same x₀ x₁ x₂ w₀ w₁ w₂ e h₀ h₁ h₂ =
    same-append (x₀ ++ x₁ ++ x₂) (w₀ ++ w₁ ++ w₂) (e ∷ []) (10 ∷ []) (simp length-append (omega arith))
    ∙ ap₂ ◌&&◌
    (same-append (x₀ ++ x₁) (w₀ ++ w₁) x₂ w₂ (simp length-append (omega arith)) ∙ ap (λ (b : Bool). b && same x₂ w₂) (same-append x₀ w₀ x₁ w₁ h₀))
    (and-true (eqb e 10))

-- tests of three numbers, taken one number at a time
two-by-two : (l₁ l₂ s₁ s₂ e : Bool) → (l₁ && l₂) && (s₁ && s₂ && e) ≡ (l₁ && s₁) && (l₂ && s₂) && e
two-by-two false l₂ s₁ s₂ e = refl
two-by-two true l₂ false s₂ e = and-false l₂
two-by-two true l₂ true s₂ e = sym (and_assoc l₂ s₂ e)

three-by-three : (l₀ l₁ l₂ s₀ s₁ s₂ e : Bool) → (l₀ && l₁ && l₂) && (s₀ && s₁ && s₂ && e) ≡ (l₀ && s₀) && (l₁ && s₁) && (l₂ && s₂) && e
three-by-three false l₁ l₂ s₀ s₁ s₂ e = refl
three-by-three true l₁ l₂ false s₁ s₂ e = and-false (l₁ && l₂)
three-by-three true l₁ l₂ true s₁ s₂ e = two-by-two l₁ l₂ s₁ s₂ e

-- a line is three numbers and byte 10
pub line-test : (t : List ℕ) → 19 ≤ length t → is_number t && is_number (drop 6 t) && is_number (drop 12 t) && eqb (get_or t 18 0) 10 ≡ is_line t
unfolding is_line is_row read_line write_line
line-test t h =
    let n₀ = read_number t in
    let n₁ = read_number (drop 6 t) in
    let n₂ = read_number (drop 12 t) in
    let x₀ = take 6 t in
    let x₁ = take 6 (drop 6 t) in
    let x₂ = take 6 (drop 12 t) in
    let w = write_number n₀ ++ write_number n₁ ++ write_number n₂ ++ (10 ∷ []) in
    let small = leb n₀ 999999 && leb n₁ 999999 && leb n₂ 999999 in
    let six : (k n : ℕ) → k + 6 ≤ length t → length (take 6 (drop k t)) ≡ length (write_number n) =
    λ k n l. length-take-le 6 (drop k t) (rw length-drop (omega arith)) ∙ sym (number-length n) in
    sym
    (ap (λ (b : Bool). small && b)
    (ap (λ (x : List ℕ). same x w) (line-parts t h)
    ∙ parts_same x₀ x₁ x₂ (write_number n₀) (write_number n₁) (write_number n₂) (get_or t 18 0) (six 0 n₀ (omega arith)) (six 6 n₁ (omega arith)) (six 12 n₂ (omega arith)))
    ∙ three-by-three (leb n₀ 999999) (leb n₁ 999999) (leb n₂ 999999) (same x₀ (write_number n₀)) (same x₁ (write_number n₁)) (same x₂ (write_number n₂)) (eqb (get_or t 18 0) 10))

-- the three numbers of a line
pub line-numbers : (t : List ℕ) → 19 ≤ length t → is_line t ≡ true
    → (is_number t ≡ true) × (is_number (drop 6 t) ≡ true) × (is_number (drop 12 t) ≡ true)
line-numbers t h e =
    let a = is_number t in
    let b = is_number (drop 6 t) in
    let c = is_number (drop 12 t) in
    let abc = left-of (a && b && c) _ (line-test t h ∙ e) in
    let ab = left-of (a && b) c abc in
    (left-of a b ab, right_of a b ab, right_of (a && b) c abc)

-- three numbers and byte 10, stored one after the other in 19 bytes
pub line-written : (l a b c : List ℕ) → length l ≡ 19 → length a ≡ 6 → length b ≡ 6 → length c ≡ 6
    → set (put_mid 12 6 (put_mid 6 6 (a ++ drop 6 l) b) c) 18 10 ≡ a ++ b ++ c ++ (10 ∷ [])
line-written l a b c hl ha hb hc =
    let x = a ++ drop 6 l in
    let rest = b ++ c ++ (10 ∷ []) in
    let long : length x ≡ 19 = rw (length-append, length-drop) (omega arith) in
    let bc : length (b ++ c) ≡ 12 = rw length-append (omega arith) in
    let all : length rest ≡ 13 = rw length-append (omega arith) in
    let end : drop (length rest) (drop 6 l) ≡ [] = drop_of_length-le (drop 6 l) (rw length-drop (omega arith)) in
    ap (λ (y : List ℕ). set (put_mid 12 6 y c) 18 10) (put_mid-sets 6 6 x b (omega arith) hb)
    ∙ ap (λ (y : List ℕ). set y 18 10)
    (put_mid-sets 12 6 (sets x 6 b) c (rw length-sets (omega arith)) hc ∙ sets-append b c x 6 6 hb)
    ∙ sets-append (b ++ c) (10 ∷ []) x 6 12 bc
    ∙ sets_behind a rest (drop 6 l) 6 ha (rw length-drop (omega arith))
    ∙ ap (λ (y : List ℕ). a ++ rest ++ y) end ∙ simp (append-nil, append_assoc)

-- ---- reading back

-- what the test of a row says of each number
record Small (t : List ℕ) : Type 0 where
  one : get_or t 0 0 ≤ 999999
  two : get_or t 1 0 ≤ 999999
  three : get_or t 2 0 ≤ 999999

small : (t : List ℕ) → is_row t ≡ true → Small t
unfolding is_row
small t g =
    let a = leb (get_or t 0 0) 999999 in
    let b = leb (get_or t 1 0) 999999 in
    let c = leb (get_or t 2 0) 999999 in
    let ab = left-of (a && b) c g in
    record { one = leb-true _ _ (left-of a b ab); two = leb-true _ _ (right_of a b ab); three = leb-true _ _ (right_of (a && b) c g) }

-- the number in the columns behind others
read_behind : (p r : List ℕ) (k n : ℕ) → length p ≡ k → n ≤ 999999 → read_number (drop k (p ++ (write_number n ++ r))) ≡ n
read_behind p r k n e h = rw (drop_at p (write_number n ++ r) k e) (read_back n r h)

-- the three numbers of a row are read back from its line, whatever stands behind it
pub row_back : (t r : List ℕ) → is_row t ≡ true → read_line (write_line t ++ r) ≡ get_or t 0 0 ∷ get_or t 1 0 ∷ get_or t 2 0 ∷ []
unfolding read_line write_line
row_back t r g =
    let k = small t g in
    let a = write_number (get_or t 0 0) in
    let b = write_number (get_or t 1 0) in
    let c = write_number (get_or t 2 0) in
    let whole : a ++ b ++ c ++ (10 ∷ []) ++ r ≡ a ++ (b ++ (c ++ (10 ∷ r))) = simp append_assoc in
    let late : a ++ (b ++ (c ++ (10 ∷ r))) ≡ (a ++ b) ++ (c ++ (10 ∷ r)) = simp append_assoc in
    let ab : length (a ++ b) ≡ 12 = simp (length-append, number-length) in
    ap (λ (x : List ℕ). read_number x ∷ read_number (drop 6 x) ∷ read_number (drop 12 x) ∷ []) whole
    ∙ rw (
      read_back (get_or t 0 0) (b ++ (c ++ (10 ∷ r))) k.one,
      read_behind a (c ++ (10 ∷ r)) 6 (get_or t 1 0) (number-length (get_or t 0 0)) k.two,
      late,
      read_behind (a ++ b) (10 ∷ r) 12 (get_or t 2 0) ab k.three,
    )

-- a row's line is a line
pub row_line : (t r : List ℕ) → is_row t ≡ true → is_line (write_line t ++ r) ≡ true
unfolding is_line
row_line t r g =
    let e = row_back t r g in
    let again : write_line (read_line (write_line t ++ r)) ≡ write_line t = ap write_line e ∙ first_three t in
    let front : take 19 (write_line t ++ r) ≡ write_line t = take_at (write_line t) r 19 (line-length t) in
    both (ap is_row e ∙ row-three t g) (ap₂ same front again ∙ same_refl (write_line t))

pub line_row : (t r : List ℕ) → is_line t ≡ true → is_row (read_line t ++ r) ≡ true
unfolding is_row read_line is_line
line_row t r g = left-of (is_row (read_line t)) (same (take 19 t) (write_line (read_line t))) g

pub line-back : (t r : List ℕ) → is_line t ≡ true → write_line (read_line t ++ r) ≡ take 19 t
unfolding write_line read_line is_line
line-back t r g = sym (same-is (take 19 t) (write_line (read_line t)) (right_of (is_row (read_line t)) (same (take 19 t) (write_line (read_line t))) g))
