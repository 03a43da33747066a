-- What the trait `Record` asks of lines and of rows: they turn into each other's length, and what stands behind a line or a row does not matter.
use Rattle.std.specs.Prelude.{◌≡◌, ℕ, zero, suc, ◌+◌, ◌/◌, ◌%◌, ◌≤◌, Bool, true, false, List, [], ◌∷◌, ◌++◌, length, drop, ltb}
use Rattle.std.proofs.Common.{ap, ◌∙◌, refl, arith}
use lib.ListN.{length-append, length-drop, length-replicate, get_or-append}
use lib.Seq.{take-append-le, drop-append-le}
use Rattle.lists.specs.First.{first}
use Rattle.lines.specs.Number.{digit, digits, write_number, read_number}
use Rattle.lines.specs.Line.{is_row, is_line, read_line, write_line}

-- ---- lengths

digits-length : (k n : ℕ) → length (digits k n) ≤ k
unfolding digits
digits-length zero n = omega arith
digits-length (suc k) n = go (ltb n 10) (digits-length k (n / 10))
  where
    go : (b : Bool) → length (digits k (n / 10)) ≤ k → length (first b (digit n ∷ []) (digits k (n / 10) ++ (digit (n % 10) ∷ []))) ≤ suc k
    go true h = omega arith
    go false h = rw length-append (omega arith)

pub number-length : (n : ℕ) → length (write_number n) ≡ 6
unfolding write_number
number-length n = rw (length-append, length-replicate) (omega (arith, digits-length 6 n))

pub row-length : (t : List ℕ) → length (read_line t) ≡ 3
unfolding read_line
row-length t = refl

pub line-length : (t : List ℕ) → length (write_line t) ≡ 19
unfolding write_line
line-length t = simp (length-append, number-length)

-- ---- what stands behind
number-near : (t r : List ℕ) → 6 ≤ length t → read_number (t ++ r) ≡ read_number t
unfolding read_number
number-near t r h =
    rw (
      get_or-append t r 0 0 (omega arith),
      get_or-append t r 0 1 (omega arith),
      get_or-append t r 0 2 (omega arith),
      get_or-append t r 0 3 (omega arith),
      get_or-append t r 0 4 (omega arith),
      get_or-append t r 0 5 (omega arith),
    )

pub read_near : (t r : List ℕ) → 19 ≤ length t → read_line (t ++ r) ≡ read_line t
unfolding read_line
read_near t r h =
    let at : (k : ℕ) → k + 6 ≤ length t → read_number (drop k (t ++ r)) ≡ read_number (drop k t) =
    λ k l. ap read_number (drop-append-le k t r (omega arith)) ∙ number-near (drop k t) r (rw length-drop (omega arith)) in
    rw (number-near t r (omega arith), at 6 (omega arith), at 12 (omega arith))

pub line_near : (t r : List ℕ) → 19 ≤ length t → is_line (t ++ r) ≡ is_line t
unfolding is_line
line_near t r h = rw (read_near t r h, take-append-le 19 t r h)

pub row_near : (t r : List ℕ) → 3 ≤ length t → is_row (t ++ r) ≡ is_row t
unfolding is_row
row_near t r h =
    rw (get_or-append t r 0 0 (omega arith), get_or-append t r 0 1 (omega arith), get_or-append t r 0 2 (omega arith))

pub write_near : (t r : List ℕ) → 3 ≤ length t → write_line (t ++ r) ≡ write_line t
unfolding write_line
write_near t r h =
    rw (get_or-append t r 0 0 (omega arith), get_or-append t r 0 1 (omega arith), get_or-append t r 0 2 (omega arith))
