-- 01, Lines, 1: how a number stands in its six columns, and what number six columns show.
use Rattle.std.specs.Prelude.{ℕ, zero, suc, ◌+◌, ◌-◌, ◌*◌, ◌/◌, ◌%◌, Bool, ◌&&◌, List, [], ◌∷◌, ◌++◌, length, take, get_or, replicate, leb, ltb}
use Rattle.lists.specs.First.{first}
use Rattle.lists.specs.Same.{same}

-- the byte of a digit
abbrev pub digit : ℕ → ℕ
digit d = 48 + d

-- The digits of a number that has at most k of them. The first is not 0, but for the number 0 itself, which is the one digit 0.
unfoldable pub digits : ℕ → ℕ → List ℕ
digits zero n = []
digits (suc k) n = first (ltb n 10) (digit n ∷ []) (digits k (n / 10) ++ (digit (n % 10) ∷ []))

-- Right-justified: the digits end in the sixth column, and the columns before them are blanks, byte 32.
unfoldable pub write_number : ℕ → List ℕ
write_number n = replicate (6 - length (digits 6 n)) 32 ++ digits 6 n

-- What a column adds: a digit its value, a blank nothing. What another byte adds does not matter, since it stands in no writing.
abbrev pub column_value : ℕ → ℕ
column_value b = b - 48

-- the number that the first six bytes show, if they show one
unfoldable pub read_number : List ℕ → ℕ
read_number t =
    ((((column_value (get_or t 0 0) * 10 + column_value (get_or t 1 0)) * 10 + column_value (get_or t 2 0)) * 10
    + column_value (get_or t 3 0)) * 10 + column_value (get_or t 4 0)) * 10 + column_value (get_or t 5 0)

-- whether the first six bytes are the writing of a number up to 999,999, which can only be the one that they show
abbrev pub is_number : List ℕ → Bool
is_number t = leb (read_number t) 999999 && same (take 6 t) (write_number (read_number t))
