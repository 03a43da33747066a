-- 01, Lines, 1: a line is three numbers up to 999,999, each in six columns, and byte 10.
use Rattle.std.specs.Prelude.{ℕ, Bool, ◌&&◌, List, [], ◌∷◌, ◌++◌, get_or, take, drop, leb}
use Rattle.lists.specs.Same.{same}
use Rattle.lines.specs.Number.{write_number, read_number}

-- whether the first three numbers of a table can be written
unfoldable pub is_row : List ℕ → Bool
is_row t = leb (get_or t 0 0) 999999 && leb (get_or t 1 0) 999999 && leb (get_or t 2 0) 999999

-- the line of the first three numbers of a table
unfoldable pub write_line : List ℕ → List ℕ
write_line t = write_number (get_or t 0 0) ++ write_number (get_or t 1 0) ++ write_number (get_or t 2 0) ++ (10 ∷ [])

-- the three numbers that the first line of a text shows, if it is one
unfoldable pub read_line : List ℕ → List ℕ
read_line t = read_number t ∷ read_number (drop 6 t) ∷ read_number (drop 12 t) ∷ []

-- Whether the first 19 bytes of a text are a line: the writing of three numbers up to 999,999. It is enough to try the three that
-- they show (`LineIsWriting` in Theorems.antt).
unfoldable pub is_line : List ℕ → Bool
is_line t = is_row (read_line t) && same (take 19 t) (write_line (read_line t))
