-- 01, Lines, 1 to 3: texts and tables as a whole.
use Rattle.std.specs.Prelude.{ℕ, ◌/◌, ◌%◌, Bool, not, ◌&&◌, ◌||◌, List, length, eqb}
use Rattle.lists.specs.Records.{map_records, all_records}
use Rattle.lines.specs.Line.{is_row, is_line, write_line, read_line}

-- 01, refusal 1: a text of no bytes or not of whole lines of 19, or a table of no numbers or not of whole lines of 3.
unfoldable pub is_partial : {A : Type 0} → ℕ → List A → Bool
is_partial size t = eqb (length t) 0 || not (eqb (length t % size) 0)

-- A well-written text: at least one line, and each of them well written.
unfoldable pub is_text : List ℕ → Bool
is_text t = not (is_partial 19 t) && all_records is_line 19 (length t / 19) t

-- A table that can be written: at least one line, three numbers a line, each up to 999,999.
unfoldable pub is_table : List ℕ → Bool
is_table t = not (is_partial 3 t) && all_records is_row 3 (length t / 3) t

-- Reading: the numbers of all lines, in line order.
unfoldable pub read_text : List ℕ → List ℕ
read_text t = map_records read_line 19 (length t / 19) t

-- Writing: the lines of all numbers, three a line.
unfoldable pub write_table : List ℕ → List ℕ
write_table t = map_records write_line 3 (length t / 3) t
