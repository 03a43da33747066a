-- What each call on lines gives back, and what its lent buffer then holds, for every input.
use Rattle.std.specs.Prelude.{ℕ, ◌*◌, ◌/◌, Bool, not, List, [], ◌∷◌, ◌++◌, length, drop, ltb}
use Rattle.lists.specs.Records.{map_records, all_records}
use Rattle.lines.specs.Line.{is_row, is_line, write_line, read_line}
use Rattle.lines.specs.Text.{is_partial}
use Rattle.lines.specs.Refusal.{Refusal, Result, no_table, Outcome}
use Rattle.lines.specs.Checks.{check, answering, afterwards}

-- 01, Refusals, 2 and 3: 1, then 3, of a text or table by itself whose lines have `size` elements, right by `test`.
abbrev pub line_checks : {A : Type 0} (size : ℕ) (test : List A → Bool) (source : List A) → List Refusal
line_checks size test source =
    check (is_partial size source) 1 no_table
    ∷ check (not (all_records test size (length source / size) source)) 3 no_table ∷ []

-- 01, Refusals, 3: reading and writing by themselves test 2 last. Here each line is to be `width` elements of the lent buffer.
abbrev pub conversion_checks : {A B : Type 0} (size width : ℕ) (test : List A → Bool) (source : List A) (buffer : List B) → List Refusal
conversion_checks size width test source buffer =
    line_checks size test source ++ (check (ltb (length buffer) (width * (length source / size))) 2 no_table ∷ [])

-- a lent buffer after a success: the result, and beyond it the old contents (01, Agreed, 1)
abbrev pub over : {B : Type 0} → List B → List B → List B
over new old = new ++ drop (length new) old

-- A success gives the number of lines.
unfoldable pub validation : {A : Type 0} (size : ℕ) (test : List A → Bool) (source : List A) → Result
validation size test source = answering (line_checks size test source) (length source / size ∷ [])

-- Lines of `size` elements, right by `test`, become lines of `width` elements by `make`.
unfoldable pub conversion : {A B : Type 0} (size width : ℕ) (test : List A → Bool) (make : List A → List B) (source : List A) (buffer : List B)
    → Outcome (List B)
conversion size width test make source buffer =
    afterwards (answering (conversion_checks size width test source buffer) (length source / size ∷ []))
    buffer (over (map_records make size (length source / size) source) buffer)

-- the calls `validate`, `read` and `write`
abbrev pub validating : (text : List ℕ) → Result
validating = validation 19 is_line

abbrev pub reading : (text table : List ℕ) → Outcome (List ℕ)
reading = conversion 19 3 is_line read_line

abbrev pub writing : (table text : List ℕ) → Outcome (List ℕ)
writing = conversion 3 19 is_row write_line
