-- 01, Refusals: the checks of a call, in checking order, and the call's answer by them.
use Rattle.std.specs.Prelude.{ℕ, Bool, List, [], ◌∷◌, eqb}
use Rattle.lists.specs.First.{first}
use Rattle.lines.specs.Refusal.{Refusal, Result, refused, gives, no_table, Outcome, leaving}

-- A check is the refusal that one test finds: its number, or 0 if it does not apply, and the table that the fault lies in.
abbrev pub found : (number table : ℕ) → Refusal
found number table = record { number = number; table = table }

-- the same where a test says whether the refusal applies
unfoldable pub check : (applies : Bool) (number table : ℕ) → Refusal
check applies number table = found (first applies number 0) table

-- the refusal of the first check that applies; its number is 0 if none does
unfoldable pub first_found : (checks : List Refusal) → Refusal
first_found [] = found 0 no_table
first_found (k ∷ ks) = first (eqb k.number 0) (first_found ks) k

-- that refusal; else the call's numbers
unfoldable pub answering : (checks : List Refusal) (values : List ℕ) → Result
answering checks values =
    first (eqb (first_found checks).number 0) (gives values) (refused (first_found checks).number (first_found checks).table)

-- 01, Refusals, 1: what lent buffers hold afterwards, where they held `old`, and a success puts `new` there
abbrev pub buffers_after : {B : Type 0} → Result → (old new : B) → B
buffers_after (refused number table) old new = old
buffers_after (gives values) old new = new

abbrev pub afterwards : {B : Type 0} → Result → (old new : B) → Outcome B
afterwards answer old new = leaving answer (buffers_after answer old new)
