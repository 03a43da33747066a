-- 01, Refusals, 1: what a call gives back, in 01's numbers.
use Rattle.std.specs.Prelude.{ℕ, List, [], ◌∷◌, Option, Some, None, Result as Returned, Ok, Err}
use Rattle.lines.specs.declared.refusing.Reason.{Reason}
use Rattle.lines.specs.declared.refusing.Reason.TheVariants.{WrongLength, BufferTooShort, LineIllWritten, HeadOutOfLimits, LinesNotAsHeadSays, UnknownKind}
use Rattle.lines.specs.declared.refusing.Reason.TheVariants.{ReferenceOutOfRange, UnusedReference, RegisterLimitOutOfRange, TooFewRegisters, WrongStart, WayLimitOutOfRange}
use Rattle.lines.specs.declared.refusing.Refusal.{Refusal as GivenRefusal}
use Rattle.lines.specs.declared.refusing.Table.{Table}
use Rattle.lines.specs.declared.refusing.Table.TheVariants.{Circuit, Rules, Sites}

-- a refusal by its number and its table
pub record Refusal : Type 0 where
  pub number : ℕ
  pub table : ℕ

-- A refusal is its number and a table. A success is the call's numbers, such as how many lines were found, read or written.
pub data Result : Type 0 where
  refused : (number table : ℕ) → Result
  gives : List ℕ → Result

-- the table that is named where the fault lies in none, as in a text or table that is read or written by itself
abbrev pub no_table : ℕ
no_table = 0

abbrev pub reason_number : Reason → ℕ
reason_number WrongLength = 1
reason_number BufferTooShort = 2
reason_number LineIllWritten = 3
reason_number HeadOutOfLimits = 4
reason_number LinesNotAsHeadSays = 5
reason_number UnknownKind = 6
reason_number ReferenceOutOfRange = 7
reason_number UnusedReference = 8
reason_number RegisterLimitOutOfRange = 9
reason_number TooFewRegisters = 10
reason_number WrongStart = 11
reason_number WayLimitOutOfRange = 12

abbrev pub table_number : Option Table → ℕ
table_number None = no_table
table_number (Some Circuit) = 1
table_number (Some Rules) = 2
table_number (Some Sites) = 3

abbrev pub refusal_of : GivenRefusal → Refusal
refusal_of r = record { number = reason_number r.reason; table = table_number r.table }

-- a call's answer, where a success gives `values`
abbrev pub answer_of : {A : Type 0} → (values : A → List ℕ) → Returned A GivenRefusal → Result
answer_of values (Ok a) = gives (values a)
answer_of values (Err r) = refused (reason_number r.reason) (table_number r.table)

-- what a function that only checks has found, number 0 if nothing
abbrev pub found_by : {A : Type 0} → Returned A GivenRefusal → Refusal
found_by (Ok a) = record { number = 0; table = no_table }
found_by (Err r) = refusal_of r

-- the number of what such a function has found in one table
abbrev pub number_found_by : {A : Type 0} → Returned A Reason → ℕ
number_found_by (Ok a) = 0
number_found_by (Err r) = reason_number r

-- the answer of the calls on lines: a success gives the number of lines
abbrev pub paper_values : Returned ℕ GivenRefusal → Result
paper_values = answer_of (λ n. n ∷ [])

-- What a call gives back, and what the lent buffers then hold: the one list of most calls, or a record of lists.
pub record Outcome (B : Type 0) : Type 0 where
  pub answer : Result
  pub buffers : B

abbrev pub leaving : {B : Type 0} → Result → B → Outcome B
leaving r b = record { answer = r; buffers = b }
