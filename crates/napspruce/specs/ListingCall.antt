-- 01, Register program, 16: the listing for three texts, or the refusal, and what a lent buffer then holds.
use Rattle.std.specs.Prelude.{ℕ, ◌+◌, ◌*◌, List, [], ◌∷◌, ◌++◌, ltb, length, Result as Returned}
use Rattle.lines.specs.declared.refusing.Refusal.{Refusal as GivenRefusal}
use Rattle.lines.specs.Line.{is_line}
use Rattle.lines.specs.Text.{read_text}
use Rattle.lines.specs.Refusal.{Refusal, Result, no_table, answer_of, Outcome}
use Rattle.lines.specs.Checks.{found, check, first_found, answering, afterwards}
use Rattle.lines.specs.Calls.{over, line_checks}
use Rattle.circuit.specs.Circuit.{max_lines}
use Rattle.circuit.specs.Refusal.{circuit_table}
use Rattle.rules.specs.RuleRefusal.{rules_table}
use Rattle.rules.specs.SiteTable.{max_sites, sites_table}
use Rattle.rewriting.specs.RewriteCall.{table_checks}
use Rattle.napspruce.specs.Listing.{listing_text}

-- the answer: a success gives the listing's length
abbrev pub paper_values : Returned ℕ GivenRefusal → Result
paper_values = answer_of (λ n. n ∷ [])

-- as many lines as a listing has at most: the circuit's, the summary's three, and one a site
abbrev pub listing_line_limit : ℕ
listing_line_limit = max_lines + 3 + max_sites

-- its numbers, and 01, refusal 2, with 02, 2026-01, its bytes: 63,308
abbrev pub listing_numbers : ℕ
listing_numbers = 3 * listing_line_limit

abbrev pub max_listing : ℕ
max_listing = 19 * listing_line_limit

-- 01, refusals 1 and 3, of a text of any length, as the line layer tests them; 0 if neither applies
unfoldable pub text_refusal : (text : List ℕ) → ℕ
text_refusal text = (first_found (line_checks 19 is_line text)).number

-- 01, Refusals, 2: 1 then 3 of each text; 2, where the lent buffer has `room` bytes.
abbrev pub text_checks : (circuit rules sites : List ℕ) (room : ℕ) → List Refusal
text_checks circuit rules sites room =
    found (text_refusal circuit) circuit_table
    ∷ found (text_refusal rules) rules_table
    ∷ found (text_refusal sites) sites_table
    ∷ check (ltb room max_listing) 2 no_table ∷ []

-- And then the tables that the texts are read into. (Their checks test 1 too, which tables that are read of a text never get.)
abbrev pub list_checks : (circuit rules sites : List ℕ) (room : ℕ) → List Refusal
list_checks circuit rules sites room =
    text_checks circuit rules sites room ++ table_checks (read_text circuit) (read_text rules) (read_text sites)

-- the listing's bytes, or the refusal, of tables and of texts
unfoldable pub list_tables : (circuit rules sites : List ℕ) → Result
list_tables circuit rules sites = answering (table_checks circuit rules sites) (listing_text circuit rules sites)

unfoldable pub list_texts : (circuit rules sites : List ℕ) (room : ℕ) → Result
list_texts circuit rules sites room =
    answering (list_checks circuit rules sites room) (listing_text (read_text circuit) (read_text rules) (read_text sites))

-- Where no check applies, the text goes over the buffer's front, and its length is the result.
abbrev pub putting : (checks : List Refusal) (text buffer : List ℕ) → Outcome (List ℕ)
putting checks text buffer = afterwards (answering checks (length text ∷ [])) buffer (over text buffer)

abbrev pub tables_outcome : (circuit rules sites buffer : List ℕ) → Outcome (List ℕ)
tables_outcome circuit rules sites buffer = putting (table_checks circuit rules sites) (listing_text circuit rules sites) buffer

unfoldable pub listing_outcome : (circuit rules sites buffer : List ℕ) → Outcome (List ℕ)
listing_outcome circuit rules sites buffer =
    putting (list_checks circuit rules sites (length buffer)) (listing_text (read_text circuit) (read_text rules) (read_text sites)) buffer
