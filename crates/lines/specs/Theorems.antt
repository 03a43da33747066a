-- The theorems about lines, as statements; each is proved under its name in proofs/.
use Rattle.std.specs.Prelude.{ℕ, ◌*◌, ◌≤◌, ◌≡◌, ◌↔◌, true, List, [], ◌∷◌, ltb, length, take}
use Rattle.lists.specs.First.{first}
use Rattle.lines.specs.Line.{is_row, is_line, write_line}
use Rattle.lines.specs.Text.{is_text, is_table, read_text, write_table}
use Rattle.lines.specs.Refusal.{refused, gives, no_table, Outcome, leaving}
use Rattle.lines.specs.Calls.{over, reading, writing}

-- The first 19 bytes of a text are a line exactly if they are the writing of some three numbers up to 999,999.
abbrev pub LineIsWriting : Type 0
LineIsWriting =
    (t : List ℕ) → (is_line t ≡ true) ↔ ((a b c : ℕ) × (is_row (a ∷ b ∷ c ∷ []) ≡ true) × (take 19 t ≡ write_line (a ∷ b ∷ c ∷ [])))

-- A text is well written exactly if it is the writing of some table of numbers up to 999,999, three a line, at least one line.
abbrev pub TextIsWriting : Type 0
TextIsWriting = (t : List ℕ) → (is_text t ≡ true) ↔ ((table : List ℕ) × (is_table table ≡ true) × (t ≡ write_table table))

-- Writing after reading gives the text back, and what was read can be written.
abbrev pub WriteAfterRead : Type 0
WriteAfterRead = (t : List ℕ) → is_text t ≡ true → (write_table (read_text t) ≡ t) × (is_table (read_text t) ≡ true)

-- Reading after writing gives the table back, and what was written is well written.
abbrev pub ReadAfterWrite : Type 0
ReadAfterWrite = (t : List ℕ) → is_table t ≡ true → (read_text (write_table t) ≡ t) × (is_text (write_table t) ≡ true)

-- `read` succeeds exactly if the text is well written and there is room for its numbers; it gives the number of lines, and the table then
-- begins with the numbers.
abbrev pub ReadGives : Type 0
ReadGives =
    (text table : List ℕ) (n : ℕ)
    → (((reading text table).answer ≡ gives (n ∷ [])) ↔ ((is_text text ≡ true) × (length text ≡ 19 * n) × (3 * n ≤ length table)))
    × ((reading text table).answer ≡ gives (n ∷ []) → (reading text table).buffers ≡ over (read_text text) table)

-- `write` succeeds exactly if the table can be written and there is room for its lines; likewise.
abbrev pub WriteGives : Type 0
WriteGives =
    (table text : List ℕ) (n : ℕ)
    → (((writing table text).answer ≡ gives (n ∷ [])) ↔ ((is_table table ≡ true) × (length table ≡ 3 * n) × (19 * n ≤ length text)))
    × ((writing table text).answer ≡ gives (n ∷ []) → (writing table text).buffers ≡ over (write_table table) text)

-- One call after the other. What the second call gives: the first one's source in `out`, or refusal 2 if `out` is too short.
abbrev pub given_back : ℕ → (source out : List ℕ) → Outcome (List ℕ)
given_back n source out = first (ltb (length out) (length source)) (leaving (refused 2 no_table) out) (leaving (gives (n ∷ [])) (over source out))

-- The n lines that a successful `read` has left in the table are written back as the text.
abbrev pub WriteCallAfterRead : Type 0
WriteCallAfterRead =
    (text table out : List ℕ) (n : ℕ) → (reading text table).answer ≡ gives (n ∷ [])
    → writing (take (3 * n) (reading text table).buffers) out ≡ given_back n text out

-- The n lines that a successful `write` has left in the text are read back as the table.
abbrev pub ReadCallAfterWrite : Type 0
ReadCallAfterWrite =
    (table text out : List ℕ) (n : ℕ) → (writing table text).answer ≡ gives (n ∷ [])
    → reading (take (19 * n) (writing table text).buffers) out ≡ given_back n table out
