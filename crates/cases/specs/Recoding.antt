-- A text read into a table and written back.
use Rattle.std.specs.Prelude.{ℕ, List, length, ltb}
use Rattle.lists.specs.First.{first}
use Rattle.lines.specs.Refusal.{Result, refused, gives, no_table, Outcome, leaving}
use Rattle.lines.specs.Calls.{reading, over}

-- after a refusal of the reading nothing is written; after a success the text comes back, if it has room
abbrev pub writing_back : Result → (text out : List ℕ) → Outcome (List ℕ)
writing_back (refused number table) text out = leaving (refused number table) out
writing_back (gives lines) text out =
    first (ltb (length out) (length text)) (leaving (refused 2 no_table) out) (leaving (gives lines) (over text out))

unfoldable pub recoding : (text table out : List ℕ) → Outcome (List ℕ)
recoding text table out = writing_back (reading text table).answer text out
