-- 01, Marked examples, 1: what the program prints.
use Rattle.std.specs.Prelude.{ℕ, List, [], ◌∷◌}
use Rattle.lines.specs.Text.{write_table}
use Rattle.lines.specs.Refusal.{Result, refused, gives}
use Rattle.napspruce.specs.ListingCall.{max_listing, list_texts}

abbrev pub refusal_kind : ℕ
refusal_kind = 9

-- the listing's bytes, or the one line of a refusal
abbrev pub printed_of : Result → List ℕ
printed_of (refused number table) = write_table (refusal_kind ∷ number ∷ table ∷ [])
printed_of (gives bytes) = bytes

-- of three texts; the program has room for any listing
unfoldable pub printed : (circuit rules sites : List ℕ) → List ℕ
printed circuit rules sites = printed_of (list_texts circuit rules sites max_listing)
