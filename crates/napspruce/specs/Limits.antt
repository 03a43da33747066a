-- How large the numbers are that the calls give.
use Rattle.std.specs.Prelude.{ℕ, ◌-◌, ◌^◌, ◌≤◌, List, [], ◌∷◌}
use Rattle.lines.specs.Refusal.{Result, refused, gives}
use Rattle.circuit.specs.Circuit.{max_gates, max_outputs, max_lines, max_depth}
use Rattle.rules.specs.Rule.{max_lefts}
use Rattle.rules.specs.SiteTable.{max_sites}
use Rattle.rules.specs.Verdict.{not_sound, no_match}
use Rattle.finder.specs.Search.{max_ways}
use Rattle.finder.specs.FindCall.{spent}
use Rattle.translator.specs.Machine.{max_registers}
use Rattle.translator.specs.Program.{max_instructions}
use Rattle.napspruce.specs.ListingCall.{max_listing}

-- there are as many numbers as limits, and none is above its own
abbrev pub EachWithin : (limits values : List ℕ) → Type 0
EachWithin [] [] = Unit {0}
EachWithin [] (v ∷ vs) = ⊥
EachWithin (l ∷ ls) [] = ⊥
EachWithin (l ∷ ls) (v ∷ vs) = (v ≤ l) × EachWithin ls vs

-- 01, Refusals, and 02, 2026-02: the last number and the last table
abbrev pub last_refusal : ℕ
last_refusal = 12

abbrev pub last_table : ℕ
last_table = 3

-- a refusal with a number and a table that there are; or a success's numbers within their limits
abbrev pub Within : (limits : List ℕ) → Result → Type 0
Within limits (refused number table) = (1 ≤ number) × (number ≤ last_refusal) × (table ≤ last_table)
Within limits (gives values) = EachWithin limits values

-- `evaluate`: outputs
abbrev pub evaluate_limits : List ℕ
evaluate_limits = max_outputs ∷ []

-- `measure`: D and N
abbrev pub measure_limits : List ℕ
measure_limits = max_depth ∷ max_gates ∷ []

-- `judge` and `match_site`: the verdict
abbrev pub judge_limits : List ℕ
judge_limits = not_sound ∷ []

abbrev pub match_limits : List ℕ
match_limits = no_match ∷ []

-- `find_mask`: the outcome, the mask, which has a bit for each left gate, and the ways
abbrev pub last_mask : ℕ
last_mask = 2 ^ max_lefts - 1

abbrev pub find_limits : List ℕ
find_limits = spent ∷ last_mask ∷ max_ways ∷ []

-- `rewrite`: both pairs and kept, and before them the lines
abbrev pub field_limits : List ℕ
field_limits = max_depth ∷ max_gates ∷ max_depth ∷ max_gates ∷ max_sites ∷ []

abbrev pub rewrite_limits : List ℕ
rewrite_limits = max_lines ∷ field_limits

-- `translate`: instructions, and the need, which is not above the limit that it was asked for
abbrev pub translate_limits : List ℕ
translate_limits = max_instructions ∷ max_registers ∷ []

-- the listing: its length
abbrev pub listing_limits : List ℕ
listing_limits = max_listing ∷ []
