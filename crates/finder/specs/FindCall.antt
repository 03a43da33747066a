-- The call `find_mask` (02, 2026-02): what it gives back, for every input.
use Rattle.std.specs.Prelude.{ℕ, Bool, not, ◌&&◌, List, [], ◌∷◌, ◌++◌, eqb, leb, ltb, Result as Returned, Ok, Err}
use Rattle.lists.specs.First.{first}
use Rattle.lines.specs.declared.refusing.Refusal.{Refusal as GivenRefusal}
use Rattle.lines.specs.Refusal.{Refusal, Result, answer_of, no_table}
use Rattle.lines.specs.Checks.{check, answering}
use Rattle.circuit.specs.Circuit.{Circuit}
use Rattle.circuit.specs.Table.{decode}
use Rattle.circuit.specs.Trim.{trim}
use Rattle.rules.specs.MatchCall.{match_checks}
use Rattle.rules.specs.RuleTable.{rule_of}
use Rattle.rules.specs.declared.Verdict.{Verdict as SiteVerdict}
use Rattle.rules.specs.Verdict.{passes, judgement, early_verdict, verdict_number}
use Rattle.finder.specs.declared.Found.{Found}
use Rattle.finder.specs.declared.Found.TheVariants.{Mask, Verdict, NoMask, Spent}
use Rattle.finder.specs.Search.{Searched, max_ways, whole_search, first_match}

-- The outcomes by their numbers. The verdicts 1 to 3 of a site keep theirs; 02 has no others, so that those of a mask, of "none" and of "spent"
-- are decided here (docs/DECISIONS.md).
abbrev pub a_mask : ℕ
a_mask = 0

abbrev pub no_mask : ℕ
no_mask = 4

abbrev pub spent : ℕ
spent = 5

-- the answer: a success gives the outcome, the mask, which is 0 where there is none, and the ways
abbrev pub values_of : Found → List ℕ
values_of (Mask mask ways) = a_mask ∷ mask ∷ ways ∷ []
values_of (Verdict v) = verdict_number v ∷ 0 ∷ 0 ∷ []
values_of (NoMask ways) = no_mask ∷ 0 ∷ ways ∷ []
values_of (Spent limit) = spent ∷ 0 ∷ limit ∷ []

abbrev pub paper_values : Returned Found GivenRefusal → Result
paper_values = answer_of values_of

-- the values of what the search found, or of a verdict that applies before it
abbrev pub values_or : Returned Found SiteVerdict → List ℕ
values_or (Ok found) = values_of found
values_or (Err v) = values_of (Verdict v)

-- "spent" exactly if the search has more ways than the limit, and then with the limit; else its mask, or "none", with its ways
unfoldable pub searched_values : (limit : ℕ) → Searched → List ℕ
searched_values limit s =
    first (ltb limit s.ways) (spent ∷ 0 ∷ limit ∷ [])
    (first s.matched (a_mask ∷ s.mask ∷ s.ways ∷ [])
    (no_mask ∷ 0 ∷ s.ways ∷ []))

-- in a trimmed circuit: the verdicts 1 to 3 as for a site, with 0 ways; else what the search finds
unfoldable pub found_values : Circuit → (rules : List ℕ) (rule gate limit : ℕ) → List ℕ
found_values c t rule gate limit =
    first (not (eqb (early_verdict c (judgement t rule) gate) passes)) (early_verdict c (judgement t rule) gate ∷ 0 ∷ 0 ∷ [])
    (searched_values limit (first_match (whole_search c (rule_of t rule) gate)))

-- refusal 12: a limit of ways outside its range
abbrev pub is_limit : (limit : ℕ) → Bool
is_limit limit = leb 1 limit && leb limit max_ways

-- the checks of the match call; then 12
abbrev pub find_checks : (circuit rules : List ℕ) (limit : ℕ) → List Refusal
find_checks circuit rules limit = match_checks circuit rules ++ (check (not (is_limit limit)) 12 no_table ∷ [])

-- Where none applies, the circuit is trimmed, and the mask is looked for there.
unfoldable pub finding : (circuit rules : List ℕ) (rule gate limit : ℕ) → Result
finding circuit rules rule gate limit =
    answering (find_checks circuit rules limit) (found_values (trim (decode circuit)) rules rule gate limit)
