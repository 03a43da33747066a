-- The theorems about the finder, as statements; each is proved under its name in proofs/.
use Rattle.std.specs.Prelude.{ℕ, ◌+◌, ◌^◌, ◌≤◌, ◌<◌, ◌≡◌, ◌↔◌, true, false, List, [], ◌∷◌, length}
use Rattle.std.proofs.Math.Option.{none, some}
use Rattle.lines.specs.Refusal.{gives}
use Rattle.lines.specs.Checks.{first_found}
use Rattle.circuit.specs.Circuit.{Circuit}
use Rattle.circuit.specs.Table.{decode}
use Rattle.circuit.specs.Trim.{trim}
use Rattle.rules.specs.Rule.{Rule}
use Rattle.rules.specs.RuleTable.{rule_of}
use Rattle.rules.specs.Match.{match_rule}
use Rattle.rules.specs.MatchCall.{matching}
use Rattle.rules.specs.Verdict.{passes, not_a_gate, no_match, judgement, early_verdict}
use Rattle.finder.specs.Search.{whole_search, first_match, has}
use Rattle.finder.specs.FindCall.{a_mask, no_mask, spent, find_checks, finding}

-- ---- the search

-- The matches of the search are the masks within the left gates by which the rule matches.
abbrev pub SearchHasMatches : Type 0
SearchHasMatches =
    (c : Circuit) (u : Rule) (gate mask : ℕ)
    → (has mask (whole_search c u gate) ≡ true) ↔ ((mask < 2 ^ length u.lefts) × ((b : List ℕ) × (match_rule c u gate mask ≡ some b)))

-- The mask of the first match matches.
abbrev pub FirstMatches : Type 0
FirstMatches =
    (c : Circuit) (u : Rule) (gate : ℕ) → (first_match (whole_search c u gate)).matched ≡ true
    → ((first_match (whole_search c u gate)).mask < 2 ^ length u.lefts)
    × ((b : List ℕ) × (match_rule c u gate (first_match (whole_search c u gate)).mask ≡ some b))

-- No smaller mask does.
abbrev pub FirstIsSmallest : Type 0
FirstIsSmallest =
    (c : Circuit) (u : Rule) (gate : ℕ) → (first_match (whole_search c u gate)).matched ≡ true
    → (mask : ℕ) → mask < (first_match (whole_search c u gate)).mask → match_rule c u gate mask ≡ none

-- There is no first match exactly if no mask matches.
abbrev pub NoFirstMeansNone : Type 0
NoFirstMeansNone =
    (c : Circuit) (u : Rule) (gate : ℕ)
    → ((first_match (whole_search c u gate)).matched ≡ false)
    ↔ ((mask : ℕ) → mask < 2 ^ length u.lefts → match_rule c u gate mask ≡ none)

-- The search has at most 2 ^ (left gates + 1) - 2 ways.
abbrev pub FewWays : Type 0
FewWays = (c : Circuit) (u : Rule) (gate : ℕ) → (first_match (whole_search c u gate)).ways + 2 ≤ 2 ^ (length u.lefts + 1)

-- It has at least one, so that an answer with 0 ways is a verdict's.
abbrev pub SomeWay : Type 0
SomeWay = (c : Circuit) (u : Rule) (gate : ℕ) → 1 ≤ length u.lefts → 1 ≤ (first_match (whole_search c u gate)).ways

-- ---- the call, where no refusal applies, beside the match call on the same tables

-- One of the verdicts 1 to 3 is the answer exactly if every mask gets it.
abbrev pub VerdictIsTheSites : Type 0
VerdictIsTheSites =
    (circuit rules : List ℕ) (rule gate limit : ℕ) → (first_found (find_checks circuit rules limit)).number ≡ 0
    → (verdict : ℕ) → 1 ≤ verdict → verdict ≤ not_a_gate
    → (finding circuit rules rule gate limit ≡ gives (verdict ∷ 0 ∷ 0 ∷ []))
    ↔ ((mask : ℕ) → matching circuit rules rule gate mask ≡ gives (verdict ∷ []))

-- Where none of these verdicts applies, it is "spent", with the limit, exactly if the search has more ways than the limit.
abbrev pub SpentIsMoreWays : Type 0
SpentIsMoreWays =
    (circuit rules : List ℕ) (rule gate limit : ℕ) → (first_found (find_checks circuit rules limit)).number ≡ 0
    → early_verdict (trim (decode circuit)) (judgement rules rule) gate ≡ passes
    → (finding circuit rules rule gate limit ≡ gives (spent ∷ 0 ∷ limit ∷ []))
    ↔ (limit < (first_match (whole_search (trim (decode circuit)) (rule_of rules rule) gate)).ways)

-- And where it has not more: "none", with the search's ways, exactly if every mask gets 4.
abbrev pub NoneIsNoMatch : Type 0
NoneIsNoMatch =
    (circuit rules : List ℕ) (rule gate limit : ℕ) → (first_found (find_checks circuit rules limit)).number ≡ 0
    → early_verdict (trim (decode circuit)) (judgement rules rule) gate ≡ passes
    → let s = first_match (whole_search (trim (decode circuit)) (rule_of rules rule) gate) in s.ways ≤ limit
    → (finding circuit rules rule gate limit ≡ gives (no_mask ∷ 0 ∷ s.ways ∷ []))
    ↔ ((mask : ℕ) → matching circuit rules rule gate mask ≡ gives (no_match ∷ []))

-- A mask, with the search's ways, exactly if that mask gets 0 and every smaller one gets 4.
abbrev pub MaskIsSmallest : Type 0
MaskIsSmallest =
    (circuit rules : List ℕ) (rule gate limit : ℕ) → (first_found (find_checks circuit rules limit)).number ≡ 0
    → early_verdict (trim (decode circuit)) (judgement rules rule) gate ≡ passes
    → let s = first_match (whole_search (trim (decode circuit)) (rule_of rules rule) gate) in s.ways ≤ limit
    → (mask : ℕ)
    → (finding circuit rules rule gate limit ≡ gives (a_mask ∷ mask ∷ s.ways ∷ []))
    ↔ ((matching circuit rules rule gate mask ≡ gives (passes ∷ []))
    × ((smaller : ℕ) → smaller < mask → matching circuit rules rule gate smaller ≡ gives (no_match ∷ [])))
