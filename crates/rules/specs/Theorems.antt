-- The theorems about rules and sites, as statements; each is proved under its name in proofs/.
use Rattle.std.specs.Prelude.{ℕ, ◌+◌, ◌*◌, ◌/◌, ◌^◌, ◌≤◌, ◌<◌, ◌≡◌, ◌↔◌, true, not, List, length, drop, get_or}
use Rattle.std.proofs.Math.Option.{some}
use Rattle.lists.specs.First.{first}
use Rattle.circuit.specs.Circuit.{Gate, Circuit, first_gate}
use Rattle.circuit.specs.Fold.{fold_gates}
use Rattle.circuit.specs.Valuation.{Ordered, Solves}
use Rattle.circuit.specs.Evaluation.{bits}
use Rattle.circuit.specs.Path.{is_gate, is_used}
use Rattle.circuit.specs.Table.{decode}
use Rattle.circuit.specs.WellFormed.{WellFormed}
use Rattle.circuit.specs.ReverseDepth.{is_live}
use Rattle.circuit.specs.Trim.{trim}
use Rattle.rules.specs.Rule.{Rule, hole}
use Rattle.rules.specs.RuleTable.{place_of, rule_of, decode_rules, encode_rules}
use Rattle.rules.specs.RuleRefusal.{references_ok, uses_ok, rules_refusal}
use Rattle.rules.specs.SiteTable.{sites_refusal}
use Rattle.rules.specs.WellFormed.{WellFormedRule, ValidRule, WellFormedRules, WellFormedSites}
use Rattle.rules.specs.Soundness.{bit, side_value, start_holes, left_value, right_value, is_sound}
use Rattle.rules.specs.Words.{start_words, all_same_words, assignments_per_word, words_for}
use Rattle.rules.specs.Match.{binding, bound_to, match_rule}
use Rattle.rules.specs.Substitution.{Substitution}
use Rattle.rules.specs.Verdict.{passes, not_sound, not_a_gate, no_match, has_rule, judgement, kind_of, kind_verdict, match_site}

-- ---- tables

-- A table is well formed exactly if it is not refused.
abbrev pub AcceptedRulesAreWellFormed : Type 0
AcceptedRulesAreWellFormed = (t : List ℕ) → (rules_refusal t ≡ 0) ↔ WellFormedRules t

abbrev pub AcceptedSitesAreWellFormed : Type 0
AcceptedSitesAreWellFormed = (t : List ℕ) → (sites_refusal t ≡ 0) ↔ WellFormedSites t

-- Each rule of a well-formed table is well formed, as lines and as a record.
abbrev pub EachRuleIsWellFormed : Type 0
EachRuleIsWellFormed =
    (t : List ℕ) → WellFormedRules t → (rule : ℕ) → has_rule t rule ≡ true → WellFormedRule t (place_of t rule) × ValidRule (rule_of t rule)

-- The table of some rules says these rules.
abbrev pub DecodeAfterEncodeRules : Type 0
DecodeAfterEncodeRules = (us : List Rule) → decode_rules (encode_rules us) ≡ us

-- A well-formed table is the table of what it says.
abbrev pub EncodeAfterDecodeRules : Type 0
EncodeAfterDecodeRules = (t : List ℕ) → WellFormedRules t → encode_rules (decode_rules t) ≡ t

-- 01, Rules, 5: where refusal 7 does not apply, 8 does not apply exactly if each hole is an operand of some left gate, and each left gate
-- but the last an operand of a later one.
abbrev pub UseIsLater : Type 0
UseIsLater =
    (u : Rule) → 1 ≤ length u.lefts → references_ok u ≡ true
    → (uses_ok u ≡ true)
    ↔ (((j : ℕ) → j < u.holes → is_used (hole j) u.lefts ≡ true)
    × ((i : ℕ) → i + 1 < length u.lefts → is_used (first_gate u.holes + i) (drop (i + 1) u.lefts) ≡ true))

-- ---- soundness

-- A rule is sound exactly if both sides agree on every assignment of bits to its holes.
abbrev pub SoundIsAgreement : Type 0
SoundIsAgreement =
    (u : Rule)
    → (is_sound u ≡ true)
    ↔ ((assignment : ℕ → ℕ) → ((j : ℕ) → j < u.holes → assignment j < 2) → left_value u assignment ≡ right_value u assignment)

-- 02, 2026-07, 3: bit a of a reference's word is its value under assignment from + a, which gives hole j bit j of that number; whatever
-- the number of holes, however many bits words have and at whichever assignment they begin.
abbrev pub WordsStandForAssignments : Type 0
WordsStandForAssignments =
    (n from holes : ℕ) (gs : List Gate) (r a : ℕ) → a < n
    → bit a (side_value gs r (start_words n from holes)) ≡ side_value gs r (start_holes holes (λ j. bit j (from + a)))

-- The compares of the two sides' words say whether a rule is sound, whatever the number of holes, if the words have a bit for each
-- assignment.
abbrev pub WordsJudge : Type 0
WordsJudge = (u : Rule) (n words : ℕ) → 2 ^ u.holes ≤ words * n → all_same_words n words u ≡ is_sound u

-- At each number of holes the code's words are enough: one up to six holes, 2 to 16 for seven to ten.
abbrev pub WordsJudgeAtEachSize : Type 0
WordsJudgeAtEachSize = (u : Rule) → all_same_words assignments_per_word (words_for u.holes) u ≡ is_sound u

-- ---- the match

-- The bindings of a match are a substitution.
abbrev pub MatchGivesSubstitution : Type 0
MatchGivesSubstitution =
    (c : Circuit) → Ordered (first_gate c.inputs) c.gates → (u : Rule) → ValidRule u → (gate mask : ℕ) (b : List ℕ)
    → match_rule c u gate mask ≡ some b → Substitution c u gate mask b

-- And where there is a substitution, the match finds it.
abbrev pub SubstitutionIsFound : Type 0
SubstitutionIsFound =
    (c : Circuit) (u : Rule) → ValidRule u → (gate mask : ℕ) (b : List ℕ) → Substitution c u gate mask b
    → (b' : List ℕ) × (match_rule c u gate mask ≡ some b')
    × ((r : ℕ) → r < first_gate u.holes + length u.lefts → binding b' r ≡ binding b r)

-- Whatever is computed gate by gate, by an operation that does not mind its operands' order: where the holes have the values of what they
-- stand for, each reference of the left side has the value of what it stands for.
abbrev pub SubstitutionCarriesValues : Type 1
SubstitutionCarriesValues =
    (A : Type 0) (op : ℕ → A → A → A) (z : A) → ((k : ℕ) (x y : A) → op k x y ≡ op k y x)
    → (c : Circuit) (u : Rule) → ValidRule u → (gate mask : ℕ) (b : List ℕ) → Substitution c u gate mask b
    → (v : ℕ → A) → Solves op v (first_gate c.inputs) c.gates
    → (start : List A) → length start ≡ first_gate u.holes → ((r : ℕ) → r < first_gate u.holes → v (bound_to b r) ≡ get_or start r z)
    → (r : ℕ) → r < first_gate u.holes + length u.lefts → v (bound_to b r) ≡ get_or (fold_gates op z u.lefts start) r z

-- On every input the site's gate has the left side's value, at the bits of what the holes stand for; and the right side's, if the
-- rule is sound.
abbrev pub MatchedGateHasValue : Type 0
MatchedGateHasValue =
    (c : Circuit) → Ordered (first_gate c.inputs) c.gates → (u : Rule) → ValidRule u → (gate mask : ℕ) (b : List ℕ)
    → Substitution c u gate mask b → (bytes : List ℕ) → length bytes ≡ c.inputs
    → (get_or (bits c bytes) gate 0 ≡ left_value u (λ j. get_or (bits c bytes) (bound_to b (hole j)) 0))
    × (is_sound u ≡ true → get_or (bits c bytes) gate 0 ≡ right_value u (λ j. get_or (bits c bytes) (bound_to b (hole j)) 0))

-- In a trimmed circuit the left gates stand for live gates.
abbrev pub BoundGatesAreLive : Type 0
BoundGatesAreLive =
    (t : List ℕ) → WellFormed t → (u : Rule) (gate mask : ℕ) (b : List ℕ) → Substitution (trim (decode t)) u gate mask b
    → (i : ℕ) → i < length u.lefts → is_live (trim (decode t)) (bound_to b (first_gate u.holes + i)) ≡ true

-- ---- verdicts

-- A site that gets 0 names a rule that is sound, a gate, and a mask within the left gates, and its bindings are a substitution.
abbrev pub ZeroIsMatch : Type 0
ZeroIsMatch =
    (c : Circuit) → Ordered (first_gate c.inputs) c.gates → (t : List ℕ) → WellFormedRules t → (rule gate mask : ℕ)
    → (match_site c t rule gate mask).verdict ≡ passes
    → (has_rule t rule ≡ true) × (is_sound (rule_of t rule) ≡ true) × (is_gate c gate ≡ true)
    × (mask / 2 ^ length (rule_of t rule).lefts ≡ 0)
    × Substitution c (rule_of t rule) gate mask (match_site c t rule gate mask).bindings

-- And such a site gets 0, whichever the substitution.
abbrev pub MatchIsZero : Type 0
MatchIsZero =
    (c : Circuit) (t : List ℕ) → WellFormedRules t → (rule gate mask : ℕ) (b : List ℕ)
    → has_rule t rule ≡ true → is_sound (rule_of t rule) ≡ true → is_gate c gate ≡ true
    → mask / 2 ^ length (rule_of t rule).lefts ≡ 0
    → Substitution c (rule_of t rule) gate mask b
    → (match_site c t rule gate mask).verdict ≡ passes

-- The kind of a reference asks for 3 exactly if it is not a gate.
abbrev pub KindAsksForGate : Type 0
KindAsksForGate = (c : Circuit) (v : ℕ) → kind_verdict (kind_of c v) ≡ first (not (is_gate c v)) not_a_gate passes

-- The judge's verdict is at most 2, that of the match at most 4.
abbrev pub VerdictsAreSmall : Type 0
VerdictsAreSmall =
    (c : Circuit) (t : List ℕ) (rule gate mask : ℕ) → (judgement t rule ≤ not_sound) × ((match_site c t rule gate mask).verdict ≤ no_match)
