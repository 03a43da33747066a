-- 01, Sites, 13: the verdict of a site, the first that applies, and the circuit that a kept site leaves.
use Rattle.std.specs.Prelude.{ℕ, ◌+◌, Bool, not, List, eqb, ltb, length}
use Rattle.lists.specs.First.{first}
use Rattle.circuit.specs.Critical.{pair_of}
use Rattle.circuit.specs.Circuit.{Circuit, max_gates}
use Rattle.circuit.specs.Trim.{trim}
use Rattle.rules.specs.Rule.{Rule}
use Rattle.rules.specs.RuleTable.{rule_of}
use Rattle.rules.specs.SiteTable.{Site}
use Rattle.rules.specs.Verdict.{SiteMatch, passes, match_site}
use Rattle.rewriting.specs.Replacement.{replace}
use Rattle.rewriting.specs.Pair.{is_lower}

-- the verdicts that come after the match, by their numbers; a site that passes them too is kept
abbrev pub too_large : ℕ
too_large = 5

abbrev pub not_lower : ℕ
not_lower = 6

-- 1 to 4, else 0 and the bindings
abbrev pub site_match : Circuit → (rules : List ℕ) → Site → SiteMatch
site_match c rules s = match_site c rules s.rule s.gate s.mask

-- 5 applies: the gates, without the site's and with the right gates, are above the limit. One is added on both sides, so that nothing is
-- subtracted.
abbrev pub is_too_large : Circuit → Rule → Bool
is_too_large c u = ltb (max_gates + 1) (length c.gates + length u.rights)

-- the circuit after replacement by the bindings of the match, and after it is trimmed (01, Sites, 12)
abbrev pub replaced : Circuit → (rules : List ℕ) → Site → Circuit
replaced c rules s = replace c (rule_of rules s.rule) s.gate (site_match c rules s).bindings

abbrev pub rewritten : Circuit → (rules : List ℕ) → Site → Circuit
rewritten c rules s = trim (replaced c rules s)

-- 1 to 4, what the match says; 5; 6, the pair of the rewritten circuit is not lower than that of the circuit just before this site; else 0
unfoldable pub verdict_of : Circuit → (rules : List ℕ) → Site → ℕ
verdict_of c rules s =
    first (not (eqb (site_match c rules s).verdict passes)) (site_match c rules s).verdict
    (first (is_too_large c (rule_of rules s.rule)) too_large
    (first (not (is_lower (pair_of (rewritten c rules s)) (pair_of c))) not_lower
    passes))
