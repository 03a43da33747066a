-- Well-formed tables of rules and sites: those that are not refused (`AcceptedRulesAreWellFormed`, `AcceptedSitesAreWellFormed` in
-- Theorems.antt), as facts for those who read them.
use Rattle.std.specs.Prelude.{ℕ, ◌+◌, ◌≤◌, ◌<◌, ◌≡◌, true, List, length, get_or}
use Rattle.circuit.specs.Circuit.{first_gate}
use Rattle.circuit.specs.Each.{EachGate}
use Rattle.circuit.specs.Refusal.{has_gate_kind}
use Rattle.circuit.specs.Valuation.{Ordered}
use Rattle.rules.specs.Rule.{Rule, max_rules, max_holes, max_lefts, max_rights}
use Rattle.rules.specs.RuleTable.{rule_count, rules_from, holes_at, lefts_at, rights_at, next_rule, rule_at}
use Rattle.rules.specs.RuleRefusal.{walk, rule_kinds_ok, references_ok, uses_ok, rules_kinds_ok, rules_references_ok, rules_uses_ok}
use Rattle.rules.specs.SiteTable.{site_count, max_sites, sites_end}

-- the rule at number p is within its limits, and its lines are there
pub record RuleSized (t : List ℕ) (p : ℕ) : Type 0 where
  pub holes-limit : holes_at t p ≤ max_holes
  pub lefts-some : 1 ≤ lefts_at t p
  pub lefts-limit : lefts_at t p ≤ max_lefts
  pub rights-limit : rights_at t p ≤ max_rights
  pub long : next_rule t p ≤ length t

-- a rule that is not refused
pub record WellFormedRule (t : List ℕ) (p : ℕ) : Type 0 where
  pub sized : RuleSized t p
  pub kinds : rule_kinds_ok t p ≡ true
  pub references : references_ok (rule_at t p) ≡ true
  pub uses : uses_ok (rule_at t p) ≡ true

-- what such a rule's record says
pub record ValidRule (u : Rule) : Type 0 where
  pub holes-limit : u.holes ≤ max_holes
  pub lefts-some : 1 ≤ length u.lefts
  pub lefts-limit : length u.lefts ≤ max_lefts
  pub rights-limit : length u.rights ≤ max_rights
  pub lefts-ordered : Ordered (first_gate u.holes) u.lefts
  pub rights-ordered : Ordered (first_gate u.holes) u.rights
  pub lefts-kinds : EachGate (λ m g. has_gate_kind m g ≡ true) (first_gate u.holes) u.lefts
  pub rights-kinds : EachGate (λ m g. has_gate_kind m g ≡ true) (first_gate u.holes) u.rights
  pub closing-below : u.closing < first_gate u.holes + length u.rights
  pub uses : uses_ok u ≡ true

-- the head is within its limits, and the walk from the top finds nothing
pub record RulesSized (t : List ℕ) : Type 0 where
  pub head-there : 3 ≤ length t
  pub count-limit : rule_count t ≤ max_rules
  pub second-zero : get_or t 1 0 ≡ 0
  pub third-zero : get_or t 2 0 ≡ 0
  pub walked : walk t (rule_count t) (rules_from t) ≡ 0

pub record WellFormedRules (t : List ℕ) : Type 0 where
  pub sized : RulesSized t
  pub kinds : rules_kinds_ok t ≡ true
  pub references : rules_references_ok t ≡ true
  pub uses : rules_uses_ok t ≡ true

pub record WellFormedSites (t : List ℕ) : Type 0 where
  pub count-limit : site_count t ≤ max_sites
  pub second-zero : get_or t 1 0 ≡ 0
  pub third-zero : get_or t 2 0 ≡ 0
  pub long : length t ≡ sites_end t
