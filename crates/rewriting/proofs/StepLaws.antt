-- A site's verdict and what it leaves, test by test. Assumes nothing.
use mathlib.Core.Path.{◌≡◌, refl, sym, ap, ◌∙◌}
use mathlib.Core.Bool.{Bool, true, false, not, true≢false}
use mathlib.Core.List.{List}
use Prim.Native.Nat.{ℕ, ◌≤◌}
use native.Mathlib.Omega.{arith}
use lib.Dec.{eqb}
use lib.ListN.{length}
use borrow.Author.Tests.{eqb-true, eq-eqb, ne_eqb, not-false, ltb-false}
use Rattle.lists.specs.First.{first}
use Rattle.lists.proofs.First.{first_either}
use Rattle.circuit.specs.Critical.{pair_of}
use Rattle.circuit.specs.Circuit.{Circuit}
use Rattle.circuit.specs.Evaluation.{evaluate}
use Rattle.circuit.proofs.RefusalLaws.{passed}
use Rattle.circuit.proofs.ValidLaws.{Valid, Limited}
use Rattle.rules.specs.RuleTable.{rule_of}
use Rattle.rules.specs.SiteTable.{Site}
use Rattle.rules.specs.Soundness.{is_sound}
use Rattle.rules.specs.Substitution.{Substitution}
use Rattle.rules.specs.Verdict.{passes, no_match}
use Rattle.rules.specs.WellFormed.{ValidRule, WellFormedRules}
use Rattle.rules.proofs.RefusalLaws.{each-rule-is-well-formed}
use Rattle.rules.proofs.VerdictTheorems.{zero-is-match, verdicts-are-small}
use Rattle.rewriting.specs.Pair.{is_lower}
use Rattle.rewriting.specs.Verdict.{too_large, not_lower, site_match, is_too_large, replaced, rewritten, verdict_of}
use Rattle.rewriting.specs.Run.{State, Step, keeping, step}
use Rattle.rewriting.specs.StepParts.{settled}
use Rattle.rewriting.specs.Theorems.{KeptIsLower, KeptSiteLowers, OtherSiteLeaves}
use Rattle.rewriting.proofs.ReplacementLaws.{replace-valid, replace-limited, replace-evaluate}
use Rattle.rewriting.proofs.PairLaws.{trim-pair}

-- ---- the verdict

module _ (c : Circuit) (rules : List ℕ) (site : Site) where
  pub verdict-unmatched : ((site_match c rules site).verdict ≡ passes → ⊥) → (site_match c rules site).verdict ≡ verdict_of c rules site
  unfolding verdict_of
  verdict-unmatched n = rw (ne_eqb (site_match c rules site).verdict passes n)

  module _ (m : (site_match c rules site).verdict ≡ passes) where
    pub verdict-large : is_too_large c (rule_of rules site.rule) ≡ true → too_large ≡ verdict_of c rules site
    unfolding verdict_of
    verdict-large l = rw (eq-eqb (site_match c rules site).verdict passes m, l)

    module _ (l : is_too_large c (rule_of rules site.rule) ≡ false) where
      pub verdict-not-lower : is_lower (pair_of (rewritten c rules site)) (pair_of c) ≡ false → not_lower ≡ verdict_of c rules site
      unfolding verdict_of
      verdict-not-lower h = rw (eq-eqb (site_match c rules site).verdict passes m, l, h)

      pub verdict-kept : is_lower (pair_of (rewritten c rules site)) (pair_of c) ≡ true → passes ≡ verdict_of c rules site
      unfolding verdict_of
      verdict-kept h = rw (eq-eqb (site_match c rules site).verdict passes m, l, h)

  -- a verdict that is kept passed every test
  pub verdict-zero : verdict_of c rules site ≡ passes
      → ((site_match c rules site).verdict ≡ passes) × (is_too_large c (rule_of rules site.rule) ≡ false)
      × (is_lower (pair_of (rewritten c rules site)) (pair_of c) ≡ true)
  unfolding verdict_of
  verdict-zero e = go (eqb (site_match c rules site).verdict passes) refl
    where
      tests : Bool → ℕ
      tests b =
          first (not b) (site_match c rules site).verdict
          (first (is_too_large c (rule_of rules site.rule)) too_large
          (first (not (is_lower (pair_of (rewritten c rules site)) (pair_of c))) not_lower
          passes))

      go : (b : Bool) → eqb (site_match c rules site).verdict passes ≡ b
          → ((site_match c rules site).verdict ≡ passes) × (is_too_large c (rule_of rules site.rule) ≡ false)
          × (is_lower (pair_of (rewritten c rules site)) (pair_of c) ≡ true)
      go true q =
          let x = passed (is_too_large c (rule_of rules site.rule)) 4 _ (ap tests (sym q) ∙ e) in
          let y = passed (not (is_lower (pair_of (rewritten c rules site)) (pair_of c))) 5 _ x.1 in
          (eqb-true _ _ q, x.0, not-false _ y.0)
      go false q =
          let z : (site_match c rules site).verdict ≡ passes = ap tests (sym q) ∙ e in
          absurd (true≢false (sym (eq-eqb _ _ z) ∙ q))

  -- limits of the verdicts: of the match, and in the end
  pub match-limit : (site_match c rules site).verdict ≤ no_match
  match-limit = (verdicts-are-small c rules site.rule site.gate site.mask).1

  pub verdict-limit : verdict_of c rules site ≤ not_lower
  unfolding verdict_of
  verdict-limit =
      first_either (λ v. v ≤ not_lower) (not (eqb (site_match c rules site).verdict passes)) (omega (arith, match-limit))
      (first_either (λ v. v ≤ not_lower) (is_too_large c (rule_of rules site.rule)) (omega arith)
      (first_either (λ v. v ≤ not_lower) (not (is_lower (pair_of (rewritten c rules site)) (pair_of c))) (omega arith) (omega arith)))

pub kept-is-lower : KeptIsLower
kept-is-lower c rules site = (verdict-zero c rules site, λ x. sym (verdict-kept c rules site x.0 x.1 x.2))

-- ---- replacement at a site that matches

module _ (c : Circuit) (ok : Valid c) (rules : List ℕ) (w : WellFormedRules rules) (site : Site) (m : (site_match c rules site).verdict ≡ passes) where
  -- the rule is sound, and the bindings are a substitution
  pub matched : ValidRule (rule_of rules site.rule) × (is_sound (rule_of rules site.rule) ≡ true)
      × Substitution c (rule_of rules site.rule) site.gate site.mask (site_match c rules site).bindings
  matched =
      let (has, sound, gate, within, sub) = zero-is-match c ok.ordered rules w site.rule site.gate site.mask m in
      ((each-rule-is-well-formed rules w site.rule has).1, sound, sub)

  pub replaced-valid : Valid (replaced c rules site)
  replaced-valid = replace-valid c ok (rule_of rules site.rule) matched.0 site.gate site.mask _ matched.2

  pub replaced-limited : Limited c → is_too_large c (rule_of rules site.rule) ≡ false → Limited (replaced c rules site)
  replaced-limited l h =
      replace-limited c ok (rule_of rules site.rule) matched.0 site.gate site.mask _ matched.2 l (ltb-false _ _ h)

  pub replaced-evaluate : (bytes : List ℕ) → length bytes ≡ c.inputs → evaluate (replaced c rules site) bytes ≡ evaluate c bytes
  replaced-evaluate =
      replace-evaluate c ok (rule_of rules site.rule) matched.0 site.gate site.mask _ matched.2 matched.1

  pub replaced-pair : pair_of (rewritten c rules site) ≡ pair_of (replaced c rules site)
  replaced-pair = trim-pair (replaced c rules site) replaced-valid

-- ---- the step

-- what a site leaves, and its verdict
abbrev pub leaves : State → ℕ → Step
leaves s v = record { next = s; verdict = v }

module _ (rules : List ℕ) (s : State) (site : Site) where
  step_kept : passes ≡ verdict_of s.circuit rules site → leaves (keeping rules s site) passes ≡ step rules s site
  unfolding step
  step_kept e = rw (← e)

  step_left : (v : ℕ) → v ≡ verdict_of s.circuit rules site → (v ≡ passes → ⊥) → leaves s v ≡ step rules s site
  unfolding step
  step_left v e n = rw (← e, ne_eqb v passes n)

  -- by the tests that a step makes, the pair being measured before the trim
  pub step-unmatched : ((site_match s.circuit rules site).verdict ≡ passes → ⊥) → leaves s (site_match s.circuit rules site).verdict ≡ step rules s site
  step-unmatched n = step_left _ (verdict-unmatched s.circuit rules site n) n

  module _ (m : (site_match s.circuit rules site).verdict ≡ passes) where
    pub step-large : is_too_large s.circuit (rule_of rules site.rule) ≡ true → leaves s too_large ≡ step rules s site
    step-large l = step_left too_large (verdict-large s.circuit rules site m l) (λ e. omega arith)

    module _ (l : is_too_large s.circuit (rule_of rules site.rule) ≡ false) (ok : Valid s.circuit) (w : WellFormedRules rules) where
      measured : (b : Bool) → is_lower (pair_of (replaced s.circuit rules site)) (pair_of s.circuit) ≡ b
          → is_lower (pair_of (rewritten s.circuit rules site)) (pair_of s.circuit) ≡ b
      measured b h = ap (λ p. is_lower p (pair_of s.circuit)) (replaced-pair s.circuit ok rules w site m) ∙ h

      pub step-not-lower : is_lower (pair_of (replaced s.circuit rules site)) (pair_of s.circuit) ≡ false → leaves s not_lower ≡ step rules s site
      step-not-lower h = step_left not_lower (verdict-not-lower s.circuit rules site m l (measured false h)) (λ e. omega arith)

      pub step-lower : is_lower (pair_of (replaced s.circuit rules site)) (pair_of s.circuit) ≡ true
          → leaves (keeping rules s site) passes ≡ step rules s site
      step-lower h = step_kept (verdict-kept s.circuit rules site m l (measured true h))

      -- the circuit after replacement decides
      pub step_after : settled s (replaced s.circuit rules site) ≡ step rules s site
      step_after = go (is_lower (pair_of (replaced s.circuit rules site)) (pair_of s.circuit)) refl
        where
          go : (b : Bool) → is_lower (pair_of (replaced s.circuit rules site)) (pair_of s.circuit) ≡ b
              → first b (leaves (keeping rules s site) passes) (leaves s not_lower) ≡ step rules s site
          go true h = step-lower h
          go false h = step-not-lower h

pub kept-site-lowers : KeptSiteLowers
unfolding step
kept-site-lowers rules s site e =
    let q = step_kept rules s site (sym e) in
    let n : keeping rules s site ≡ (step rules s site).next = ap (λ (x : Step). x.next) q in
    (sym n, ap (λ (x : State). is_lower (pair_of x.circuit) (pair_of s.circuit)) (sym n) ∙ (verdict-zero s.circuit rules site e).2)

pub other-site-leaves : OtherSiteLeaves
unfolding step
other-site-leaves rules s site n = ap (λ (x : Step). x.next) (sym (step_left rules s site _ refl n))
