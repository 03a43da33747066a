-- The theorems on verdicts, and on the gates that a match binds. Assumes nothing.
use mathlib.Core.Path.{◌≡◌, refl, sym, ap, ◌∙◌}
use mathlib.Core.Bool.{Bool, true, false, not}
use mathlib.Core.List.{List}
use mathlib.Core.Option.{Option, none, some}
use Prim.Native.Nat.{ℕ, suc, ◌+◌, ◌/◌, ◌^◌, ◌≤◌}
use native.Mathlib.Omega.{arith}
use lib.Dec.{eqb}
use lib.ListN.{length}
use borrow.Author.Tests.{eqb-true, not-false}
use Rattle.lists.specs.First.{first}
use Rattle.lists.proofs.First.{first_either}
use Rattle.circuit.specs.Circuit.{Circuit, first_gate}
use Rattle.circuit.specs.Table.{decode}
use Rattle.circuit.specs.Path.{is_gate}
use Rattle.circuit.specs.ReverseDepth.{is_live}
use Rattle.circuit.specs.Trim.{trim}
use Rattle.circuit.proofs.GateLaws.{at-gate}
use Rattle.circuit.proofs.ValidLaws.{valid-decode}
use Rattle.circuit.proofs.TrimLaws.{trim-live}
use Rattle.rules.specs.Rule.{Rule}
use Rattle.rules.specs.RuleTable.{rule_of}
use Rattle.rules.specs.Soundness.{is_sound}
use Rattle.rules.specs.Match.{bound_to, match_rule}
use Rattle.rules.specs.Verdict.{SiteMatch, passes, not_sound, no_match, has_rule, judgement, failing, verdict_by, match_at, match_site}
use Rattle.rules.specs.Theorems.{BoundGatesAreLive, ZeroIsMatch, MatchIsZero, VerdictsAreSmall}
use Rattle.rules.proofs.RefusalLaws.{each-rule-is-well-formed}
use Rattle.rules.proofs.SubstitutionLaws.{match-gives-substitution}
use Rattle.rules.proofs.FindingLaws.{substitution-is-found}
use Rattle.rules.proofs.VerdictLaws.{at_small, mask-within, site-at}

pub bound-gates-are-live : BoundGatesAreLive
bound-gates-are-live t w u gate mask b s i h =
    let c = trim (decode t) in
    at-gate c (bound_to b (first_gate u.holes + i)) (s.gates-bound i h).is-gate (λ m g. is_live c m ≡ true) (trim-live (decode t) (valid-decode t w))

-- ---- what a verdict 0 says

-- a chain of verdicts that gives 0: its first test doesn't apply
passed : (b : Bool) (n : ℕ) (m : SiteMatch) → (first b (failing (suc n)) m).verdict ≡ passes → (b ≡ false) × (first b (failing (suc n)) m ≡ m)
passed true n m e = let z : ⊥ = omega arith in absurd z
passed false n m e = (refl, refl)

-- what was found
found-zero : (o : Option (List ℕ)) → (verdict_by o).verdict ≡ passes → o ≡ some (verdict_by o).bindings
found-zero none e = let z : ⊥ = omega arith in absurd z
found-zero (some b) e = refl

module _ (c : Circuit) (u : Rule) (gate mask : ℕ) where
  at_zero : (match_at c u gate mask).verdict ≡ passes → (mask / 2 ^ length u.lefts ≡ 0) × (match_rule c u gate mask ≡ some (match_at c u gate mask).bindings)
  unfolding match_at
  at_zero e =
      let p = passed (not (eqb (mask / 2 ^ length u.lefts) 0)) 3 (verdict_by (match_rule c u gate mask)) e in (
        eqb-true _ _ (not-false _ p.0),
        found-zero (match_rule c u gate mask) (ap (λ (m : SiteMatch). m.verdict) (sym p.1) ∙ e) ∙ ap (λ (m : SiteMatch). some m.bindings) (sym p.1),
      )

module _ (c : Circuit) (t : List ℕ) (rule gate mask : ℕ) where
  pub site-zero : (match_site c t rule gate mask).verdict ≡ passes
      → (has_rule t rule ≡ true) × (is_sound (rule_of t rule) ≡ true) × (is_gate c gate ≡ true) × (match_site c t rule gate mask ≡ match_at c (rule_of t rule) gate mask)
  unfolding match_site
  site-zero e =
      let p = passed (not (has_rule t rule)) 0 _ e in
      let e1 = ap (λ (m : SiteMatch). m.verdict) (sym p.1) ∙ e in
      let q = passed (not (is_sound (rule_of t rule))) 1 _ e1 in
      let e2 = ap (λ (m : SiteMatch). m.verdict) (sym q.1) ∙ e1 in
      let r = passed (not (is_gate c gate)) 2 _ e2 in
      (not-false _ p.0, not-false _ q.0, not-false _ r.0, p.1 ∙ q.1 ∙ r.1)

pub zero-is-match : ZeroIsMatch
zero-is-match c ok t w rule gate mask e =
    let (h, s, g, m) = site-zero c t rule gate mask e in
    let u = rule_of t rule in
    let (within, found) = at_zero c u gate mask (ap (λ (m : SiteMatch). m.verdict) (sym m) ∙ e) in
    let bound = found ∙ ap (λ (m : SiteMatch). some m.bindings) (sym m) in
    (h, s, g, within, match-gives-substitution c ok u (each-rule-is-well-formed t w rule h).1 gate mask (match_site c t rule gate mask).bindings bound)

pub match-is-zero : MatchIsZero
match-is-zero c t w rule gate mask b h s g within sub =
    let u = rule_of t rule in
    let (b', e, same) = substitution-is-found c u (each-rule-is-well-formed t w rule h).1 gate mask b sub in
    ap (λ (m : SiteMatch). m.verdict) (sym (site-at c t rule gate mask h s g) ∙ sym (mask-within c u gate mask within) ∙ ap verdict_by e)

-- ---- bounds

pub verdicts-are-small : VerdictsAreSmall
unfolding judgement match_site
verdicts-are-small c t rule gate mask = (
  first_either (λ v. v ≤ not_sound) (not (has_rule t rule)) (omega arith) (first_either (λ v. v ≤ not_sound) (not (is_sound (rule_of t rule))) (omega arith) (omega arith)),
  first_either small (not (has_rule t rule)) (omega arith)
      (first_either small (not (is_sound (rule_of t rule))) (omega arith)
      (first_either small (not (is_gate c gate)) (omega arith) (at_small c (rule_of t rule) gate mask))),
)
  where
    small : SiteMatch → Type 0
    small m = m.verdict ≤ no_match
