-- Verdicts by the tests that apply, what a reference is, and what a site's match says. Assumes nothing.
use mathlib.Core.Path.{◌≡◌, refl, sym, ap, ◌∙◌}
use mathlib.Core.Bool.{Bool, true, false, not}
use mathlib.Core.List.{List}
use mathlib.Core.Option.{Option, none, some}
use Prim.Native.Nat.{ℕ, ◌/◌, ◌^◌, ◌≤◌, ◌<◌}
use native.Mathlib.Decide.{dec_lt}
use native.Mathlib.Omega.{arith}
use lib.Dec.{eqb}
use lib.ListN.{length, drop}
use borrow.Author.Tests.{eq-eqb, ne_eqb, eqb-true, lt-ltb, le-ltb}
use Rattle.std.specs.Prelude.{◌+◌, Result, Ok, Err}
use denote.Enum.Declared.{tag_of}
use Rattle.std.specs.Result.{result_err}
use Rattle.lists.specs.First.{first}
use Rattle.lists.proofs.First.{first-true, first-false, first_either}
use Rattle.circuit.specs.Circuit.{Circuit, constants, first_gate, references}
use Rattle.circuit.specs.Path.{is_gate}
use Rattle.rules.specs.contracts.Verdict.{the_type}
use Rattle.rules.specs.declared.Verdict.{Verdict}
use Rattle.rules.specs.declared.Verdict.TheVariants.{NoRule, NotSound, NotAGate, NoMatch, TooLarge, NotLower}
use Rattle.rules.specs.declared.ReferenceKind.TheVariants.{Constant, Input, Gate, Beyond}
use Rattle.rules.specs.Rule.{Rule}
use Rattle.rules.specs.RuleTable.{lefts_at, left_from, rule_at, rule_of}
use Rattle.rules.specs.Soundness.{is_sound}
use Rattle.rules.specs.Match.{match_gates, start_bindings, match_rule, attempt}
use Rattle.rules.specs.Verdict.{SiteMatch, passes, not_a_gate, no_match, has_rule, kind_of, kind_verdict, early_verdict, verdict_number, applied_number, number_of, match_of, failing, verdict_by, match_at, match_site, match_judged}
use Rattle.rules.specs.Theorems.{KindAsksForGate}
use Rattle.circuit.proofs.TableLaws.{lines-length}
use Rattle.circuit.proofs.GateLaws.{is-gate, gate-low, gate-high}
use Rattle.rules.proofs.MatchLaws.{match-start}

-- ---- what a reference is

module _ (c : Circuit) (v : ℕ) where
  pub kind-constant : v < constants → Constant ≡ kind_of c v
  unfolding kind_of
  kind-constant h = rw (lt-ltb v 2 h)

  pub kind-input : 2 ≤ v → v < first_gate c.inputs → Input ≡ kind_of c v
  unfolding kind_of
  kind-input h k = rw (le-ltb v 2 h, lt-ltb v (first_gate c.inputs) k)

  pub kind-gate : first_gate c.inputs ≤ v → v < references c → Gate ≡ kind_of c v
  unfolding kind_of
  kind-gate h k = rw (le-ltb v 2 (omega arith), le-ltb v (first_gate c.inputs) h, lt-ltb v (references c) k)

  pub kind-beyond : references c ≤ v → Beyond ≡ kind_of c v
  unfolding kind_of
  kind-beyond h = rw (le-ltb v 2 (omega arith), le-ltb v (first_gate c.inputs) (omega arith), le-ltb v (references c) h)

  kind-verdict : kind_verdict (kind_of c v) ≡ first (not (is_gate c v)) not_a_gate passes
  kind-verdict =
      elim (dec_lt v (first_gate c.inputs)) [
        | yes h ↦ low h ∙ sym (first-true not_a_gate passes (ap not (gate-low c v h)))
        | no h ↦ elim (dec_lt v (references c)) [
          | yes k ↦ ap kind_verdict (sym (kind-gate (omega arith) k)) ∙ sym (first-false not_a_gate passes (ap not (is-gate c v (omega arith) k)))
          | no k ↦ ap kind_verdict (sym (kind-beyond (omega arith))) ∙ sym (first-true not_a_gate passes (ap not (gate-high c v (omega arith))))
        ]
      ]
    where
      low : v < first_gate c.inputs → kind_verdict (kind_of c v) ≡ not_a_gate
      low h =
          elim (dec_lt v 2) [
            | yes k ↦ ap kind_verdict (sym (kind-constant k))
            | no k ↦ ap kind_verdict (sym (kind-input (omega arith) h))
          ]

pub kind-asks-for-gate : KindAsksForGate
kind-asks-for-gate c v = kind-verdict c v

-- ---- the verdicts before the match

pub verdict_some : (v : Verdict) → verdict_number v ≡ passes → ⊥
verdict_some NoRule e = omega arith
verdict_some NotSound e = omega arith
verdict_some NotAGate e = omega arith
verdict_some NoMatch e = omega arith
verdict_some TooLarge e = omega arith
verdict_some NotLower e = omega arith

-- the discriminant, as the code casts it
pub discriminant-number : (v : Verdict) → tag_of the_type v + 1 ≡ verdict_number v
discriminant-number NoRule = refl
discriminant-number NotSound = refl
discriminant-number NotAGate = refl
discriminant-number NoMatch = refl
discriminant-number TooLarge = refl
discriminant-number NotLower = refl

-- what is handed on of a Result
pub err-number : {A : Type 0} (r : Result A Verdict) → applied_number (result_err r) ≡ number_of r
err-number (Ok a) = refl
err-number (Err v) = refl

pub err-verdict : (r : Result (List ℕ) Verdict) → applied_number (result_err r) ≡ (match_of r).verdict
err-verdict (Ok b) = refl
err-verdict (Err v) = refl

-- of a rule of which the judge said j
module _ (c : Circuit) (gate j : ℕ) where
  -- none of them applies
  module _ (e : passes ≡ early_verdict c j gate) where
    early-judge : j ≡ passes
    early-judge = go (eqb j passes) refl e
      where
        go : (b : Bool) → eqb j passes ≡ b → passes ≡ first b (first (not (is_gate c gate)) not_a_gate passes) j → j ≡ passes
        go true q h = eqb-true j passes q
        go false q h = sym h

    pub early-gate : is_gate c gate ≡ true
    early-gate = go (is_gate c gate) (rw early-judge at e)
      where
        go : (b : Bool) → passes ≡ first (not b) not_a_gate passes → b ≡ true
        go true h = refl
        go false h = let no_way : ⊥ = omega arith in absurd no_way

    pub early-passed : (u : Rule) (mask : ℕ) → match_at c u gate mask ≡ match_judged c u j gate mask
    early-passed u mask = rw (early-judge, early-gate)

  pub early-failing : (v : Verdict) → verdict_number v ≡ early_verdict c j gate → (u : Rule) (mask : ℕ)
      → failing (verdict_number v) ≡ match_judged c u j gate mask
  early-failing v e u mask = go (eqb j passes) refl (is_gate c gate) refl
    where
      go : (b : Bool) → eqb j passes ≡ b → (g : Bool) → is_gate c gate ≡ g → failing (verdict_number v) ≡ match_judged c u j gate mask
      go true h true k = absurd (verdict_some v (rw (h, k) at e))
      go true h false k = rw (h, k) (ap failing (rw (h, k) at e))
      go false h g k = rw h (ap failing (rw h at e))

-- ---- the match

module _ (c : Circuit) (u : Rule) (gate mask : ℕ) where
  beyond : (mask / 2 ^ length u.lefts ≡ 0 → ⊥) → failing no_match ≡ match_at c u gate mask
  unfolding match_at
  beyond h = rw (ne_eqb (mask / 2 ^ length u.lefts) 0 h)

  pub at_small : (match_at c u gate mask).verdict ≤ no_match
  unfolding match_at
  at_small = first_either (λ (m : SiteMatch). m.verdict ≤ no_match) (not (eqb (mask / 2 ^ length u.lefts) 0)) (omega arith) (go (match_rule c u gate mask))
    where
      go : (o : Option (List ℕ)) → (verdict_by o).verdict ≤ no_match
      go none = omega arith
      go (some b) = omega arith

  pub mask-within : mask / 2 ^ length u.lefts ≡ 0 → verdict_by (match_rule c u gate mask) ≡ match_at c u gate mask
  unfolding match_at
  mask-within h = rw (eq-eqb (mask / 2 ^ length u.lefts) 0 h)

-- of the rule at number p of a table: x and b are what the loop over its left gates left, from the bindings of the start on, which are d
module _ (c : Circuit) (t : List ℕ) (p gate mask : ℕ) where
  count : length (rule_at t p).lefts ≡ lefts_at t p
  count = lines-length (lefts_at t p) (drop (left_from t p) t)

  pub at-beyond : (mask / 2 ^ lefts_at t p ≡ 0 → ⊥) → failing no_match ≡ match_at c (rule_at t p) gate mask
  at-beyond h = beyond c (rule_at t p) gate mask (λ e. h (ap (λ k. mask / 2 ^ k) (sym count) ∙ e))

  module _ (d : List ℕ) (z : d ≡ start_bindings (rule_at t p) gate) (x : Bool) (b : List ℕ) (h : mask / 2 ^ lefts_at t p ≡ 0)
      (e : attempt x b ≡ match_gates c (rule_at t p) mask (lefts_at t p) d) where
    at-found : verdict_by (attempt x b) ≡ match_at c (rule_at t p) gate mask
    at-found =
        ap verdict_by (e ∙ ap (match_gates c (rule_at t p) mask (lefts_at t p)) z ∙ match-start c t p gate mask)
        ∙ mask-within c (rule_at t p) gate mask (ap (λ k. mask / 2 ^ k) count ∙ h)

    pub at_some : x ≡ true → record { verdict = passes; bindings = b } ≡ match_at c (rule_at t p) gate mask
    at_some q = ap (λ y. verdict_by (attempt y b)) (sym q) ∙ at-found

    pub at_none : x ≡ false → failing no_match ≡ match_at c (rule_at t p) gate mask
    at_none q = ap (λ y. verdict_by (attempt y b)) (sym q) ∙ at-found

module _ (c : Circuit) (t : List ℕ) (rule gate mask : ℕ) where
  pub site-at : has_rule t rule ≡ true → is_sound (rule_of t rule) ≡ true → is_gate c gate ≡ true → match_at c (rule_of t rule) gate mask ≡ match_site c t rule gate mask
  unfolding match_site
  site-at h k g = rw (h, k, g)
