-- What the judge finds of a number, the rule or a verdict: what this leads to, and how it is kept by rule number. Assumes nothing.
use mathlib.Core.Path.{◌≡◌, refl, sym, ap, ap₂, ◌∙◌}
use mathlib.Core.Bool.{Bool, true, false, not}
use mathlib.Core.List.{List}
use Prim.Native.Nat.{ℕ, zero, suc, ◌+◌, ◌≤◌, ◌<◌}
use native.Mathlib.Omega.{arith}
use lib.Dec.{eqb}
use lib.ListN.{length, get_or, set, replicate, length-set, length-replicate}
use lib.Seq.{get_or-set_same, get_or-set_other}
use borrow.Author.Tests.{ne_eqb, eqb-true, eqb-false}
use Rattle.std.specs.Prelude.{Result, Ok, Err, IfOk, IfErr, Option, Some, None}
use Rattle.lists.specs.First.{first}
use Rattle.lists.proofs.First.{first-true}
use Rattle.circuit.specs.Circuit.{Circuit}
use Rattle.circuit.specs.Path.{is_gate}
use Rattle.rules.specs.declared.Verdict.{Verdict}
use Rattle.rules.specs.declared.Verdict.TheVariants.{NoRule, NotSound}
use Rattle.rules.specs.Rule.{Rule, max_rules}
use Rattle.rules.specs.RuleTable.{rule_at, place_of, rule_of}
use Rattle.rules.specs.Soundness.{is_sound}
use Rattle.rules.specs.Verdict.{SiteMatch, passes, no_rule, not_sound, not_a_gate, has_rule, judgement, early_verdict, failing, verdict_number, number_of, match_at, match_site, match_judged}
use Rattle.rules.specs.Remembered.{said, said_or, judged_rule, Placed, Remembered}
use Rattle.rules.specs.declared.rule.Rule.{Rule as TableRule}
use Rattle.rules.specs.WellFormed.{WellFormedRules}
use Rattle.rules.proofs.WalkLaws.{rule-to}
use Rattle.rules.proofs.VerdictLaws.{verdict_some}

module _ (t : List ℕ) (rule : ℕ) where
  pub judged-missing : has_rule t rule ≡ false → Err NoRule ≡ judged_rule t rule
  unfolding judged_rule
  judged-missing h = rw h

  -- p is where the rule begins
  module _ (h : has_rule t rule ≡ true) (p : ℕ) (e : p ≡ place_of t rule) where
    pub judged-unsound : is_sound (rule_at t p) ≡ false → Err NotSound ≡ judged_rule t rule
    unfolding judged_rule
    judged-unsound s = rw (h, ← e, s)

    pub judged-sound : is_sound (rule_at t p) ≡ true → Ok (rule_at t p) ≡ judged_rule t rule
    unfolding judged_rule
    judged-sound s = rw (h, ← e, s)

  -- u is the rule of that number
  module _ (h : has_rule t rule ≡ true) (u : TableRule) (p : Placed t rule u) where
    placed-said : said u ≡ rule_of t rule
    placed-said = ap₂ rule_at p.table p.from

    pub placed-unsound : is_sound (said u) ≡ false → Err NotSound ≡ judged_rule t rule
    placed-unsound s = judged-unsound h (place_of t rule) refl (ap is_sound (sym placed-said) ∙ s)

    pub placed-sound : is_sound (said u) ≡ true → Ok (said u) ≡ judged_rule t rule
    placed-sound s = ap Ok placed-said ∙ judged-sound h (place_of t rule) refl (ap is_sound (sym placed-said) ∙ s)

  -- a number that no table has
  pub judged-beyond : WellFormedRules t → max_rules < rule → Err NoRule ≡ judged_rule t rule
  judged-beyond w h = judged-missing (go (has_rule t rule) refl)
    where
      go : (b : Bool) → has_rule t rule ≡ b → has_rule t rule ≡ false
      go true e = let no_way : ⊥ = omega (arith, rule-to t rule e, w.sized.count-limit) in absurd no_way
      go false e = e

  pub judged-number : number_of (judged_rule t rule) ≡ judgement t rule
  unfolding judged_rule judgement
  judged-number = go (has_rule t rule) (is_sound (rule_of t rule))
    where
      go : (h s : Bool)
          → number_of (first (not h) (Err NoRule) (first (not s) (Err NotSound) (Ok (rule_of t rule))))
          ≡ first (not h) no_rule (first (not s) not_sound passes)
      go true true = refl
      go true false = refl
      go false s = refl

  -- the judge has passed the rule, which is u
  module _ (u : Rule) (e : Ok u ≡ judged_rule t rule) where
    pub judged-facts : (has_rule t rule ≡ true) × (is_sound (rule_of t rule) ≡ true) × (u ≡ rule_of t rule)
    unfolding judged_rule
    judged-facts = go (has_rule t rule) (is_sound (rule_of t rule)) e
      where
        go : (h s : Bool) → Ok u ≡ first (not h) (Err NoRule) (first (not s) (Err NotSound) (Ok (rule_of t rule)))
            → (h ≡ true) × (s ≡ true) × (u ≡ rule_of t rule)
        go true true q = (refl, refl, cc)
        go true false q = cc
        go false s q = cc

    pub judged-site : (c : Circuit) (gate mask : ℕ) → match_judged c u passes gate mask ≡ match_site c t rule gate mask
    unfolding match_site
    judged-site c gate mask = rw (judged-facts.2, judged-facts.0, judged-facts.1)

  -- the judge's verdict on the rule is v
  module _ (v : Verdict) (e : Err v ≡ judged_rule t rule) where
    pub judged-verdict : verdict_number v ≡ judgement t rule
    judged-verdict = ap number_of e ∙ judged-number

    pub refused-site : (c : Circuit) (gate mask : ℕ) → failing (verdict_number v) ≡ match_site c t rule gate mask
    unfolding judged_rule match_site
    refused-site c gate mask = go (has_rule t rule) (is_sound (rule_of t rule)) e
      where
        go : (h s : Bool) → Err v ≡ first (not h) (Err NoRule) (first (not s) (Err NotSound) (Ok (rule_of t rule)))
            → failing (verdict_number v)
            ≡ first (not h) (failing no_rule)
            (first (not s) (failing not_sound)
            (first (not (is_gate c gate)) (failing not_a_gate)
            (match_at c (rule_of t rule) gate mask)))
        go true true q = cc
        go true false q = let k : v ≡ NotSound = cc in ap (λ x. failing (verdict_number x)) k
        go false s q = let k : v ≡ NoRule = cc in ap (λ x. failing (verdict_number x)) k

  -- j is what the judge found, and m what the match says of it
  pub matched-site : (j : Result TableRule Verdict) → said_or j ≡ judged_rule t rule → (c : Circuit) (gate mask : ℕ) (m : SiteMatch)
      → IfOk j (λ r. m ≡ match_judged c (said r) passes gate mask)
      → IfErr j (λ v. (u : Rule) → m ≡ match_judged c u (verdict_number v) gate mask)
      → m ≡ match_site c t rule gate mask
  matched-site (Ok r) e c gate mask m p q = p ∙ judged-site (said r) e c gate mask
  matched-site (Err v) e c gate mask m p q =
      q (rule_of t rule)
      ∙ first-true (failing (verdict_number v)) _ (ap not (ne_eqb (verdict_number v) passes (verdict_some v)))
      ∙ refused-site v e c gate mask

-- a rule, and what is said of it, pass alike
pub said-number : (r : Result TableRule Verdict) → number_of r ≡ number_of (said_or r)
said-number (Ok u) = refl
said-number (Err v) = refl

-- the verdicts before the match, of the rule of a number
module _ (c : Circuit) (t : List ℕ) (rule gate : ℕ) where
  abbrev early : ℕ
  early = early_verdict c (judgement t rule) gate

  pub early-limit : early ≤ not_a_gate
  unfolding judgement
  early-limit = go (has_rule t rule) (is_sound (rule_of t rule)) (is_gate c gate)
    where
      go : (h s g : Bool) → (let j = first (not h) no_rule (first (not s) not_sound passes) in first (eqb j passes) (first (not g) not_a_gate passes) j ≤ not_a_gate)
      go true true true = omega arith
      go true true false = omega arith
      go true false g = omega arith
      go false s g = omega arith

  pub early-none : early ≡ passes → (has_rule t rule ≡ true) × (is_sound (rule_of t rule) ≡ true) × (is_gate c gate ≡ true)
  unfolding judgement
  early-none = go (has_rule t rule) (is_sound (rule_of t rule)) (is_gate c gate)
    where
      go : (h s g : Bool) → (let j = first (not h) no_rule (first (not s) not_sound passes) in first (eqb j passes) (first (not g) not_a_gate passes) j ≡ passes)
          → (h ≡ true) × (s ≡ true) × (g ≡ true)
      go true true true e = (refl, refl, refl)
      go true true false e = let no_way : ⊥ = omega arith in absurd no_way
      go true false g e = let no_way : ⊥ = omega arith in absurd no_way
      go false s g e = let no_way : ⊥ = omega arith in absurd no_way

  -- a site gets the one that applies, whatever its mask
  pub early-site : (mask : ℕ) → (early ≡ passes → ⊥) → (match_site c t rule gate mask).verdict ≡ early
  unfolding judgement match_site
  early-site mask = go (has_rule t rule) (is_sound (rule_of t rule)) (is_gate c gate)
    where
      go : (h s g : Bool)
          → (let j = first (not h) no_rule (first (not s) not_sound passes) in
          (first (eqb j passes) (first (not g) not_a_gate passes) j ≡ passes → ⊥)
          → (first (not h) (failing no_rule) (first (not s) (failing not_sound) (first (not g) (failing not_a_gate) (match_at c (rule_of t rule) gate mask)))).verdict
          ≡ first (eqb j passes) (first (not g) not_a_gate passes) j)
      go true true true n = absurd (n refl)
      go true true false n = refl
      go true false g n = refl
      go false s g n = refl

-- ---- kept by rule number

abbrev no_entry : Option (Result TableRule Verdict)
no_entry = None

none_at : (n r : ℕ) → get_or (replicate n no_entry) r None ≡ no_entry
none_at zero r = refl
none_at (suc n) zero = refl
none_at (suc n) (suc r) = none_at n r

module _ (known : List (Option (Result TableRule Verdict))) (long : length known ≡ max_rules + 1) (rule : ℕ) (h : rule ≤ max_rules) where
  -- what holds of each that is kept, and of j, holds of each when j is kept too
  pub kept-more : (P : Result TableRule Verdict → ℕ → Type 0) (j : Result TableRule Verdict) → P j rule
      → ((r : ℕ) (k : Result TableRule Verdict) → get_or known r None ≡ Some k → P k r)
      → (r : ℕ) (k : Result TableRule Verdict) → get_or (set known rule (Some j)) r None ≡ Some k → P k r
  kept-more P j new old r k n = go (eqb r rule) refl
    where
      go : (b : Bool) → eqb r rule ≡ b → P k r
      go true q =
          let same = get_or-set_same known rule (Some j) None (omega (arith, long)) in
          let z : Some j ≡ Some k = sym same ∙ (rw (eqb-true r rule q) at n) in
          let y : k ≡ j = cc in
          rw (eqb-true r rule q, y) new
      go false q = old r k (sym (get_or-set_other known rule r (Some j) None (eqb-false r rule q)) ∙ n)

module _ (t : List ℕ) where
  pub remembered-none : (known : List (Option (Result TableRule Verdict))) → known ≡ replicate (max_rules + 1) None → Remembered t known
  remembered-none known e =
      record {
        long = ap length e ∙ length-replicate (max_rules + 1) no_entry;
        right = λ r j h. absurd (empty r j h);
        placed = λ r j h. absurd (empty r j h);
      }
    where
      empty : (r : ℕ) (j : Result TableRule Verdict) → get_or known r None ≡ Some j → ⊥
      empty r j h = let z : no_entry ≡ Some j = sym (none_at (max_rules + 1) r) ∙ sym (ap (λ k. get_or k r None) e) ∙ h in cc

  module _ (known : List (Option (Result TableRule Verdict))) (m : Remembered t known) (rule : ℕ) (h : rule ≤ max_rules) where
    pub remembered-more : (j : Result TableRule Verdict) → said_or j ≡ judged_rule t rule → IfOk j (Placed t rule) → Remembered t (set known rule (Some j))
    remembered-more j e p =
        record {
          long = length-set known rule (Some j) ∙ m.long;
          right = kept-more known m.long rule h (λ x r. said_or x ≡ judged_rule t r) j e m.right;
          placed = kept-more known m.long rule h (λ x r. IfOk x (Placed t r)) j p m.placed;
        }
