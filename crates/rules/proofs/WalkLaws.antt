-- The walk through a rules table: its steps, where each rule begins, and what is known of every rule after 0. Assumes nothing.
use mathlib.Core.Path.{◌≡◌, refl, sym, ap, ◌∙◌}
use mathlib.Core.Bool.{Bool, true, false, not, ◌&&◌, and-true, and_assoc}
use mathlib.Core.List.{List}
use Prim.Native.Nat.{ℕ, zero, suc, ◌+◌, ◌-◌, ◌≤◌, ◌<◌}
use native.Mathlib.Nat.{not-suc-le-zero, le_of_suc-le-suc}
use native.Mathlib.Numerals.{add-one}
use native.Mathlib.Omega.{arith}
use lib.Dec.{eqb, leb, ltb}
use lib.ListN.{length, get_or}
use borrow.Author.Tests.{eqb-true, leb-true, ltb-false, not-false, eq-eqb, ne_eqb, le-leb, le-ltb, lt-ltb}
use Rattle.lists.proofs.First.{first-true, first-false}
use Rattle.lists.proofs.Tests.{both, left-of, right_of}
use Rattle.circuit.proofs.RefusalLaws.{passed}
use Rattle.rules.specs.Rule.{max_rules, max_holes, max_lefts, max_rights}
use Rattle.rules.specs.RuleTable.{rule_count, rules_from, holes_at, lefts_at, rights_at, next_rule, place_from}
use Rattle.rules.specs.RuleRefusal.{rules_head_in_limits, rule_in_limits, walk, walk_from_top, all_rules}
use Rattle.rules.specs.WellFormed.{RuleSized, RulesSized}
use Rattle.rules.specs.Verdict.{has_rule}

-- a rule's limits, as facts of its head line
pub record Limited (t : List ℕ) (p : ℕ) : Type 0 where
  pub holes-limit : holes_at t p ≤ max_holes
  pub lefts-some : 1 ≤ lefts_at t p
  pub lefts-limit : lefts_at t p ≤ max_lefts
  pub rights-limit : rights_at t p ≤ max_rights

one_less : (n : ℕ) → suc n - 1 ≡ n
one_less n = omega arith

module _ (t : List ℕ) where
  pub limited-of : (p : ℕ) → rule_in_limits t p ≡ true → Limited t p
  limited-of p h =
      let a = leb (holes_at t p) max_holes in
      let b = leb 1 (lefts_at t p) in
      let c = leb (lefts_at t p) max_lefts in
      let d = leb (rights_at t p) max_rights in
      let h1 = right_of a (b && (c && d)) h in
      let h2 = right_of b (c && d) h1 in
      record {
        holes-limit = leb-true _ _ (left-of a (b && (c && d)) h);
        lefts-some = leb-true _ _ (left-of b (c && d) h1);
        lefts-limit = leb-true _ _ (left-of c d h2);
        rights-limit = leb-true _ _ (right_of c d h2);
      }

  pub sized_of : (p : ℕ) → rule_in_limits t p ≡ true → next_rule t p ≤ length t → RuleSized t p
  sized_of p h long =
      let l = limited-of p h in
      record {
        holes-limit = l.holes-limit;
        lefts-some = l.lefts-some;
        lefts-limit = l.lefts-limit;
        rights-limit = l.rights-limit;
        long = long;
      }

  -- ---- a loop that walks, with n rules left and the first at p

  pub walk-short : (n p : ℕ) → 0 < n → length t < p + 3 → walk t n p ≡ 5
  unfolding walk
  walk-short zero p h s = absurd (not-suc-le-zero h)
  walk-short (suc n) p h s = first-true _ _ (lt-ltb _ _ s)

  pub walk-limits : (n p : ℕ) → 0 < n → p + 3 ≤ length t → rule_in_limits t p ≡ false → walk t n p ≡ 4
  unfolding walk
  walk-limits zero p h s k = absurd (not-suc-le-zero h)
  walk-limits (suc n) p h s k = first-false _ _ (le-ltb _ _ s) ∙ first-true _ _ (ap not k)

  pub walk-long : (n p : ℕ) → 0 < n → p + 3 ≤ length t → rule_in_limits t p ≡ true → length t < next_rule t p → walk t n p ≡ 5
  unfolding walk
  walk-long zero p h s k l = absurd (not-suc-le-zero h)
  walk-long (suc n) p h s k l = first-false _ _ (le-ltb _ _ s) ∙ first-false _ _ (ap not k) ∙ first-true _ _ (lt-ltb _ _ l)

  pub walk-pass : (n p : ℕ) → 0 < n → p + 3 ≤ length t → rule_in_limits t p ≡ true → next_rule t p ≤ length t → walk t (n - 1) (next_rule t p) ≡ walk t n p
  unfolding walk
  walk-pass zero p h s k l = absurd (not-suc-le-zero h)
  walk-pass (suc n) p h s k l =
      ap (λ i. walk t i (next_rule t p)) (one_less n) ∙ sym (first-false _ _ (le-ltb _ _ s) ∙ first-false _ _ (ap not k) ∙ first-false _ _ (le-ltb _ _ l))

  pub walk-all : (n p : ℕ) → n ≡ 0 → p ≡ length t → walk t n p ≡ 0
  unfolding walk
  walk-all n p h e = rw h (first-false _ _ (ap not (eq-eqb p (length t) e)))

  pub walk-over : (n p : ℕ) → n ≡ 0 → (p ≡ length t → ⊥) → walk t n p ≡ 5
  unfolding walk
  walk-over n p h e = rw h (first-true _ _ (ap not (ne_eqb p (length t) e)))

  -- ---- what is known where it finds nothing: of the rule here, and of the rest

  pub walk_here : (n p : ℕ) → 0 < n → walk t n p ≡ 0 → RuleSized t p × (walk t (n - 1) (next_rule t p) ≡ 0)
  unfolding walk
  walk_here zero p h w = absurd (not-suc-le-zero h)
  walk_here (suc n) p h w =
      let a = passed (ltb (length t) (p + 3)) 4 _ w in
      let b = passed (not (rule_in_limits t p)) 3 _ a.1 in
      let c = passed (ltb (length t) (next_rule t p)) 4 _ b.1 in
      (sized_of p (not-false (rule_in_limits t p) b.0) (ltb-false (length t) (next_rule t p) c.0), ap (λ i. walk t i (next_rule t p)) (one_less n) ∙ c.1)

  -- ---- places

  pub place_none : (p : ℕ) → place_from t p 0 ≡ p
  unfolding place_from
  place_none p = refl

  pub place-more : (p k : ℕ) → place_from t p (k + 1) ≡ next_rule t (place_from t p k)
  unfolding place_from
  place-more p k = ap (place_from t p) (add-one k)

  -- a rule further on, seen from the second
  pub place-front : (p k : ℕ) → place_from t p (suc k) ≡ place_from t (next_rule t p) k
  unfolding place_from
  place-front p zero = refl
  place-front p (suc k) = ap (next_rule t) (place-front p k)

  -- the walk finds nothing from any rule on
  pub walk_from : (n p k : ℕ) → k ≤ n → walk t n p ≡ 0 → walk t (n - k) (place_from t p k) ≡ 0
  unfolding place_from
  walk_from n p zero h w = let e : n - 0 ≡ n = omega arith in rw e w
  walk_from n p (suc k) h w =
      let e : n - suc k ≡ n - k - 1 = omega arith in
      rw e (walk_here (n - k) (place_from t p k) (omega arith) (walk_from n p k (omega arith) w)).1

  pub walk_at : (n p k : ℕ) → k < n → walk t n p ≡ 0 → RuleSized t (place_from t p k)
  walk_at n p k h w = (walk_here (n - k) (place_from t p k) (omega arith) (walk_from n p k (omega arith) w)).0

  -- the last rule ends the table
  pub walk_end : (n p : ℕ) → walk t n p ≡ 0 → place_from t p n ≡ length t
  unfolding walk
  walk_end n p w =
      let e : n - n ≡ 0 = omega arith in
      let z : walk t 0 (place_from t p n) ≡ 0 = rw e at (walk_from n p n (omega arith) w) in
      eqb-true _ _ (not-false _ (passed (not (eqb (place_from t p n) (length t))) 4 0 z).0)

  -- ---- from the top

  pub walk-head : rules_head_in_limits t ≡ false → walk_from_top t ≡ 4
  unfolding walk_from_top
  walk-head h = first-true _ _ (ap not h)

  pub walk_top : rules_head_in_limits t ≡ true → walk t (rule_count t) (rules_from t) ≡ walk_from_top t
  unfolding walk_from_top
  walk_top h = sym (first-false _ _ (ap not h))

  pub rules-sized-of : 3 ≤ length t → walk_from_top t ≡ 0 → RulesSized t
  unfolding walk_from_top
  rules-sized-of l h =
      let a = passed (not (rules_head_in_limits t)) 3 _ h in
      let b = not-false (rules_head_in_limits t) a.0 in
      let c = leb (rule_count t) max_rules in
      let d = eqb (get_or t 1 0) 0 in
      let e = eqb (get_or t 2 0) 0 in
      record {
        head-there = l;
        count-limit = leb-true _ _ (left-of c (d && e) b);
        second-zero = eqb-true _ _ (left-of d e (right_of c (d && e) b));
        third-zero = eqb-true _ _ (right_of d e (right_of c (d && e) b));
        walked = a.1;
      }

  pub walk-sized : RulesSized t → walk_from_top t ≡ 0
  unfolding walk_from_top
  walk-sized s =
      let h : rules_head_in_limits t ≡ true =
      both {a = leb (rule_count t) max_rules} (le-leb _ _ s.count-limit) (both {a = eqb (get_or t 1 0) 0} (eq-eqb _ _ s.second-zero) (eq-eqb _ _ s.third-zero)) in
      first-false _ _ (ap not h) ∙ s.walked

  -- ---- the rule of a number

  pub rule-from : (rule : ℕ) → has_rule t rule ≡ true → 1 ≤ rule
  rule-from rule h = leb-true 1 rule (left-of (leb 1 rule) (leb rule (rule_count t)) h)

  pub rule-to : (rule : ℕ) → has_rule t rule ≡ true → rule ≤ rule_count t
  rule-to rule h = leb-true rule (rule_count t) (right_of (leb 1 rule) (leb rule (rule_count t)) h)

  pub has-rule : (rule : ℕ) → 1 ≤ rule → rule ≤ rule_count t → has_rule t rule ≡ true
  has-rule rule h k = both {a = leb 1 rule} (le-leb 1 rule h) (le-leb rule (rule_count t) k)

-- A loop that tests all rules, with n rules left and the first at p, where `so_far` is how those before it have fared; and a test that all
-- pass, at one of them.
module _ (test : ℕ → Bool) (t : List ℕ) where
  pub rules-more : (so_far : Bool) (n p : ℕ) → 0 < n → so_far && test p && all_rules test t (n - 1) (next_rule t p) ≡ so_far && all_rules test t n p
  unfolding all_rules
  rules-more b zero p h = absurd (not-suc-le-zero h)
  rules-more b (suc n) p h = ap (λ i. b && test p && all_rules test t i (next_rule t p)) (one_less n) ∙ and_assoc b (test p) (all_rules test t n (next_rule t p))

  pub rules-none : (so_far : Bool) (n p : ℕ) → n ≡ 0 → so_far && all_rules test t n p ≡ so_far
  unfolding all_rules
  rules-none b n p e = rw e (and-true b)

  pub rules-at : (n p k : ℕ) → k < n → all_rules test t n p ≡ true → test (place_from t p k) ≡ true
  unfolding all_rules place_from
  rules-at zero p k h e = absurd (not-suc-le-zero h)
  rules-at (suc n) p zero h e = left-of (test p) (all_rules test t n (next_rule t p)) e
  rules-at (suc n) p (suc k) h e =
      ap test (place-front t p k) ∙ rules-at n (next_rule t p) k (le_of_suc-le-suc h) (right_of (test p) (all_rules test t n (next_rule t p)) e)
