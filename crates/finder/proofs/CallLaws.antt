-- The call `find_mask`, test by test. Assumes nothing.
use mathlib.Core.Path.{◌≡◌, refl, sym, ap, ap₂, ◌∙◌, subst}
use mathlib.Core.Bool.{Bool, true, false}
use mathlib.Core.List.{List, [], ◌∷◌}
use Prim.Native.Nat.{ℕ, ◌≤◌, ◌<◌}
use native.Mathlib.Omega.{arith}
use native.Mathlib.Decide.{dec_lt}
use lib.Dec.{eqb, leb}
use lib.ListN.{drop}
use borrow.Author.Tests.{eq-eqb, ne_eqb, eqb-true, eqb-false, lt-ltb, le-ltb, leb-true}
use Rattle.std.specs.Prelude.{Result, Ok, Err}
use Rattle.lists.proofs.Tests.{right_of}
use Rattle.lists.proofs.First.{first-false}
use Rattle.circuit.specs.Circuit.{Circuit}
use Rattle.circuit.proofs.TableLaws.{lines-length}
use Rattle.rules.specs.Match.{start_bindings, attempt}
use Rattle.rules.specs.Rule.{Rule}
use Rattle.rules.specs.RuleTable.{lefts_at, left_from, rule_at, rule_of}
use Rattle.rules.specs.declared.Verdict.{Verdict}
use Rattle.rules.specs.declared.rule.Rule.{Rule as TableRule}
use Rattle.rules.specs.Remembered.{said, said_or, judged_rule}
use Rattle.rules.specs.Verdict.{passes, judgement, early_verdict, verdict_number, number_of}
use Rattle.rules.proofs.VerdictLaws.{verdict_some}
use Rattle.rules.proofs.JudgedLaws.{judged-facts, judged-number, judged-verdict}
use Rattle.finder.specs.Search.{Searched, max_ways, whole_search, first_match, over_limit, within}
use Rattle.finder.specs.FindCall.{a_mask, no_mask, spent, searched_values, found_values, is_limit}
use Rattle.finder.proofs.LimitLaws.{within-limit, beyond-limit, found_after}

-- ---- the search from its start on, where d are the bindings then

pub from_start : (c : Circuit) (t : List ℕ) (p gate n : ℕ) (d : List ℕ) (s : Searched)
    → d ≡ start_bindings (rule_at t p) gate → s ≡ within n (found_after c (rule_at t p) (lefts_at t p) (attempt true d))
    → s ≡ within n (first_match (whole_search c (rule_at t p) gate))
from_start c t p gate n d s e f =
    f
    ∙ ap₂ (λ (k : ℕ) (b : List ℕ). within n (found_after c (rule_at t p) k (attempt true b))) (sym (lines-length (lefts_at t p) (drop (left_from t p) t))) e

-- ---- what is answered of it

module _ (n : ℕ) (s : Searched) where
  pub of-spent : n < s.ways → searched_values n s ≡ spent ∷ 0 ∷ n ∷ []
  unfolding searched_values
  of-spent l = rw (lt-ltb n s.ways l)

  pub of_mask : s.ways ≤ n → s.matched ≡ true → searched_values n s ≡ a_mask ∷ s.mask ∷ s.ways ∷ []
  unfolding searched_values
  of_mask l t = rw (le-ltb n s.ways l, t)

  pub of_none : s.ways ≤ n → s.matched ≡ false → searched_values n s ≡ no_mask ∷ 0 ∷ s.ways ∷ []
  unfolding searched_values
  of_none l t = rw (le-ltb n s.ways l, t)

-- the search may stop at the limit
of-within : (n : ℕ) (s : Searched) → searched_values n (within n s) ≡ searched_values n s
of-within n s =
    elim (dec_lt n s.ways) [
      | yes l ↦ ap (searched_values n) (beyond-limit n s l) ∙ of-spent n (over_limit n) (omega arith) ∙ sym (of-spent n s l)
      | no l ↦ ap (searched_values n) (within-limit n s (omega arith))
    ]

-- ---- the verdicts before it

module _ (c : Circuit) (t : List ℕ) (rule gate n : ℕ) where
  pub in-verdict : (early_verdict c (judgement t rule) gate ≡ passes → ⊥) → found_values c t rule gate n ≡ early_verdict c (judgement t rule) gate ∷ 0 ∷ 0 ∷ []
  unfolding found_values
  in-verdict h = rw (ne_eqb (early_verdict c (judgement t rule) gate) passes h)

  pub in-search : early_verdict c (judgement t rule) gate ≡ passes → found_values c t rule gate n ≡ searched_values n (first_match (whole_search c (rule_of t rule) gate))
  unfolding found_values
  in-search h = rw (eq-eqb (early_verdict c (judgement t rule) gate) passes h)

  pub in-found : (s : Searched) → early_verdict c (judgement t rule) gate ≡ passes → s ≡ within n (first_match (whole_search c (rule_of t rule) gate))
      → searched_values n s ≡ found_values c t rule gate n
  in-found s h e = ap (searched_values n) e ∙ of-within n (first_match (whole_search c (rule_of t rule) gate)) ∙ sym (in-search h)

  -- what holds of each answer holds of the one that is given
  pub found-either : (P : List ℕ → Type 0) → let s = first_match (whole_search c (rule_of t rule) gate) in
      ((early_verdict c (judgement t rule) gate ≡ passes → ⊥) → P (early_verdict c (judgement t rule) gate ∷ 0 ∷ 0 ∷ []))
      → (early_verdict c (judgement t rule) gate ≡ passes → n < s.ways → P (spent ∷ 0 ∷ n ∷ []))
      → (early_verdict c (judgement t rule) gate ≡ passes → s.ways ≤ n → s.matched ≡ true → P (a_mask ∷ s.mask ∷ s.ways ∷ []))
      → (early_verdict c (judgement t rule) gate ≡ passes → s.ways ≤ n → s.matched ≡ false → P (no_mask ∷ 0 ∷ s.ways ∷ []))
      → P (found_values c t rule gate n)
  found-either P verdict over mask none = go (eqb (early_verdict c (judgement t rule) gate) passes) refl
    where
      s : Searched
      s = first_match (whole_search c (rule_of t rule) gate)

      searched : (b : Bool) → s.matched ≡ b → s.ways ≤ n → early_verdict c (judgement t rule) gate ≡ passes → P (searched_values n s)
      searched true m l e = subst P (sym (of_mask n s l m)) (mask e l m)
      searched false m l e = subst P (sym (of_none n s l m)) (none e l m)

      go : (b : Bool) → eqb (early_verdict c (judgement t rule) gate) passes ≡ b → P (found_values c t rule gate n)
      go false e = let no = eqb-false (early_verdict c (judgement t rule) gate) passes e in subst P (sym (in-verdict no)) (verdict no)
      go true e =
          let z = eqb-true (early_verdict c (judgement t rule) gate) passes e in
          subst P (sym (in-search z))
          (elim (dec_lt n s.ways) [
            | yes l ↦ subst P (sym (of-spent n s l)) (over z l)
            | no l ↦ searched s.matched refl (omega arith) z
          ])

-- ---- what is found of a rule, by what the judge says

module _ (c : Circuit) (t : List ℕ) (rule gate n : ℕ) where
  -- the verdict before the search is v
  verdict-values : (v : Verdict) → verdict_number v ≡ early_verdict c (judgement t rule) gate → verdict_number v ∷ 0 ∷ 0 ∷ [] ≡ found_values c t rule gate n
  verdict-values v e = ap (λ (x : ℕ). x ∷ 0 ∷ 0 ∷ []) e ∙ sym (in-verdict c t rule gate n (λ z. verdict_some v (e ∙ z)))

  pub refused-values : (v : Verdict) → Err v ≡ judged_rule t rule → verdict_number v ∷ 0 ∷ 0 ∷ [] ≡ found_values c t rule gate n
  refused-values v e =
      let j = judged-verdict t rule v e in
      verdict-values v (j ∙ sym (first-false _ _ (ne_eqb (judgement t rule) passes (λ z. verdict_some v (j ∙ z)))))

  -- the judge has passed the rule, which is u
  module _ (u : Rule) (e : Ok u ≡ judged_rule t rule) where
    from-gate : early_verdict c passes gate ≡ early_verdict c (judgement t rule) gate
    from-gate = ap (λ j. early_verdict c j gate) (ap number_of e ∙ judged-number t rule)

    pub failing-values : (v : Verdict) → verdict_number v ≡ early_verdict c passes gate → verdict_number v ∷ 0 ∷ 0 ∷ [] ≡ found_values c t rule gate n
    failing-values v q = verdict-values v (q ∙ from-gate)

    pub passed-values : passes ≡ early_verdict c passes gate → (s : Searched) → s ≡ within n (first_match (whole_search c u gate))
        → searched_values n s ≡ found_values c t rule gate n
    passed-values q s h =
        in-found c t rule gate n s (sym (q ∙ from-gate))
        (h ∙ ap (λ u. within n (first_match (whole_search c u gate))) (judged-facts t rule u e).2)

  -- the judge has said j
  pub judged-failing-values : (j : Result TableRule Verdict) → said_or j ≡ judged_rule t rule
      → (v : Verdict) → verdict_number v ≡ early_verdict c (number_of j) gate → verdict_number v ∷ 0 ∷ 0 ∷ [] ≡ found_values c t rule gate n
  judged-failing-values (Ok u) e v q = failing-values (said u) e v q
  judged-failing-values (Err w) e v q =
      let h = q ∙ first-false _ _ (ne_eqb (verdict_number w) passes (verdict_some w)) in
      ap (λ (x : ℕ). x ∷ 0 ∷ 0 ∷ []) h ∙ refused-values w e

  pub judged-passed-values : (j : Result TableRule Verdict) → said_or j ≡ judged_rule t rule
      → (u : TableRule) → j ≡ Ok u → passes ≡ early_verdict c (number_of j) gate
      → (s : Searched) → s ≡ within n (first_match (whole_search c (said u) gate)) → searched_values n s ≡ found_values c t rule gate n
  judged-passed-values j e u k q = passed-values (said u) (ap said_or (sym k) ∙ e) (q ∙ ap (λ x. early_verdict c (number_of x) gate) k)

-- ---- the limit

pub limit-small : (n : ℕ) → is_limit n ≡ true → n ≤ max_ways
limit-small n e = leb-true n max_ways (right_of (leb 1 n) (leb n max_ways) e)
