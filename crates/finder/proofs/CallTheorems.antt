-- The theorems about the call, beside the match call on the same tables. Assumes nothing.
use mathlib.Core.Logic.{◌↔◌}
use mathlib.Core.Path.{◌≡◌, refl, sym, ap, ◌∙◌}
use mathlib.Core.Bool.{Bool, true, false, not}
use mathlib.Core.List.{List, [], ◌∷◌}
use mathlib.Core.Option.{Option, none, some}
use Prim.Native.Nat.{ℕ, ◌+◌, ◌*◌, ◌/◌, ◌%◌, ◌^◌, ◌≤◌, ◌<◌}
use native.Mathlib.Nat.{div-eq_of_lt, div-add-mod, mod-lt}
use native.Mathlib.Omega.{arith}
use native.Mathlib.Decide.{dec_lt}
use lib.Dec.{eqb}
use lib.ListN.{length, get_or}
use lib.Pow.{pow_pos}
use borrow.Author.Tests.{eq-eqb, ne_eqb, eqb-true, eqb-false}
use Rattle.lists.specs.First.{first}
use Rattle.lines.specs.Refusal.{Result, refused, gives}
use Rattle.lines.specs.Checks.{first_found}
use Rattle.lines.proofs.CheckLaws.{Passed, passed, answer-gives}
use Rattle.circuit.specs.Circuit.{Circuit}
use Rattle.circuit.specs.Table.{decode}
use Rattle.circuit.specs.Trim.{trim}
use Rattle.rules.specs.Rule.{Rule}
use Rattle.rules.specs.RuleTable.{rule_of}
use Rattle.rules.specs.Match.{match_rule}
use Rattle.rules.specs.MatchCall.{match_checks, matching}
use Rattle.rules.specs.Verdict.{SiteMatch, passes, not_a_gate, no_match, judgement, early_verdict, failing, verdict_by, match_at, match_site}
use Rattle.rules.proofs.VerdictLaws.{site-at}
use Rattle.rules.proofs.JudgedLaws.{early-none, early-site}
use Rattle.finder.specs.Search.{Searched, whole_search, first_match}
use Rattle.finder.specs.FindCall.{a_mask, no_mask, spent, searched_values, found_values, find_checks, finding}
use Rattle.finder.specs.Theorems.{VerdictIsTheSites, SpentIsMoreWays, NoneIsNoMatch, MaskIsSmallest}
use Rattle.finder.proofs.CallLaws.{of-spent, of_mask, of_none, in-verdict, in-search}
use Rattle.finder.proofs.SearchTheorems.{first_matches, first-is-smallest, no-first-means-none}

-- ---- a mask beyond the left gates, and one within them

not_beyond : (m k : ℕ) → m / 2 ^ k ≡ 0 → m < 2 ^ k
not_beyond m k e = let r = div-add-mod m (2 ^ k) in omega (arith, mod-lt m (pow_pos k), sym r ∙ ap (λ q. 2 ^ k * q + m % 2 ^ k) e)

module _ (c : Circuit) (u : Rule) (gate mask : ℕ) where
  gets-zero : (b : List ℕ) → mask < 2 ^ length u.lefts → match_rule c u gate mask ≡ some b → (match_at c u gate mask).verdict ≡ passes
  unfolding match_at
  gets-zero b l e = rw (eq-eqb (mask / 2 ^ length u.lefts) 0 (div-eq_of_lt l), e)

  gets-four : (mask < 2 ^ length u.lefts → match_rule c u gate mask ≡ none) → (match_at c u gate mask).verdict ≡ no_match
  unfolding match_at
  gets-four e =
      elim (dec_lt mask (2 ^ length u.lefts)) [
        | yes l ↦ rw (eq-eqb (mask / 2 ^ length u.lefts) 0 (div-eq_of_lt l), e l)
        | no l ↦ rw (ne_eqb (mask / 2 ^ length u.lefts) 0 (λ z. l (not_beyond mask (length u.lefts) z)))
      ]

-- ---- what the search says of the sites

module _ (c : Circuit) (t : List ℕ) (rule gate : ℕ) where
  abbrev s : Searched
  s = first_match (whole_search c (rule_of t rule) gate)

  -- where none of the verdicts 1 to 3 applies, a site's is that of its match
  site : (mask : ℕ) → early_verdict c (judgement t rule) gate ≡ passes → (match_at c (rule_of t rule) gate mask).verdict ≡ (match_site c t rule gate mask).verdict
  site mask e =
      let p = early-none c t rule gate e in
      ap (λ (m : SiteMatch). m.verdict) (site-at c t rule gate mask p.0 p.1 p.2)

  -- what a site gets that none of them applies to
  none_before : early_verdict c (judgement t rule) gate ≡ passes → s.matched ≡ false → (mask : ℕ) → (match_site c t rule gate mask).verdict ≡ no_match
  none_before e m mask = sym (site mask e) ∙ gets-four c (rule_of t rule) gate mask ((no-first-means-none c (rule_of t rule) gate).0 m mask)

  module _ (e : early_verdict c (judgement t rule) gate ≡ passes) (m : s.matched ≡ true) where
    found_here : (match_site c t rule gate s.mask).verdict ≡ passes
    found_here = let f = first_matches c (rule_of t rule) gate m in sym (site s.mask e) ∙ gets-zero c (rule_of t rule) gate s.mask f.1.0 f.0 f.1.1

    none-smaller : (mask : ℕ) → mask < s.mask → (match_site c t rule gate mask).verdict ≡ no_match
    none-smaller mask l = sym (site mask e) ∙ gets-four c (rule_of t rule) gate mask (λ h. first-is-smallest c (rule_of t rule) gate m mask l)

  -- and 0 or 4 in any case
  zero-or-four : early_verdict c (judgement t rule) gate ≡ passes → (mask v : ℕ) → 1 ≤ v → v ≤ not_a_gate → (match_site c t rule gate mask).verdict ≡ v → ⊥
  unfolding match_at
  zero-or-four e mask v h k q = go (not (eqb (mask / 2 ^ length (rule_of t rule).lefts) 0)) (match_rule c (rule_of t rule) gate mask) (site mask e ∙ q)
    where
      go : (b : Bool) (o : Option (List ℕ)) → (first b (failing no_match) (verdict_by o)).verdict ≡ v → ⊥
      go true o q = omega arith
      go false none q = omega arith
      go false (some b) q = omega arith

-- ---- the calls, where no refusal applies

abbrev values_of : Result → List ℕ
values_of (refused number table) = []
values_of (gives values) = values

abbrev outcome_of : Result → ℕ
outcome_of r = get_or (values_of r) 0 0

module _ (circuit rules : List ℕ) (rule gate limit : ℕ) (z : (first_found (find_checks circuit rules limit)).number ≡ 0) where
  abbrev c : Circuit
  c = trim (decode circuit)

  abbrev found : Searched
  found = s c rules rule gate

  abbrev early : ℕ
  early = early_verdict c (judgement rules rule) gate

  all-passed : Passed (find_checks circuit rules limit)
  all-passed = passed (find_checks circuit rules limit) z

  -- what the call gives, in each case
  given : finding circuit rules rule gate limit ≡ gives (found_values c rules rule gate limit)
  unfolding finding
  given = answer-gives (find_checks circuit rules limit) (found_values c rules rule gate limit) all-passed

  given-verdict : (early ≡ passes → ⊥) → finding circuit rules rule gate limit ≡ gives (early ∷ 0 ∷ 0 ∷ [])
  given-verdict d = given ∙ ap gives (in-verdict c rules rule gate limit d)

  module _ (e : early ≡ passes) where
    searched : finding circuit rules rule gate limit ≡ gives (searched_values limit found)
    searched = given ∙ ap gives (in-search c rules rule gate limit e)

    given-spent : limit < found.ways → finding circuit rules rule gate limit ≡ gives (spent ∷ 0 ∷ limit ∷ [])
    given-spent l = searched ∙ ap gives (of-spent limit found l)

    given-mask : found.ways ≤ limit → found.matched ≡ true → finding circuit rules rule gate limit ≡ gives (a_mask ∷ found.mask ∷ found.ways ∷ [])
    given-mask l m = searched ∙ ap gives (of_mask limit found l m)

    given-none : found.ways ≤ limit → found.matched ≡ false → finding circuit rules rule gate limit ≡ gives (no_mask ∷ 0 ∷ found.ways ∷ [])
    given-none l m = searched ∙ ap gives (of_none limit found l m)

    -- what is answered where none of the verdicts applies is none of them
    no-verdict : (v : ℕ) → 1 ≤ v → v ≤ not_a_gate → finding circuit rules rule gate limit ≡ gives (v ∷ 0 ∷ 0 ∷ []) → ⊥
    no-verdict v h k q =
        elim (dec_lt limit found.ways) [
          | yes l ↦ omega (arith, ap outcome_of (sym q ∙ given-spent l))
          | no l ↦ go found.matched refl (omega arith)
        ]
      where
        go : (b : Bool) → found.matched ≡ b → found.ways ≤ limit → ⊥
        go true m l = omega (arith, ap outcome_of (sym q ∙ given-mask l m))
        go false m l = omega (arith, ap outcome_of (sym q ∙ given-none l m))

  -- what the match call gives
  matched : (mask : ℕ) → matching circuit rules rule gate mask ≡ gives ((match_site c rules rule gate mask).verdict ∷ [])
  unfolding matching
  matched mask =
      let p = all-passed in
      answer-gives (match_checks circuit rules) ((match_site c rules rule gate mask).verdict ∷ []) (p.0, (p.1.0, (p.1.1.0, (p.1.1.1.0, tt))))

  gets : (mask v : ℕ) → (match_site c rules rule gate mask).verdict ≡ v → matching circuit rules rule gate mask ≡ gives (v ∷ [])
  gets mask v e = matched mask ∙ ap (λ x. gives (x ∷ [])) e

  got : (mask v : ℕ) → matching circuit rules rule gate mask ≡ gives (v ∷ []) → (match_site c rules rule gate mask).verdict ≡ v
  got mask v e = ap outcome_of (sym (matched mask) ∙ e)

  verdict-either : (v : ℕ) → 1 ≤ v → v ≤ not_a_gate
      → (finding circuit rules rule gate limit ≡ gives (v ∷ 0 ∷ 0 ∷ [])) ↔ ((mask : ℕ) → matching circuit rules rule gate mask ≡ gives (v ∷ []))
  verdict-either v h k = go (eqb early passes) refl
    where
      go : (b : Bool) → eqb early passes ≡ b
          → (finding circuit rules rule gate limit ≡ gives (v ∷ 0 ∷ 0 ∷ [])) ↔ ((mask : ℕ) → matching circuit rules rule gate mask ≡ gives (v ∷ []))
      go true b =
          let e = eqb-true early passes b in (
            λ q. absurd (no-verdict e v h k q),
            λ q. absurd (zero-or-four c rules rule gate e 0 v h k (got 0 v (q 0))),
          )
      go false b =
          let d = eqb-false early passes b in (
            λ q mask. gets mask v (early-site c rules rule gate mask d ∙ ap outcome_of (sym (given-verdict d) ∙ q)),
            λ q. given-verdict d ∙ ap (λ x. gives (x ∷ 0 ∷ 0 ∷ [])) (sym (early-site c rules rule gate 0 d) ∙ got 0 v (q 0)),
          )

  module _ (e : early ≡ passes) where
    spent-either : (finding circuit rules rule gate limit ≡ gives (spent ∷ 0 ∷ limit ∷ [])) ↔ (limit < found.ways)
    spent-either = (λ q. elim (dec_lt limit found.ways) [ yes l ↦ l | no l ↦ absurd (go found.matched refl (omega arith) q) ], given-spent e)
      where
        go : (b : Bool) → found.matched ≡ b → found.ways ≤ limit → finding circuit rules rule gate limit ≡ gives (spent ∷ 0 ∷ limit ∷ []) → ⊥
        go true m l q = omega (arith, ap outcome_of (sym q ∙ given-mask e l m))
        go false m l q = omega (arith, ap outcome_of (sym q ∙ given-none e l m))

    module _ (l : found.ways ≤ limit) where
      none-either : (finding circuit rules rule gate limit ≡ gives (no_mask ∷ 0 ∷ found.ways ∷ [])) ↔ ((mask : ℕ) → matching circuit rules rule gate mask ≡ gives (no_match ∷ []))
      none-either = go found.matched refl
        where
          go : (b : Bool) → found.matched ≡ b
              → (finding circuit rules rule gate limit ≡ gives (no_mask ∷ 0 ∷ found.ways ∷ [])) ↔ ((mask : ℕ) → matching circuit rules rule gate mask ≡ gives (no_match ∷ []))
          go true m = (
            λ q. let no_way : ⊥ = omega (arith, ap outcome_of (sym q ∙ given-mask e l m)) in absurd no_way,
            λ q. let no_way : ⊥ = omega (arith, got found.mask no_match (q found.mask), found_here c rules rule gate e m) in absurd no_way,
          )
          go false m = (λ q mask. gets mask no_match (none_before c rules rule gate e m mask), λ q. given-none e l m)

      mask-either : (mask : ℕ)
          → (finding circuit rules rule gate limit ≡ gives (a_mask ∷ mask ∷ found.ways ∷ []))
          ↔ ((matching circuit rules rule gate mask ≡ gives (passes ∷ [])) × ((k : ℕ) → k < mask → matching circuit rules rule gate k ≡ gives (no_match ∷ [])))
      mask-either mask = go found.matched refl
        where
          go : (b : Bool) → found.matched ≡ b
              → (finding circuit rules rule gate limit ≡ gives (a_mask ∷ mask ∷ found.ways ∷ []))
              ↔ ((matching circuit rules rule gate mask ≡ gives (passes ∷ [])) × ((k : ℕ) → k < mask → matching circuit rules rule gate k ≡ gives (no_match ∷ [])))
          go false m = (
            λ q. let no_way : ⊥ = omega (arith, ap outcome_of (sym q ∙ given-none e l m)) in absurd no_way,
            λ q. let no_way : ⊥ = omega (arith, got mask passes q.0, none_before c rules rule gate e m mask) in absurd no_way,
          )
          go true m = (
            λ q.
                let same : mask ≡ found.mask = ap (λ r. get_or (values_of r) 1 0) (sym q ∙ given-mask e l m) in
                (gets mask passes (rw same (found_here c rules rule gate e m)), λ k h. gets k no_match (none-smaller c rules rule gate e m k (omega arith))),
            λ q.
                let same : found.mask ≡ mask =
                elim (dec_lt found.mask mask) [
                  | yes h ↦ let no_way : ⊥ = omega (arith, got found.mask no_match (q.1 found.mask h), found_here c rules rule gate e m) in absurd no_way
                  | no h ↦ elim (dec_lt mask found.mask) [
                    | yes k ↦ let no_way : ⊥ = omega (arith, got mask passes q.0, none-smaller c rules rule gate e m mask k) in absurd no_way
                    | no k ↦ omega arith
                  ]
                ]
                in
                given-mask e l m ∙ ap (λ x. gives (a_mask ∷ x ∷ found.ways ∷ [])) same,
          )

pub verdict-is-the-sites : VerdictIsTheSites
verdict-is-the-sites = verdict-either

pub spent-is-more-ways : SpentIsMoreWays
spent-is-more-ways = spent-either

pub none-is-no-match : NoneIsNoMatch
none-is-no-match = none-either

pub mask-is-smallest : MaskIsSmallest
mask-is-smallest = mask-either
