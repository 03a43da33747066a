-- The theorems of specs/Theorems.antt. Assumes nothing.
use mathlib.Core.Path.{◌≡◌, refl, sym, ap, ◌∙◌}
use mathlib.Core.Bool.{Bool, true, false, true≢false, false≢true}
use mathlib.Core.List.{List}
use mathlib.Core.Option.{Option, none, some, bind}
use Prim.Native.Nat.{ℕ, zero, suc, ◌^◌, ◌≤◌, ◌<◌}
use native.Mathlib.Omega.{arith}
use native.Mathlib.Numerals.{add-one}
use native.Mathlib.Decide.{dec_lt}
use lib.ListN.{length}
use Rattle.circuit.specs.Circuit.{Circuit}
use Rattle.rules.specs.Rule.{Rule}
use Rattle.rules.specs.Match.{match_rule, start_bindings}
use Rattle.finder.specs.Search.{events, whole_search, first_match, has}
use Rattle.finder.specs.Theorems.{SearchHasMatches, FirstMatches, FirstIsSmallest, NoFirstMeansNone, FewWays, SomeWay}
use Rattle.finder.proofs.EventLaws.{first-has, first-none}
use Rattle.finder.proofs.MaskLaws.{is_some, beyond, has-match, least}
use Rattle.finder.proofs.WayLaws.{first-ways, few-trials}

some_is : (o : Option (List ℕ)) → is_some o ≡ true → (b : List ℕ) × (o ≡ some b)
some_is none e = absurd (false≢true e)
some_is (some b) e = (b, refl)

none_is : (o : Option (List ℕ)) → is_some o ≡ false → o ≡ none
none_is none e = refl
none_is (some b) e = absurd (true≢false e)

module _ (c : Circuit) (u : Rule) (gate : ℕ) where
  -- a mask within the left gates is among the matches exactly if it matches
  has-is : (m : ℕ) → m < 2 ^ length u.lefts → has m (whole_search c u gate) ≡ is_some (match_rule c u gate m)
  unfolding match_rule bind
  has-is m l = has-match c u (length u.lefts) m (some (start_bindings u gate)) l

  within-lefts : (m : ℕ) → has m (whole_search c u gate) ≡ true → m < 2 ^ length u.lefts
  within-lefts m e =
      elim (dec_lt m (2 ^ length u.lefts)) [
        | yes l ↦ l
        | no l ↦ absurd (true≢false (sym e ∙ beyond c u (length u.lefts) m (some (start_bindings u gate)) (omega arith)))
      ]

  has-matches : (m : ℕ) → has m (whole_search c u gate) ≡ true → (m < 2 ^ length u.lefts) × ((b : List ℕ) × (match_rule c u gate m ≡ some b))
  has-matches m e = (within-lefts m e, some_is (match_rule c u gate m) (sym (has-is m (within-lefts m e)) ∙ e))

  matches-has : (m : ℕ) (b : List ℕ) → m < 2 ^ length u.lefts → match_rule c u gate m ≡ some b → has m (whole_search c u gate) ≡ true
  matches-has m b l e = has-is m l ∙ ap is_some e

  -- there is no match where none is among the matches, and the other way round
  no-match : ((m : ℕ) → has m (whole_search c u gate) ≡ false) → (m : ℕ) → m < 2 ^ length u.lefts → match_rule c u gate m ≡ none
  no-match h m l = none_is (match_rule c u gate m) (sym (has-is m l) ∙ h m)

  none_found : (b : Bool) (m : ℕ) → (b ≡ true → has m (whole_search c u gate) ≡ true) → ((k : ℕ) → k < 2 ^ length u.lefts → match_rule c u gate k ≡ none) → b ≡ false
  none_found false m h e = refl
  none_found true m h e =
      let l = within-lefts m (h refl) in
      absurd (true≢false (sym (h refl) ∙ has-is m l ∙ ap is_some (e m l)))

pub search-has-matches : SearchHasMatches
search-has-matches c u gate m = (has-matches c u gate m, λ e. matches-has c u gate m e.1.0 e.0 e.1.1)

pub first_matches : FirstMatches
first_matches c u gate e = has-matches c u gate (first_match (whole_search c u gate)).mask (first-has (whole_search c u gate) e)

pub first-is-smallest : FirstIsSmallest
first-is-smallest c u gate e m l =
    let w = within-lefts c u gate (first_match (whole_search c u gate)).mask (first-has (whole_search c u gate) e) in
    none_is (match_rule c u gate m) (sym (has-is c u gate m (omega arith)) ∙ least c u (length u.lefts) (some (start_bindings u gate)) e m l)

pub no-first-means-none : NoFirstMeansNone
no-first-means-none c u gate = (
  λ e. no-match c u gate (first-none (whole_search c u gate) e),
  none_found c u gate (first_match (whole_search c u gate)).matched (first_match (whole_search c u gate)).mask (first-has (whole_search c u gate)),
)

pub few-ways : FewWays
few-ways c u gate =
    omega (
      arith,
      first-ways (whole_search c u gate),
      few-trials c u (length u.lefts) (some (start_bindings u gate)),
      ap (λ k. 2 ^ k) (add-one (length u.lefts)),
    )

pub some-way : SomeWay
unfolding events first_match
some-way c u gate h = go (length u.lefts) h
  where
    go : (n : ℕ) → 1 ≤ n → 1 ≤ (first_match (events c u n (some (start_bindings u gate)))).ways
    go zero h = let no_way : ⊥ = omega arith in absurd no_way
    go (suc i) h = omega arith
