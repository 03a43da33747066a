-- The ways of a search. Assumes nothing.
use mathlib.Core.Path.{◌≡◌, refl, sym, ap, ◌∙◌}
use mathlib.Core.Bool.{true, false}
use mathlib.Core.List.{List, [], ◌∷◌, ◌++◌, map}
use mathlib.Core.Option.{Option, none, some}
use Prim.Native.Nat.{ℕ, zero, suc, ◌+◌, ◌^◌, ◌≤◌}
use native.Mathlib.Nat.{pow-suc, zero-add, add_assoc}
use native.Mathlib.Omega.{arith}
use lib.Pow.{pow_mono}
use Rattle.circuit.specs.Circuit.{Circuit}
use Rattle.rules.specs.Rule.{Rule}
use Rattle.rules.specs.Match.{match_left}
use Rattle.finder.specs.Search.{Event, trial, matched, crossed, events, first_match}

-- the trials of a list of events, those behind a match too
unfoldable pub trials_of : List Event → ℕ
trials_of [] = 0
trials_of (trial ∷ es) = 1 + trials_of es
trials_of (matched m ∷ es) = trials_of es

trials-append : (xs ys : List Event) → trials_of (xs ++ ys) ≡ trials_of xs + trials_of ys
unfolding trials_of
trials-append [] ys = sym (zero-add (trials_of ys))
trials-append (trial ∷ xs) ys = ap (λ (n : ℕ). 1 + n) (trials-append xs ys) ∙ sym (add_assoc 1 (trials_of xs) (trials_of ys))
trials-append (matched m ∷ xs) ys = trials-append xs ys

one-trial : (es : List Event) → trials_of (trial ∷ es) ≡ 1 + trials_of es
unfolding trials_of
one-trial es = refl

trials-crossed : (h : ℕ) (es : List Event) → trials_of (map (crossed h) es) ≡ trials_of es
unfolding trials_of
trials-crossed h [] = refl
trials-crossed h (trial ∷ es) = ap (λ (n : ℕ). 1 + n) (trials-crossed h es)
trials-crossed h (matched m ∷ es) = trials-crossed h es

-- a search that ends at its first match has not more ways
pub first-ways : (es : List Event) → (first_match es).ways ≤ trials_of es
unfolding first_match trials_of
first-ways [] = omega arith
first-ways (trial ∷ es) = omega (arith, first-ways es)
first-ways (matched m ∷ es) = omega arith

pub few-trials : (c : Circuit) (u : Rule) (i : ℕ) (o : Option (List ℕ)) → trials_of (events c u i o) + 2 ≤ 2 ^ suc i
unfolding events trials_of
few-trials c u zero none = omega arith
few-trials c u zero (some b) = omega arith
few-trials c u (suc i) none = omega (arith, pow_mono {i = 1} {j = suc (suc i)} (omega arith))
few-trials c u (suc i) (some b) =
    let xs = events c u i (match_left c u i false b) in
    let ys = map (crossed (2 ^ i)) (events c u i (match_left c u i true b)) in
    omega (
      arith,
      trials-append (trial ∷ xs) (trial ∷ ys),
      one-trial xs,
      one-trial ys,
      trials-crossed (2 ^ i) (events c u i (match_left c u i true b)),
      few-trials c u i (match_left c u i false b),
      few-trials c u i (match_left c u i true b),
      pow-suc 2 (suc i),
    )
