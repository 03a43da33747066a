-- A search in the trimmed circuit finds what one in the circuit as it is finds. Assumes nothing.
use mathlib.Core.Path.{◌≡◌, refl, sym, ap, ap₂, ◌∙◌}
use mathlib.Core.Bool.{Bool, true, false, not, true≢false}
use mathlib.Core.List.{List, [], ◌∷◌, ◌++◌, map}
use mathlib.Core.Option.{Option, none, some}
use Prim.Native.Nat.{ℕ, zero, suc, ◌+◌, ◌^◌, ◌≤◌}
use lib.Dec.{eqb}
use lib.ListN.{length, get_or}
use Rattle.lists.specs.First.{first}
use Rattle.circuit.specs.Circuit.{Circuit, first_gate, references, no_gate}
use Rattle.circuit.specs.Path.{is_gate}
use Rattle.circuit.specs.Trim.{is_kept, new_number, old_number, trim}
use Rattle.circuit.proofs.GateLaws.{gate-high}
use Rattle.circuit.proofs.ValidLaws.{Valid}
use Rattle.circuit.proofs.TrimLaws.{trim-is-gate}
use Rattle.rules.specs.Rule.{Rule}
use Rattle.rules.specs.Match.{match_left}
use Rattle.rules.specs.RuleTable.{rule_of}
use Rattle.rules.specs.Verdict.{passes, not_a_gate, judgement, early_verdict}
use Rattle.rules.proofs.JudgedLaws.{early-none}
use Rattle.rules.proofs.TrimmedLaws.{AlikeOption, start-alike, gate-alike, old-either}
use Rattle.finder.specs.Search.{Searched, trial, crossed, events, whole_search, first_match}
use Rattle.finder.specs.FindCall.{searched_values, found_values}
use Rattle.finder.proofs.CallLaws.{in-verdict}

module _ (c : Circuit) (ok : Valid c) (u : Rule) where
  events-alike : (i : ℕ) (o o' : Option (List ℕ)) → AlikeOption c o o' → events (trim c) u i o' ≡ events c u i o
  unfolding events
  events-alike zero none none a = refl
  events-alike zero none (some b') a = absurd a
  events-alike zero (some b) none a = absurd a
  events-alike zero (some b) (some b') a = refl
  events-alike (suc i) none none a = refl
  events-alike (suc i) none (some b') a = absurd a
  events-alike (suc i) (some b) none a = absurd a
  events-alike (suc i) (some b) (some b') a =
      let behind : (swap : Bool) → events (trim c) u i (match_left (trim c) u i swap b') ≡ events c u i (match_left c u i swap b) =
      λ swap. events-alike i (match_left c u i swap b) (match_left (trim c) u i swap b') (gate-alike c ok (first_gate u.holes + i) (get_or u.lefts i no_gate) swap b b' a)
      in
      ap₂ (λ xs ys. (trial ∷ xs) ++ (trial ∷ map (crossed (2 ^ i)) ys)) (behind false) (behind true)

  search-alike : (w : ℕ) → is_kept c w ≡ true → whole_search (trim c) u (new_number c w) ≡ whole_search c u w
  search-alike w k = events-alike (length u.lefts) _ _ (start-alike c u w k)

-- what is answered, by the verdicts before the search
module _ (c : Circuit) (ok : Valid c) (t : List ℕ) (rule n : ℕ) where
  abbrev answered : (early : ℕ) → Searched → List ℕ
  answered v s = first (not (eqb v passes)) (v ∷ 0 ∷ 0 ∷ []) (searched_values n s)

  abbrev Same : (v w : ℕ) → Type 0
  Same v w = found_values (trim c) t rule v n ≡ found_values c t rule w n

  early-same : (v w : ℕ) → is_gate (trim c) v ≡ is_gate c w → early_verdict (trim c) (judgement t rule) v ≡ early_verdict c (judgement t rule) w
  early-same v w e = ap (λ g. first (eqb (judgement t rule) passes) (first (not g) not_a_gate passes) (judgement t rule)) e

  kept_same : (w : ℕ) → is_kept c w ≡ true → Same (new_number c w) w
  unfolding found_values
  kept_same w k = ap₂ answered (early-same (new_number c w) w (trim-is-gate c ok w k)) (ap first_match (search-alike c ok (rule_of t rule) w k))

  beyond-same : (v w : ℕ) → references (trim c) ≤ v → references c ≤ w → Same v w
  beyond-same v w h l =
      let e = early-same v w (gate-high (trim c) v h ∙ sym (gate-high c w l)) in
      in-verdict (trim c) t rule v n (λ z. no-gate (trim c) v h z) ∙ ap (λ x. x ∷ 0 ∷ 0 ∷ []) e ∙ sym (in-verdict c t rule w n (λ z. no-gate c w l z))
    where
      no-gate : (d : Circuit) (x : ℕ) → references d ≤ x → early_verdict d (judgement t rule) x ≡ passes → ⊥
      no-gate d x h z = true≢false (sym (early-none d t rule x z).2 ∙ gate-high d x h)

  pub found_alike : (v : ℕ) → Same v (old_number c v)
  found_alike = old-either c ok Same kept_same beyond-same
