-- The stores of the listing's lines behind the circuit's. Assumes nothing.
use mathlib.Core.Path.{◌≡◌, refl, sym, ap, ap₂, ◌∙◌}
use mathlib.Core.List.{List, [], ◌∷◌, ◌++◌}
use Prim.Native.Nat.{ℕ, suc, ◌+◌, ◌*◌, ◌≤◌, ◌<◌}
use native.Mathlib.Numerals.{add-one}
use native.Mathlib.Omega.{arith}
use lib.ListN.{length, drop, get_or, drop_of_length-le}
use lib.Seq.{sets, drop-cons}
use Rattle.lists.proofs.Stores.{sets-append}
use Rattle.lists.proofs.Appended.{Appended, appended-none, appended-more, appended-all}
use Rattle.napspruce.specs.declared.numbers.Summary.{Summary}
use Rattle.napspruce.specs.Listing.{old_pair_kind, new_pair_kind, counts_kind, verdict_kind, summary, verdict_lines}

pub summary-stores : (t : List ℕ) (at : ℕ) (s : Summary)
    → sets (sets (sets t at (old_pair_kind ∷ s.old.depth ∷ s.old.critical ∷ [])) (at + 3) (new_pair_kind ∷ s.new.depth ∷ s.new.critical ∷ [])) (at + 6)
    (counts_kind ∷ s.sites ∷ s.kept ∷ [])
    ≡ sets t at (summary s)
unfolding summary
summary-stores t at s =
    let a = old_pair_kind ∷ s.old.depth ∷ s.old.critical ∷ [] in
    let b = new_pair_kind ∷ s.new.depth ∷ s.new.critical ∷ [] in
    let c = counts_kind ∷ s.sites ∷ s.kept ∷ [] in
    ap (λ d. sets d (at + 6) c) (sets-append a b t at 3 refl) ∙ sets-append (a ++ b) c t at 6 refl

-- ---- verdicts

no-verdicts : (n : ℕ) → verdict_lines n [] ≡ []
unfolding verdict_lines
no-verdicts n = refl

next-verdict : (n v : ℕ) (vs : List ℕ) → verdict_lines n (v ∷ vs) ≡ verdict_kind ∷ n ∷ v ∷ verdict_lines (suc n) vs
unfolding verdict_lines
next-verdict n v vs = refl

-- a loop that has stored the lines of the first i of some verdicts from place `from` on
abbrev pub VerdictsTo : (verdicts d₀ : List ℕ) (from : ℕ) (d : List ℕ) (i : ℕ) → Type 0
VerdictsTo verdicts d₀ from d i = Appended (verdict_lines 1 verdicts) d₀ from (verdict_lines (i + 1) (drop i verdicts)) d (from + 3 * i)

module _ (verdicts d₀ : List ℕ) (from : ℕ) where
  pub verdicts-none : VerdictsTo verdicts d₀ from d₀ 0
  verdicts-none = appended-none (verdict_lines 1 verdicts) d₀ from (verdict_lines 1 verdicts) (from + 3 * 0) refl (omega arith)

  module _ (d : List ℕ) (i : ℕ) (s : VerdictsTo verdicts d₀ from d i) where
    pub verdicts-more : (number v : ℕ) (d' : List ℕ) → i < length verdicts → number ≡ i + 1 → v ≡ get_or verdicts i 0
        → d' ≡ sets d (from + 3 * i) (verdict_kind ∷ number ∷ v ∷ []) → VerdictsTo verdicts d₀ from d' (i + 1)
    verdicts-more number v d' h n e f =
        let here : drop i verdicts ≡ v ∷ drop (i + 1) verdicts =
        drop-cons verdicts i 0 h ∙ ap₂ (λ x k. x ∷ drop k verdicts) (sym e) (sym (add-one i)) in
        let line : verdict_lines (i + 1) (drop i verdicts) ≡ verdict_kind ∷ number ∷ v ∷ verdict_lines (i + 1 + 1) (drop (i + 1) verdicts) =
        ap (verdict_lines (i + 1)) here ∙ next-verdict (i + 1) v (drop (i + 1) verdicts)
        ∙ ap₂ (λ x k. verdict_kind ∷ x ∷ v ∷ verdict_lines k (drop (i + 1) verdicts)) (sym n) (sym (add-one (i + 1))) in
        appended-more (verdict_lines 1 verdicts) d₀ from (verdict_lines (i + 1) (drop i verdicts)) d (from + 3 * i) s
        (verdict_kind ∷ number ∷ v ∷ []) (verdict_lines (i + 1 + 1) (drop (i + 1) verdicts)) d' (from + 3 * (i + 1)) line f (omega arith)

    pub verdicts-all : length verdicts ≤ i → d ≡ sets d₀ from (verdict_lines 1 verdicts)
    verdicts-all h =
        (appended-all (verdict_lines 1 verdicts) d₀ from (verdict_lines (i + 1) (drop i verdicts)) d (from + 3 * i) s
        (ap (verdict_lines (i + 1)) (drop_of_length-le verdicts h) ∙ no-verdicts (i + 1))).0
