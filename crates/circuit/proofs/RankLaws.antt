-- Keeping some of the gates, in order, and renumbering them. Assumes nothing.
use mathlib.Core.Path.{◌≡◌, refl, sym, ap, ap₂, ◌∙◌}
use mathlib.Core.Logic.{◌≢◌}
use mathlib.Core.Bool.{Bool, true, false, true≢false}
use mathlib.Core.List.{List, [], ◌∷◌}
use Prim.Native.Nat.{ℕ, zero, suc, ◌+◌, ◌≤◌, ◌<◌}
use native.Mathlib.Nat.{add-zero}
use native.Mathlib.Decide.{dec_lt, ℕ_discrete}
use native.Mathlib.Numerals.{add-one}
use native.Mathlib.Omega.{arith}
use lib.Dec.{eqb}
use lib.ListN.{length, drop, get_or, drop_of_length-le}
use borrow.Author.Tests.{eq-eqb, ne_eqb, le-ltb}
use Rattle.lists.specs.First.{first}
use Rattle.lists.proofs.Each.{each-front}
use Rattle.circuit.specs.Circuit.{Gate, constants, is_constant}
use Rattle.circuit.specs.Each.{count_gates, EachGate}
use Rattle.circuit.specs.Fold.{gate_value, fold_gates}
use Rattle.circuit.specs.Valuation.{Ordered}
use Rattle.circuit.specs.Depth.{is_counted}
use Rattle.circuit.specs.Trim.{rename_gate, rank, keep_gates}
use Rattle.circuit.proofs.EachLaws.{each-zip}
use Rattle.circuit.proofs.FoldLaws.{fold-solves, simulation}

module _ (kept : ℕ → Bool) where
  -- ---- the new numbers

  pub rank-none : rank kept 0 ≡ 0
  unfolding rank
  rank-none = refl

  pub rank-kept : (v : ℕ) → kept v ≡ true → rank kept (v + 1) ≡ rank kept v + 1
  unfolding rank
  rank-kept v e = rw (add-one v, e)

  pub rank-gone : (v : ℕ) → kept v ≡ false → rank kept (v + 1) ≡ rank kept v
  unfolding rank
  rank-gone v e = rw (add-one v, e)

  pub rank-suc : (v : ℕ) → kept v ≡ true → rank kept (suc v) ≡ suc (rank kept v)
  rank-suc v e = rw (← (add-one v), rank-kept v e, add-one (rank kept v))

  pub rank_same : (v : ℕ) → kept v ≡ false → rank kept (suc v) ≡ rank kept v
  rank_same v e = rw (← (add-one v), rank-gone v e)

  rank_step : (v : ℕ) (b : Bool) → kept v ≡ b → rank kept v ≤ rank kept (suc v)
  rank_step v true e = omega (arith, rank-suc v e)
  rank_step v false e = omega (arith, rank_same v e)

  pub rank_mono : (a b : ℕ) → a ≤ b → rank kept a ≤ rank kept b
  rank_mono a zero h = let e : a ≡ 0 = omega arith in rw e (omega arith)
  rank_mono a (suc b) h =
      elim (dec_lt b a) [
        | yes l ↦ let e : a ≡ suc b = omega arith in rw e (omega arith)
        | no l ↦ omega (arith, rank_mono a b (omega arith), rank_step b (kept b) refl)
      ]

  pub rank_lt : (a b : ℕ) → kept a ≡ true → a < b → rank kept a < rank kept b
  rank_lt a b e h = omega (arith, rank-suc a e, rank_mono (suc a) b h)

  -- two kept references have the same new number only if they are the same
  pub rank-eqb : (a b : ℕ) → kept a ≡ true → kept b ≡ true → eqb (rank kept a) (rank kept b) ≡ eqb a b
  rank-eqb a b p q =
      elim (ℕ_discrete a b) [
        | yes e ↦ rw (e, eq-eqb b b, eq-eqb (rank kept b) (rank kept b))
        | no e ↦ rw (ne_eqb a b e, ne_eqb (rank kept a) (rank kept b) (clash e)) refl
      ]
    where
      clash : a ≢ b → rank kept a ≢ rank kept b
      clash n x =
          elim (dec_lt a b) [
            | yes l ↦ omega (arith, rank_lt a b p l)
            | no l ↦ let m : b < a = omega arith in omega (arith, rank_lt b a q m)
          ]

  -- each new number is that of a reference that is kept
  pub rank-onto : (n v : ℕ) → v < rank kept n → (w : ℕ) × (w < n) × (kept w ≡ true) × (rank kept w ≡ v)
  rank-onto zero v h = let z : ⊥ = omega (arith, rank-none) in absurd z
  rank-onto (suc n) v h = go (kept n) refl (ℕ_discrete (rank kept n) v) (rank-onto n v)
    where
      earlier : (w : ℕ) × (w < n) × (kept w ≡ true) × (rank kept w ≡ v) → (w : ℕ) × (w < suc n) × (kept w ≡ true) × (rank kept w ≡ v)
      earlier (w, l, k, e) = (w, omega arith, k, e)

      go : (b : Bool) → kept n ≡ b → Dec (rank kept n ≡ v) → (v < rank kept n → (w : ℕ) × (w < n) × (kept w ≡ true) × (rank kept w ≡ v))
          → (w : ℕ) × (w < suc n) × (kept w ≡ true) × (rank kept w ≡ v)
      go true k (yes e) ih = (n, omega arith, k, e)
      go true k (no d) ih = earlier (ih (omega (arith, rank-suc n k)))
      go false k d ih = earlier (ih (omega (arith, rank_same n k)))

  -- below the first reference that goes, numbers stay
  pub rank-id : (n : ℕ) → ((r : ℕ) → r < n → kept r ≡ true) → rank kept n ≡ n
  rank-id zero f = rank-none
  rank-id (suc n) f = rank-suc n (f n (omega arith)) ∙ ap suc (rank-id n (λ r h. f r (omega arith)))

  -- so if no constant goes, constants stay, and nothing else becomes one
  rank-constant : ((r : ℕ) → r < constants → kept r ≡ true) → (v : ℕ) → is_constant (rank kept v) ≡ is_constant v
  rank-constant low v =
      elim (dec_lt v constants) [
        | yes h ↦ ap is_constant (rank-id v (λ r l. low r (omega arith)))
        | no h ↦
            rw (
              le-ltb v constants (omega arith),
              le-ltb (rank kept v) constants (omega (arith, rank-id constants low, rank_mono constants v (omega arith))),
            )
      ]

  -- and a gate counts if it did
  pub rank-counted : ((r : ℕ) → r < constants → kept r ≡ true) → (g : Gate) → is_counted (rename_gate (rank kept) g) ≡ is_counted g
  rank-counted low g = rw (rank-constant low g.left, rank-constant low g.right)

  pub rank-le : (n : ℕ) → rank kept n ≤ n
  rank-le zero = omega (arith, rank-none)
  rank-le (suc n) = go (kept n) refl (rank-le n)
    where
      go : (b : Bool) → kept n ≡ b → rank kept n ≤ n → rank kept (suc n) ≤ suc n
      go true e h = omega (arith, rank-suc n e)
      go false e h = omega (arith, rank_same n e)

  -- ---- the gates that are kept: steps of a loop that has come to gate i, reference n + i

  module _ (n : ℕ) (gs : List Gate) (i : ℕ) (g : Gate) (e : drop i gs ≡ g ∷ drop (i + 1) gs) where
    pub keep-kept : kept (n + i) ≡ true → keep_gates kept (n + i) (drop i gs) ≡ rename_gate (rank kept) g ∷ keep_gates kept (n + (i + 1)) (drop (i + 1) gs)
    unfolding keep_gates
    keep-kept k =
        let s : n + (i + 1) ≡ suc (n + i) = omega arith in
        rw (e, s, k)

    pub keep-gone : kept (n + i) ≡ false → keep_gates kept (n + i) (drop i gs) ≡ keep_gates kept (n + (i + 1)) (drop (i + 1) gs)
    unfolding keep_gates
    keep-gone k =
        let s : n + (i + 1) ≡ suc (n + i) = omega arith in
        rw (e, s, k)

  pub keep-end : (n : ℕ) (gs : List Gate) (i : ℕ) → length gs ≤ i → keep_gates kept (n + i) (drop i gs) ≡ []
  unfolding keep_gates
  keep-end n gs i h = rw (drop_of_length-le gs h)

  -- ---- how many gates are kept

  pub keep-count : (n : ℕ) (gs : List Gate) → rank kept n + length (keep_gates kept n gs) ≡ rank kept (n + length gs)
  unfolding keep_gates
  keep-count n [] = rw (add-zero n) (add-zero (rank kept n))
  keep-count n (g ∷ gs) = go (kept n) refl (keep-count (suc n) gs)
    where
      go : (b : Bool) → kept n ≡ b → rank kept (suc n) + length (keep_gates kept (suc n) gs) ≡ rank kept (suc n + length gs)
          → rank kept n + length (keep_gates kept n (g ∷ gs)) ≡ rank kept (n + suc (length gs))
      go true e ih = let q : n + suc (length gs) ≡ suc n + length gs = omega arith in rw (e, q, ← ih, rank-suc n e) (omega arith)
      go false e ih = let q : n + suc (length gs) ≡ suc n + length gs = omega arith in rw (e, q, ← ih, rank_same n e)

  pub keep-length : (n : ℕ) (gs : List Gate) → length (keep_gates kept n gs) ≤ length gs
  unfolding keep_gates
  keep-length n [] = omega arith
  keep-length n (g ∷ gs) = go (kept n) (keep-length (suc n) gs)
    where
      go : (b : Bool) → length (keep_gates kept (suc n) gs) ≤ length gs
          → length (first b (rename_gate (rank kept) g ∷ keep_gates kept (suc n) gs) (keep_gates kept (suc n) gs)) ≤ suc (length gs)
      go true h = omega arith
      go false h = omega arith

  -- ---- what holds of each gate that is kept, under its new number, holds of the gates kept; and the other way round

  module _ (Q : ℕ → Gate → Type 0) where
    abbrev Keeps : ℕ → Gate → Type 0
    Keeps m g = kept m ≡ true → Q (rank kept m) (rename_gate (rank kept) g)

    pub each_keep : (n : ℕ) (gs : List Gate) → EachGate Keeps n gs → EachGate Q (rank kept n) (keep_gates kept n gs)
    unfolding keep_gates
    each_keep n [] a = tt
    each_keep n (g ∷ gs) a = go (kept n) refl (each_keep (suc n) gs a.1)
      where
        go : (b : Bool) → kept n ≡ b → EachGate Q (rank kept (suc n)) (keep_gates kept (suc n) gs) → EachGate Q (rank kept n) (keep_gates kept n (g ∷ gs))
        go true e x = rw e (a.0 e, rw (rank-suc n e) at x)
        go false e x = rw e (rw (rank_same n e) at x)

    pub each-unkeep : (n : ℕ) (gs : List Gate) → EachGate Q (rank kept n) (keep_gates kept n gs) → EachGate Keeps n gs
    unfolding keep_gates
    each-unkeep n [] a = tt
    each-unkeep n (g ∷ gs) a = go (kept n) refl (each-unkeep (suc n) gs)
      where
        go : (b : Bool) → kept n ≡ b → (EachGate Q (rank kept (suc n)) (keep_gates kept (suc n) gs) → EachGate Keeps (suc n) gs) → EachGate Keeps n (g ∷ gs)
        go true e ih = let x = rw e at a in (λ z. x.0, ih (rw (rank-suc n e) x.1))
        go false e ih = let x = rw e at a in (λ z. absurd (true≢false (sym z ∙ e)), ih (rw (rank_same n e) x))

  pub count-keep : (p p' : ℕ → Gate → Bool) (n : ℕ) (gs : List Gate)
      → EachGate (λ m g. (kept m ≡ true → p' (rank kept m) (rename_gate (rank kept) g) ≡ p m g) × (kept m ≡ false → p m g ≡ false)) n gs
      → count_gates p' (rank kept n) (keep_gates kept n gs) ≡ count_gates p n gs
  unfolding count_gates keep_gates
  count-keep p p' n [] a = refl
  count-keep p p' n (g ∷ gs) a = go (kept n) refl (count-keep p p' (suc n) gs a.1)
    where
      go : (b : Bool) → kept n ≡ b → count_gates p' (rank kept (suc n)) (keep_gates kept (suc n) gs) ≡ count_gates p (suc n) gs
          → count_gates p' (rank kept n) (keep_gates kept n (g ∷ gs)) ≡ count_gates p n (g ∷ gs)
      go true e ih = rw (e, a.0.0 e, ← (rank-suc n e), ih)
      go false e ih = rw (e, a.0.1 e, ← (rank_same n e), ih)

  -- ---- values

  -- the operands of a gate that is kept are kept
  abbrev pub Closed : ℕ → List Gate → Type 0
  Closed = EachGate (λ m g. kept m ≡ true → (kept g.left ≡ true) × (kept g.right ≡ true))

  pub keep-ordered : (n : ℕ) (gs : List Gate) → Ordered n gs → Closed n gs → Ordered (rank kept n) (keep_gates kept n gs)
  keep-ordered n gs low cl =
      each_keep _ n gs (each-zip n gs low cl (λ m g h l c e. (rank_lt g.left m (c e).0 l.0, rank_lt g.right m (c e).1 l.1)))

  -- every operation gives a reference that is kept, under its new number, the value that it had
  pub keep-value : {A : Type 0} (op : ℕ → A → A → A) (z : A) (n : ℕ) (gs : List Gate) (vs : List A) → length vs ≡ n
      → ((r : ℕ) → r < n → kept r ≡ true) → Ordered n gs → Closed n gs
      → (r : ℕ) → r < n + length gs → kept r ≡ true
      → get_or (fold_gates op z (keep_gates kept n gs) vs) (rank kept r) z ≡ get_or (fold_gates op z gs vs) r z
  keep-value {A} op z n gs vs e low ord cl =
      let v' : ℕ → A = λ r. get_or (fold_gates op z (keep_gates kept n gs) vs) r z in
      simulation A op (λ r. kept r ≡ true) (rank kept) (λ r. get_or (fold_gates op z gs vs) r z) v' n gs ord (fold-solves _ op z gs vs n e ord)
      (each-zip n gs cl (each-unkeep (λ m g. v' m ≡ op g.kind (v' g.left) (v' g.right)) n gs
      (fold-solves _ op z (keep_gates kept n gs) vs (rank kept n) (e ∙ sym (rank-id n low)) (keep-ordered n gs ord cl)))
      (λ m g h c s w. ((c w).0, (c w).1, s w)))
      (λ r h w.
      rw (
        rank-id r (λ q l. low q (omega arith)),
        each-front (gate_value op z) gs vs r z (omega arith),
        each-front (gate_value op z) (keep_gates kept n gs) vs r z (omega arith),
      ))

  -- where all are kept, nothing changes
  pub keep_all : (n : ℕ) (gs : List Gate) → Ordered n gs → ((r : ℕ) → r < n → kept r ≡ true) → EachGate (λ m g. kept m ≡ true) n gs → keep_gates kept n gs ≡ gs
  unfolding keep_gates
  keep_all n [] ord low a = refl
  keep_all n (g ∷ gs) ord low a =
      rw a.0
      (ap₂ ◌∷◌ (ap₂ (λ l r. record { kind = g.kind; left = l; right = r }) (same g.left ord.0.0) (same g.right ord.0.1))
      (keep_all (suc n) gs ord.1 more a.1))
    where
      same : (r : ℕ) → r < n → rank kept r ≡ r
      same r h = rank-id r (λ q l. low q (omega arith))

      more : (r : ℕ) → r < suc n → kept r ≡ true
      more r h = elim (dec_lt r n) [ yes l ↦ low r l | no l ↦ let e : r ≡ n = omega arith in rw e a.0 ]
