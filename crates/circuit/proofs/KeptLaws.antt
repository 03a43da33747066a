-- Which gates are kept, and where each of them comes to stand. Assumes nothing.
use mathlib.Core.Path.{◌≡◌, refl, sym, ap, ◌∙◌}
use mathlib.Core.Bool.{Bool, true, false}
use mathlib.Core.List.{List, [], ◌∷◌}
use Prim.Native.Nat.{ℕ, zero, suc, ◌+◌, ◌≤◌, ◌<◌}
use native.Mathlib.Nat.{add-zero, not-suc-le-zero, le_of_suc-le-suc}
use native.Mathlib.Omega.{arith}
use lib.ListN.{length, get_or}
use borrow.Author.Tests.{le-ltb}
use Rattle.lists.specs.First.{first}
use Rattle.circuit.specs.Circuit.{Gate, Circuit, first_gate, no_gate}
use Rattle.circuit.specs.Each.{count_gates}
use Rattle.circuit.specs.ReverseDepth.{is_live}
use Rattle.circuit.specs.Trim.{rename_gate, rank, keep_gates, is_kept}
use Rattle.circuit.proofs.RankLaws.{rank-suc, rank_same, rank_mono}

-- a gate is kept exactly if it is live
pub gate-kept : (c : Circuit) (v : ℕ) → first_gate c.inputs ≤ v → is_kept c v ≡ is_live c v
gate-kept c v h = rw (le-ltb v (first_gate c.inputs) h)

pub live-count : (c : Circuit) (n : ℕ) (gs : List Gate) → first_gate c.inputs ≤ n → length (keep_gates (is_kept c) n gs) ≡ count_gates (λ v g. is_live c v) n gs
unfolding keep_gates count_gates
live-count c n [] h = refl
live-count c n (g ∷ gs) h =
    ap (λ b. length (first b (rename_gate (rank (is_kept c)) g ∷ keep_gates (is_kept c) (suc n) gs) (keep_gates (is_kept c) (suc n) gs))) (gate-kept c n h)
    ∙ go (is_live c n) (live-count c (suc n) gs (omega arith))
  where
    go : (b : Bool) → length (keep_gates (is_kept c) (suc n) gs) ≡ count_gates (λ v g. is_live c v) (suc n) gs
        → length (first b (rename_gate (rank (is_kept c)) g ∷ keep_gates (is_kept c) (suc n) gs) (keep_gates (is_kept c) (suc n) gs))
        ≡ first b (1 + count_gates (λ v g. is_live c v) (suc n) gs) (count_gates (λ v g. is_live c v) (suc n) gs)
    go true e = omega (arith, e)
    go false e = e

-- gate i of those from reference n on, where it is kept, stands behind the k before it that are kept
pub keep_at : (kept : ℕ → Bool) (n : ℕ) (gs : List Gate) (i k : ℕ) → i < length gs → kept (n + i) ≡ true → rank kept (n + i) ≡ rank kept n + k
    → get_or (keep_gates kept n gs) k no_gate ≡ rename_gate (rank kept) (get_or gs i no_gate)
unfolding keep_gates
keep_at kept n [] i k h e r = absurd (not-suc-le-zero h)
keep_at kept n (g ∷ gs) zero k h e r =
    let e' : kept n ≡ true = ap kept (sym (add-zero n)) ∙ e in
    let z : k ≡ 0 = omega (arith, ap (rank kept) (add-zero n)) in
    rw (e', z)
keep_at kept n (g ∷ gs) (suc i) k h e r =
    go (kept n) refl (keep_at kept (suc n) gs i)
  where
    s : n + suc i ≡ suc n + i
    s = omega arith

    go : (b : Bool) → kept n ≡ b
        → ((k : ℕ) → i < length gs → kept (suc n + i) ≡ true → rank kept (suc n + i) ≡ rank kept (suc n) + k
        → get_or (keep_gates kept (suc n) gs) k no_gate ≡ rename_gate (rank kept) (get_or gs i no_gate))
        → get_or (first b (rename_gate (rank kept) g ∷ keep_gates kept (suc n) gs) (keep_gates kept (suc n) gs)) k no_gate ≡ rename_gate (rank kept) (get_or gs i no_gate)
    go true q ih = at k refl
      where
        at : (j : ℕ) → k ≡ j → get_or (rename_gate (rank kept) g ∷ keep_gates kept (suc n) gs) j no_gate ≡ rename_gate (rank kept) (get_or gs i no_gate)
        at zero z = absurd (omega (arith, rank-suc kept n q, rank_mono kept (suc n) (suc n + i) (omega arith), ap (rank kept) s))
        at (suc j) z = ih j (le_of_suc-le-suc h) (ap kept (sym s) ∙ e) (omega (arith, rank-suc kept n q, ap (rank kept) s))
    go false q ih = ih k (le_of_suc-le-suc h) (ap kept (sym s) ∙ e) (omega (arith, rank_same kept n q, ap (rank kept) s))
