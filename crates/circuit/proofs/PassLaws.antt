-- The backward pass as loops run it. Assumes nothing.
use mathlib.Core.Path.{◌≡◌, refl, sym, ap, ap₂, ◌∙◌}
use mathlib.Core.Logic.{◌≢◌}
use mathlib.Core.Bool.{Bool, true, false}
use mathlib.Core.List.{List, [], ◌∷◌}
use Prim.Native.Nat.{ℕ, zero, suc, ◌+◌, ◌≤◌, ◌<◌, max}
use native.Mathlib.Nat.{add-zero}
use native.Mathlib.Decide.{dec_lt}
use native.Mathlib.Omega.{arith}
use lib.Dec.{eqb}
use lib.ListN.{length, take, drop, get_or, set, replicate, length-take, length-set, drop_of_length-le}
use lib.Seq.{get_or-take, set_out, drop-set-lt}
use borrow.Author.Tests.{eq-eqb, ne_eqb}
use Rattle.lists.specs.First.{first}
use Rattle.lists.proofs.Maps.{take-set}
use Rattle.circuit.specs.Circuit.{Gate}
use Rattle.circuit.specs.Valuation.{Ordered}
use Rattle.circuit.specs.Depth.{plus_counted}
use Rattle.circuit.specs.ReverseDepth.{mark_outputs, raise, raise_operands, raise_gates}

-- ---- loops

-- a loop over the outputs that has come to output i
pub mark-more : (os d₀ d : List ℕ) (i o : ℕ) → drop i os ≡ o ∷ drop (i + 1) os → mark_outputs (drop i os) d ≡ mark_outputs os d₀
    → mark_outputs (drop (i + 1) os) (set d o 1) ≡ mark_outputs os d₀
unfolding mark_outputs
mark-more os d₀ d i o e h = rw e at h

pub mark-end : (os d₀ d : List ℕ) (i : ℕ) → length os ≤ i → mark_outputs (drop i os) d ≡ mark_outputs os d₀ → d ≡ mark_outputs os d₀
unfolding mark_outputs
mark-end os d₀ d i n h = rw (drop_of_length-le os n) at h

-- a loop over the gates from the last to the first, which has done those from i on, and now does the one before
pub raise-none : (n : ℕ) (gs : List Gate) (d : List ℕ) (i : ℕ) → length gs ≤ i → d ≡ raise_gates (n + i) (drop i gs) d
unfolding raise_gates
raise-none n gs d i h = rw (drop_of_length-le gs h)

pub raise-more : (n : ℕ) (gs : List Gate) (d₀ d : List ℕ) (i j : ℕ) (g : Gate) → i ≡ j + 1 → drop j gs ≡ g ∷ drop (j + 1) gs
    → d ≡ raise_gates (n + i) (drop i gs) d₀ → raise_operands (n + j) g d ≡ raise_gates (n + j) (drop j gs) d₀
unfolding raise_gates
raise-more n gs d₀ d i j g q e h =
    let s : n + i ≡ suc (n + j) = omega arith in
    rw e (ap (raise_operands (n + j) g) (h ∙ ap₂ (λ k l. raise_gates k (drop l gs) d₀) s q))

pub raise-end : (n : ℕ) (gs : List Gate) (d₀ d : List ℕ) (i : ℕ) → i ≡ 0 → d ≡ raise_gates (n + i) (drop i gs) d₀ → d ≡ raise_gates n gs d₀
raise-end n gs d₀ d i q h =
    let s : n + i ≡ n = omega arith in
    h ∙ ap₂ (λ k l. raise_gates k (drop l gs) d₀) s q

-- the cases of one gate
pub raise-dead : (n : ℕ) (g : Gate) (d : List ℕ) → get_or d n 0 ≡ 0 → raise_operands n g d ≡ d
unfolding raise_operands
raise-dead n g d e = rw (eq-eqb (get_or d n 0) 0 e)

pub raise-live : (n : ℕ) (g : Gate) (d : List ℕ) → get_or d n 0 ≢ 0
    → raise_operands n g d ≡ raise (raise d g.left (plus_counted g (get_or d n 0))) g.right (plus_counted g (get_or d n 0))
unfolding raise_operands
raise-live n g d e = rw (ne_eqb (get_or d n 0) 0 e)

-- ---- a gate in a longer array, seen by one who looks at the first k places, or at those from k on

raise-at-take : (k : ℕ) (d : List ℕ) (v x : ℕ) → take k (raise d v x) ≡ raise (take k d) v x
raise-at-take k d v x =
    take-set k d v (max (get_or d v 0) x)
    ∙ elim (dec_lt v k) [
      | yes l ↦ ap (λ y. set (take k d) v (max y x)) (sym (get_or-take k d v 0 l))
      | no l ↦
          let b : length (take k d) ≤ v = omega (arith, length-take k d) in
          set_out (take k d) v (max (get_or d v 0) x) b ∙ sym (set_out (take k d) v (max (get_or (take k d) v 0) x) b)
    ]

pub operands-take : (k n : ℕ) (g : Gate) (d : List ℕ) → n < k → take k (raise_operands n g d) ≡ raise_operands n g (take k d)
unfolding raise_operands
operands-take k n g d h = rw (get_or-take k d n 0 h) (go (eqb (get_or d n 0) 0) (plus_counted g (get_or d n 0)))
  where
    go : (b : Bool) (x : ℕ) → take k (first b d (raise (raise d g.left x) g.right x)) ≡ first b (take k d) (raise (raise (take k d) g.left x) g.right x)
    go true x = refl
    go false x = raise-at-take k (raise d g.left x) g.right x ∙ ap (λ e. raise e g.right x) (raise-at-take k d g.left x)

pub operands-drop : (k n : ℕ) (g : Gate) (d : List ℕ) → g.left < k → g.right < k → drop k (raise_operands n g d) ≡ drop k d
unfolding raise_operands
operands-drop k n g d l r = go (eqb (get_or d n 0) 0) (plus_counted g (get_or d n 0))
  where
    go : (b : Bool) (x : ℕ) → drop k (first b d (raise (raise d g.left x) g.right x)) ≡ drop k d
    go true x = refl
    go false x = drop-set-lt k (raise d g.left x) g.right _ r ∙ drop-set-lt k d g.left _ l

-- when a gate's turn comes, what is above it is settled: the gates up to it raise only places below it
pub raise-settled : (n : ℕ) (gs : List Gate) (d : List ℕ) (i k : ℕ) → Ordered n gs → n + i ≤ k + 1
    → drop k (raise_gates n gs d) ≡ drop k (raise_gates (n + i) (drop i gs) d)
unfolding raise_gates
raise-settled n gs d zero k low h = rw add-zero
raise-settled n [] d (suc i) k low h = refl
raise-settled n (g ∷ gs) d (suc i) k low h =
    let s : suc n + i ≡ n + suc i = omega arith in
    operands-drop k n g (raise_gates (suc n) gs d) (omega (arith, low.0)) (omega (arith, low.0))
    ∙ raise-settled (suc n) gs d i k low.1 (omega arith) ∙ ap (λ m. drop k (raise_gates m (drop i gs) d)) s

-- ---- lengths and bounds

pub mark-length : (os d : List ℕ) → length (mark_outputs os d) ≡ length d
unfolding mark_outputs
mark-length [] d = refl
mark-length (o ∷ os) d = mark-length os (set d o 1) ∙ length-set d o 1

pub operands-length : (n : ℕ) (g : Gate) (d : List ℕ) → length (raise_operands n g d) ≡ length d
unfolding raise_operands
operands-length n g d = go (eqb (get_or d n 0) 0) (plus_counted g (get_or d n 0))
  where
    go : (b : Bool) (x : ℕ) → length (first b d (raise (raise d g.left x) g.right x)) ≡ length d
    go true x = refl
    go false x = simp length-set

pub raise-length : (n : ℕ) (gs : List Gate) (d : List ℕ) → length (raise_gates n gs d) ≡ length d
unfolding raise_gates
raise-length n [] d = refl
raise-length n (g ∷ gs) d = operands-length n g (raise_gates (suc n) gs d) ∙ raise-length (suc n) gs d

pub zeros-at : (n v : ℕ) → get_or (replicate {A = ℕ} n 0) v 0 ≡ 0
zeros-at zero v = refl
zeros-at (suc n) zero = refl
zeros-at (suc n) (suc v) = zeros-at n v
