-- Which references gates use, by the gates' numbers. Assumes nothing.
use mathlib.Core.Path.{◌≡◌, refl, sym, ap, ◌∙◌}
use mathlib.Core.Logic.{inl, inr}
use mathlib.Core.Bool.{Bool, true, false, true≢false, ◌||◌, or-true, or-false, or_assoc}
use mathlib.Core.List.{List, [], ◌∷◌, ◌++◌}
use Prim.Native.Nat.{ℕ, zero, suc, ◌+◌, ◌≤◌, ◌<◌}
use native.Mathlib.Nat.{not-suc-le-zero}
use native.Mathlib.Omega.{arith}
use lib.Dec.{eqb}
use lib.ListN.{length, take, drop, get_or, length-drop}
use lib.Seq.{take-suc, drop-cons, get_or-take, get_or-drop, length-take-le}
use borrow.Author.Tests.{eqb-true}
use Rattle.lists.proofs.Tests.{one_of}
use Rattle.circuit.specs.Circuit.{Gate, Circuit, no_gate}
use Rattle.circuit.specs.Path.{is_operand, is_used}
use Rattle.translator.specs.LiveRange.{is_used_before}

pub used-append : (v : ℕ) (gs hs : List Gate) → is_used v (gs ++ hs) ≡ is_used v gs || is_used v hs
unfolding is_used
used-append v [] hs = refl
used-append v (g ∷ gs) hs =
    ap (λ b. is_operand v g || b) (used-append v gs hs) ∙ sym (or_assoc (is_operand v g) (is_used v gs) (is_used v hs))

module _ (v : ℕ) (gs : List Gate) (i : ℕ) (h : i < length gs) where
  -- one gate more before, one fewer behind
  pub used-take : is_used v (take (suc i) gs) ≡ is_used v (take i gs) || is_operand v (get_or gs i no_gate)
  unfolding is_used
  used-take =
      ap (is_used v) (take-suc gs i no_gate h) ∙ used-append v (take i gs) (get_or gs i no_gate ∷ [])
      ∙ ap (λ b. is_used v (take i gs) || b) (or-false (is_operand v (get_or gs i no_gate)))

  pub used-drop : is_used v (drop i gs) ≡ is_operand v (get_or gs i no_gate) || is_used v (drop (suc i) gs)
  unfolding is_used
  used-drop = ap (is_used v) (drop-cons gs i no_gate h)

-- gate i is among the gates from gate j on
pub used-at : (v : ℕ) (gs : List Gate) (j i : ℕ) → j ≤ i → i < length gs → is_operand v (get_or gs i no_gate) ≡ true → is_used v (drop j gs) ≡ true
unfolding is_used
used-at v [] j i l h e = absurd (not-suc-le-zero h)
used-at v (g ∷ gs) zero zero l h e = rw e
used-at v (g ∷ gs) zero (suc i) l h e = rw (used-at v gs zero i (omega arith) (omega arith) e, or-true)
used-at v (g ∷ gs) (suc j) zero l h e = absurd (not-suc-le-zero l)
used-at v (g ∷ gs) (suc j) (suc i) l h e = used-at v gs j i (omega arith) (omega arith) e

-- what a gate uses is below it
pub operand_below : (v n : ℕ) (g : Gate) → (g.left < n) × (g.right < n) → is_operand v g ≡ true → v < n
operand_below v n g l e = go (eqb v g.left) refl
  where
    go : (b : Bool) → eqb v g.left ≡ b → v < n
    go true q = rw (eqb-true v g.left q) l.0
    go false q = let r : eqb v g.right ≡ true = rw q at e in rw (eqb-true v g.right r) l.1

-- ---- the gate that uses it

used-by : (v : ℕ) (gs : List Gate) → is_used v gs ≡ true → (j : ℕ) × (j < length gs) × (is_operand v (get_or gs j no_gate) ≡ true)
unfolding is_used
used-by v [] e = absurd (true≢false (sym e))
used-by v (g ∷ gs) e =
    elim (one_of (is_operand v g) (is_used v gs) e) [
      | inl q ↦ (0, omega arith, q)
      | inr q ↦ let (j, l, u) = used-by v gs q in (suc j, omega arith, u)
    ]

pub used-before : (c : Circuit) (i v : ℕ) → i ≤ length c.gates → is_used_before c i v ≡ true
    → (j : ℕ) × (j < i) × (is_operand v (get_or c.gates j no_gate) ≡ true)
used-before c i v h e =
    let (j, l, u) = used-by v (take i c.gates) e in
    let k : j < i = omega (arith, length-take-le i c.gates h) in
    (j, k, ap (is_operand v) (sym (get_or-take i c.gates j no_gate k)) ∙ u)

pub used-later : (c : Circuit) (i v : ℕ) → is_used v (drop i c.gates) ≡ true
    → (j : ℕ) × (i ≤ j) × (j < length c.gates) × (is_operand v (get_or c.gates j no_gate) ≡ true)
used-later c i v e =
    let (j, l, u) = used-by v (drop i c.gates) e in
    (i + j, omega arith, omega (arith, length-drop i c.gates), ap (is_operand v) (sym (get_or-drop i c.gates j no_gate)) ∙ u)
