-- When values are ready and when they are wanted, from one gate to the next. Assumes nothing.
use mathlib.Core.Path.{◌≡◌, refl, sym, ap, ◌∙◌}
use mathlib.Core.Logic.{◌≢◌}
use mathlib.Core.Bool.{Bool, true, false, not, ◌&&◌, ◌||◌, and-true, and-false, or-true, or-false, or_comm, or_assoc}
use Prim.Native.Nat.{ℕ, suc, ◌+◌, ◌≤◌, ◌<◌}
use native.Mathlib.Decide.{dec_lt, ℕ_discrete}
use native.Mathlib.Omega.{arith}
use lib.Dec.{eqb, ltb}
use lib.ListN.{length, drop, get_or}
use lib.Seq.{drop-length}
use borrow.Author.Tests.{eq-eqb, ne_eqb, lt-ltb, le-ltb}
use Rattle.circuit.specs.Circuit.{Gate, Circuit, first_gate, no_gate}
use Rattle.circuit.specs.Path.{is_output, is_used}
use Rattle.translator.specs.LiveRange.{is_used_before, is_used_from, is_loaded_before, is_computed_before}
use Rattle.translator.specs.Actions.{is_unloaded}
use Rattle.translator.proofs.UseLaws.{used-take, used-drop}
use Rattle.translator.proofs.TrimmedLaws.{Trimmed, operands-low}

-- what has been added is the one or the other, or was there
regroup : (a b u : Bool) → u || (a || b) ≡ b || (a || u)
regroup a b u = or_comm u (a || b) ∙ ap (λ x. x || u) (or_comm a b) ∙ or_assoc b a u

-- neither the one nor the other
pub neither : (a b : Bool) → not b && not a ≡ not (a || b)
neither true b = and-false (not b)
neither false b = and-true (not b)

module _ (c : Circuit) where
  -- loaded before gate j or computed before gate i
  abbrev pub is_ready : (j i v : ℕ) → Bool
  is_ready j i v = is_loaded_before c j v || is_computed_before c i v

  pub ready-input : (j i v : ℕ) → v < first_gate c.inputs → is_ready j i v ≡ is_used_before c j v
  ready-input j i v h = rw (lt-ltb v (first_gate c.inputs) h) (or-false (is_used_before c j v))

  pub ready-gate : (j i v : ℕ) → first_gate c.inputs ≤ v → is_ready j i v ≡ ltb v (first_gate c.inputs + i)
  ready-gate j i v h = rw (le-ltb v (first_gate c.inputs) h)

  pub ready-none : (v : ℕ) → is_ready 0 0 v ≡ false
  unfolding is_used
  ready-none v =
      elim (dec_lt v (first_gate c.inputs)) [
        | yes l ↦ ready-input 0 0 v l
        | no l ↦ ready-gate 0 0 v (omega arith) ∙ le-ltb v (first_gate c.inputs + 0) (omega arith)
      ]

  -- of what is below gate i, the new ones are those that are not ready
  pub unloaded-is : (i v : ℕ) → v < first_gate c.inputs + i → is_unloaded c i v ≡ not (is_ready i i v)
  unloaded-is i v h =
      elim (dec_lt v (first_gate c.inputs)) [
        | yes l ↦ ap (λ b. b && not (is_used_before c i v)) (lt-ltb v (first_gate c.inputs) l) ∙ ap not (sym (ready-input i i v l))
        | no l ↦
            let low : first_gate c.inputs ≤ v = omega arith in
            ap (λ b. b && not (is_used_before c i v)) (le-ltb v (first_gate c.inputs) low)
            ∙ ap not (sym (ready-gate i i v low ∙ lt-ltb v (first_gate c.inputs + i) h))
      ]

  -- behind the last gate only outputs are wanted
  pub wanted-end : (v : ℕ) → is_used_from c (length c.gates) v ≡ is_output c v
  unfolding is_used
  wanted-end v = ap (λ gs. is_used v gs || is_output c v) (drop-length c.gates)

  module _ (k : Trimmed c) (i : ℕ) (h : i < length c.gates) where
    abbrev n : ℕ
    n = first_gate c.inputs

    abbrev g : Gate
    g = get_or c.gates i no_gate

    pub left-low : g.left < n + i
    left-low = (operands-low c k.valid i h).0

    pub right-low : g.right < n + i
    right-low = (operands-low c k.valid i h).1

    pub ready-operands : (v : ℕ) → is_ready (suc i) i v ≡ (eqb v g.right || (eqb v g.left || is_ready i i v))
    ready-operands v =
        elim (dec_lt v n) [
          | yes l ↦
              ready-input (suc i) i v l ∙ used-take v c.gates i h ∙ regroup (eqb v g.left) (eqb v g.right) (is_used_before c i v)
              ∙ ap (λ b. eqb v g.right || (eqb v g.left || b)) (sym (ready-input i i v l))
          | no l ↦
              let low : n ≤ v = omega arith in
              ready-gate (suc i) i v low ∙ same (dec_lt v (n + i))
              ∙ ap (λ b. eqb v g.right || (eqb v g.left || b)) (sym (ready-gate i i v low))
        ]
      where
        same : Dec (v < n + i) → ltb v (n + i) ≡ (eqb v g.right || (eqb v g.left || ltb v (n + i)))
        same (yes l) = rw (lt-ltb v (n + i) l, or-true (eqb v g.left), or-true (eqb v g.right))
        same (no l) =
            let a : v ≢ g.left = λ e. omega (arith, left-low) in
            let b : v ≢ g.right = λ e. omega (arith, right-low) in
            rw (ne_eqb v g.left a, ne_eqb v g.right b)

    pub ready-result : (v : ℕ) → is_ready (suc i) (suc i) v ≡ (eqb v (n + i) || is_ready (suc i) i v)
    ready-result v =
        elim (dec_lt v n) [
          | yes l ↦
              let ne : v ≢ n + i = omega arith in
              ready-input (suc i) (suc i) v l ∙ rw (ne_eqb v (n + i) ne) (sym (ready-input (suc i) i v l))
          | no l ↦
              let low : n ≤ v = omega arith in
              ready-gate (suc i) (suc i) v low ∙ same (ℕ_discrete v (n + i)) (dec_lt v (n + i))
              ∙ ap (λ b. eqb v (n + i) || b) (sym (ready-gate (suc i) i v low))
        ]
      where
        same : Dec (v ≡ n + i) → Dec (v < n + i) → ltb v (n + suc i) ≡ (eqb v (n + i) || ltb v (n + i))
        same (yes e) l = rw (eq-eqb v (n + i) e) (lt-ltb v (n + suc i) (omega arith))
        same (no e) (yes l) = rw (lt-ltb v (n + i) l, or-true (eqb v (n + i))) (lt-ltb v (n + suc i) (omega arith))
        same (no e) (no l) = rw (ne_eqb v (n + i) e, le-ltb v (n + i) (omega arith)) (le-ltb v (n + suc i) (omega arith))

    pub result-new : is_ready (suc i) i (n + i) ≡ false
    result-new = ready-gate (suc i) i (n + i) (omega arith) ∙ le-ltb (n + i) (n + i) (omega arith)

    pub wanted-here : (v : ℕ) → is_used_from c i v ≡ (eqb v g.left || (eqb v g.right || is_used_from c (suc i) v))
    wanted-here v =
        ap (λ b. b || is_output c v) (used-drop v c.gates i h ∙ or_assoc (eqb v g.left) (eqb v g.right) (is_used v (drop (suc i) c.gates)))
        ∙ or_assoc (eqb v g.left) (eqb v g.right || is_used v (drop (suc i) c.gates)) (is_output c v)
        ∙ ap (λ b. eqb v g.left || b) (or_assoc (eqb v g.right) (is_used v (drop (suc i) c.gates)) (is_output c v))

    pub left-wanted : is_used_from c i g.left ≡ true
    left-wanted = wanted-here g.left ∙ rw (eq-eqb g.left g.left refl)

    pub right-wanted : is_used_from c i g.right ≡ true
    right-wanted = wanted-here g.right ∙ rw (eq-eqb g.right g.right refl, or-true)

    -- and ready, once they are loaded
    pub left-ready : is_ready (suc i) i g.left ≡ true
    left-ready = ready-operands g.left ∙ rw (eq-eqb g.left g.left refl, or-true (eqb g.left g.right))

    pub right-ready : is_ready (suc i) i g.right ≡ true
    right-ready = ready-operands g.right ∙ rw (eq-eqb g.right g.right refl)
