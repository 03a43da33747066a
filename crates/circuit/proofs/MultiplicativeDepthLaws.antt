-- Depth by source 003's equation: a gate's contribution plus the larger of its operands' depths. Assumes nothing.
use mathlib.Core.Path.{◌≡◌, refl, sym, ap₂, ◌∙◌}
use mathlib.Core.Bool.{Bool, true, false, true≢false}
use mathlib.Core.List.{List}
use Prim.Native.Nat.{ℕ, zero, suc, ◌+◌, ◌-◌, ◌≤◌, ◌<◌, max}
use native.Mathlib.Decide.{dec_lt}
use native.Mathlib.Nat.{not-suc-le-zero}
use native.Mathlib.Omega.{arith}
use lib.ListN.{take, get_or, get_or-eq_default}
use lib.Seq.{get_or-take}
use Rattle.lists.specs.First.{first}
use Rattle.lists.proofs.First.{first_either}
use Rattle.lists.proofs.Each.{each-length, each-front, each-value}
use Rattle.circuit.specs.Circuit.{Gate, Circuit, first_gate, references, no_gate, gate_at}
use Rattle.circuit.specs.Valuation.{Ordered}
use Rattle.circuit.specs.Depth.{is_counted, plus_counted, gate_depth, start_levels, depths, depth}
use Rattle.circuit.specs.Path.{is_gate}
use Rattle.circuit.specs.MultiplicativeDepth.{contribution, depth_within}
use Rattle.circuit.specs.Theorems.{DepthOfGate, DepthIsMultiplicative}
use Rattle.circuit.proofs.GateLaws.{is-gate, gate-from, gate-to, operands-below-gate}
use Rattle.circuit.proofs.StartLaws.{start-length}

pub contribution-le : (g : Gate) → contribution g ≤ 1
contribution-le g = first_either (λ x. x ≤ 1) (is_counted g) (omega arith) (omega arith)

pub plus-contribution : (g : Gate) (x : ℕ) → plus_counted g x ≡ contribution g + x
plus-contribution g x = go (is_counted g)
  where
    go : (b : Bool) → first b (x + 1) x ≡ first b 1 0 + x
    go true = omega arith
    go false = omega arith

-- a gate's depth from an array whose first k places are known
pub depth-read : (g : Gate) (k : ℕ) (d : List ℕ) → g.left < k → g.right < k → gate_depth g (take k d) ≡ gate_depth g d
depth-read g k d l r = ap₂ (λ a b. plus_counted g (max a b)) (get_or-take k d g.left 0 l) (get_or-take k d g.right 0 r)

pub depth-of-gate : DepthOfGate
unfolding depths
depth-of-gate c low v e =
    let n = first_gate c.inputs in
    let g = gate_at c v in
    let (l, r) = operands-below-gate c v e low in
    each-value gate_depth c.gates (start_levels c) v (v - n) no_gate 0 (omega (arith, start-length c, gate-from c v e)) (omega (arith, gate-from c v e, gate-to c v e))
    ∙ depth-read g v (depths c) l r ∙ plus-contribution g (max (depth c g.left) (depth c g.right))

-- what is no gate has its starting level, and beyond the circuit both are 0
pub depth-of-start : (c : Circuit) (v : ℕ) → is_gate c v ≡ false → get_or (start_levels c) v 0 ≡ depth c v
unfolding depths
depth-of-start c v e =
    let long = each-length gate_depth c.gates (start_levels c) in
    elim (dec_lt v (first_gate c.inputs)) [
      | yes l ↦ sym (each-front gate_depth c.gates (start_levels c) v 0 (omega (arith, start-length c)))
      | no l ↦
          elim (dec_lt v (references c)) [
            | yes h ↦ absurd (true≢false (sym (is-gate c v (omega arith) h) ∙ e))
            | no h ↦
                get_or-eq_default (start_levels c) 0 (omega (arith, start-length c))
                ∙ sym (get_or-eq_default (depths c) 0 (omega (arith, long, start-length c)))
          ]
    ]

module _ (c : Circuit) (low : Ordered (first_gate c.inputs) c.gates) where
  within : (steps v : ℕ) → v < steps → depth_within steps c v ≡ depth c v
  unfolding depth_within
  within zero v h = absurd (not-suc-le-zero h)
  within (suc steps) v h = go (is_gate c v) refl (λ w l. within steps w l)
    where
      go : (b : Bool) → is_gate c v ≡ b → ((w : ℕ) → w < steps → depth_within steps c w ≡ depth c w) → depth_within (suc steps) c v ≡ depth c v
      go true e ih =
          let (l, r) = operands-below-gate c v e low in
          rw e (omega (arith, ih (gate_at c v).left (omega arith), ih (gate_at c v).right (omega arith), depth-of-gate c low v e))
      go false e ih = rw e (depth-of-start c v e)

pub depth-is-multiplicative : DepthIsMultiplicative
depth-is-multiplicative c low v = within c low (suc v) v (omega arith)
