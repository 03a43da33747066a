-- Which references are gates, and what holds of a gate by its reference, and of its operands. Assumes nothing.
use mathlib.Core.Path.{◌≡◌, refl}
use mathlib.Core.Bool.{Bool, true, false, ◌||◌}
use Prim.Native.Nat.{ℕ, ◌+◌, ◌-◌, ◌≤◌, ◌<◌}
use native.Mathlib.Omega.{arith}
use lib.Dec.{eqb, leb, ltb}
use borrow.Author.Tests.{eqb-true, le-leb, lt-leb, leb-true, lt-ltb, le-ltb, ltb-true}
use Rattle.lists.proofs.Tests.{both, left-of, right_of}
use Rattle.circuit.specs.Circuit.{Gate, Circuit, first_gate, references, gate_at}
use Rattle.circuit.specs.Each.{EachGate}
use Rattle.circuit.specs.Valuation.{Ordered}
use Rattle.circuit.specs.Path.{is_gate, is_operand}
use Rattle.circuit.proofs.EachLaws.{each_at}

module _ (c : Circuit) (v : ℕ) where
  pub is-gate : first_gate c.inputs ≤ v → v < references c → is_gate c v ≡ true
  is-gate h k = both {a = leb (first_gate c.inputs) v} (le-leb _ _ h) (lt-ltb _ _ k)

  pub gate-low : v < first_gate c.inputs → is_gate c v ≡ false
  gate-low h = rw (lt-leb (first_gate c.inputs) v h)

  pub gate-high : references c ≤ v → is_gate c v ≡ false
  gate-high h = rw (le-leb (first_gate c.inputs) v (omega arith), le-ltb v (references c) h)

  module _ (e : is_gate c v ≡ true) where
    pub gate-from : first_gate c.inputs ≤ v
    gate-from = leb-true _ _ (left-of (leb (first_gate c.inputs) v) (ltb v (references c)) e)

    pub gate-to : v < references c
    gate-to = ltb-true _ _ (right_of (leb (first_gate c.inputs) v) (ltb v (references c)) e)

    -- what holds of each gate holds of this one
    pub at-gate : (P : ℕ → Gate → Type 0) → EachGate P (first_gate c.inputs) c.gates → P v (gate_at c v)
    at-gate P a =
        let n = first_gate c.inputs in
        let s : n + (v - n) ≡ v = omega (arith, gate-from) in
        rw s at (each_at P n c.gates a (v - n) (omega (arith, gate-from, gate-to)))

    pub operands-below-gate : Ordered (first_gate c.inputs) c.gates → ((gate_at c v).left < v) × ((gate_at c v).right < v)
    operands-below-gate = at-gate (λ m g. (g.left < m) × (g.right < m))

-- what holds of both operands
pub operand_cases : (P : ℕ → Type 0) (g : Gate) → P g.left → P g.right → (r : ℕ) → is_operand r g ≡ true → P r
operand_cases P g pl pr r h = go (eqb r g.left) refl h
  where
    go : (x : Bool) → eqb r g.left ≡ x → (x || eqb r g.right) ≡ true → P r
    go true e h = rw (eqb-true r g.left e) pl
    go false e h = rw (eqb-true r g.right h) pr
