-- What the translator is told of a trimmed circuit. Assumes nothing.
use mathlib.Core.Path.{◌≡◌, refl, subst}
use mathlib.Core.Bool.{true, ◌&&◌, or-true}
use mathlib.Core.List.{List, [], ◌∷◌}
use Prim.Native.Nat.{ℕ, zero, suc, ◌+◌, ◌-◌, ◌<◌}
use native.Mathlib.Omega.{arith}
use lib.ListN.{length, get_or}
use borrow.Author.Tests.{ltb-true}
use Rattle.lists.proofs.Tests.{left-of, right_of}
use Rattle.circuit.specs.Circuit.{Circuit, first_gate, no_gate, gate_at}
use Rattle.circuit.specs.Table.{decode}
use Rattle.circuit.specs.WellFormed.{WellFormed}
use Rattle.circuit.specs.Path.{is_gate, is_operand, is_path}
use Rattle.circuit.specs.ReverseDepth.{reverse_depth, is_live}
use Rattle.circuit.specs.Trim.{trim}
use Rattle.circuit.proofs.EachLaws.{each_at}
use Rattle.circuit.proofs.GateLaws.{gate-from, gate-to}
use Rattle.circuit.proofs.ValidLaws.{Valid, valid-decode}
use Rattle.circuit.proofs.PathLaws.{path-of}
use Rattle.circuit.proofs.TrimLaws.{trim-valid, trim-live}
use Rattle.translator.specs.LiveRange.{is_used_from}
use Rattle.translator.proofs.UseLaws.{used-at, operand_below}

-- a valid circuit in which each gate is used by a later one or an output
pub record Trimmed (c : Circuit) : Type 0 where
  pub valid : Valid c
  pub used : (i : ℕ) → i < length c.gates → is_used_from c (suc i) (first_gate c.inputs + i) ≡ true

-- ---- a trimmed table's circuit is such a one

module _ (c : Circuit) (ok : Valid c) where
  pub operands-low : (i : ℕ) → i < length c.gates
      → ((get_or c.gates i no_gate).left < first_gate c.inputs + i) × ((get_or c.gates i no_gate).right < first_gate c.inputs + i)
  operands-low i h = each_at _ (first_gate c.inputs) c.gates ok.ordered i h

  -- what reaches an output is an output or an operand of a later gate
  path-used : (i : ℕ) (path : List ℕ) → is_path c (first_gate c.inputs + i) path ≡ true → is_used_from c (suc i) (first_gate c.inputs + i) ≡ true
  unfolding is_path
  path-used i [] e = rw (e, or-true)
  path-used i (w ∷ ws) e =
      let n = first_gate c.inputs in
      let v = n + i in
      let gate = left-of (is_gate c w) (is_operand v (gate_at c w) && is_path c w ws) e in
      let uses = left-of (is_operand v (gate_at c w)) (is_path c w ws) (right_of (is_gate c w) (is_operand v (gate_at c w) && is_path c w ws) e) in
      let lo = gate-from c w gate in
      let hi = gate-to c w gate in
      let below : n + i < n + (w - n) = operand_below v (n + (w - n)) (gate_at c w) (operands-low (w - n) (omega arith)) uses in
      rw (used-at v c.gates (suc i) (w - n) (omega arith) (omega arith) uses)

  live-used : (i x : ℕ) → reverse_depth c (first_gate c.inputs + i) ≡ suc x → is_used_from c (suc i) (first_gate c.inputs + i) ≡ true
  live-used i x e = let p = path-of c ok (first_gate c.inputs + i) x e in path-used i p.0 p.1

pub trimmed-of : (t : List ℕ) → WellFormed t → Trimmed (trim (decode t))
trimmed-of t w =
    let c = trim (decode t) in
    let ok = trim-valid (decode t) (valid-decode t w) in
    record {
      valid = ok;
      used = λ i h.
          let live = each_at (λ m g. is_live c m ≡ true) (first_gate c.inputs) c.gates (trim-live (decode t) (valid-decode t w)) i h in
          positive c ok i (reverse_depth c (first_gate c.inputs + i)) refl (ltb-true 0 (reverse_depth c (first_gate c.inputs + i)) live);
    }
  where
    positive : (c : Circuit) (ok : Valid c) (i x : ℕ) → reverse_depth c (first_gate c.inputs + i) ≡ x → 0 < x
        → is_used_from c (suc i) (first_gate c.inputs + i) ≡ true
    positive c ok i zero e h = absurd (omega arith)
    positive c ok i (suc x) e h = live-used c ok i x e

-- a table that trimming leaves as it is
pub trimmed-fixed : (t : List ℕ) → WellFormed t → trim (decode t) ≡ decode t → Trimmed (decode t)
trimmed-fixed t w e = subst Trimmed e (trimmed-of t w)
