-- What each load and each operation keeps is carried along the gates and the loads for outputs. Assumes nothing.
use mathlib.Core.Path.{◌≡◌, refl, sym, ◌∙◌}
use mathlib.Core.Bool.{Bool, true, false, true≢false}
use Prim.Native.Nat.{ℕ, zero, suc, ◌+◌, ◌≤◌, ◌<◌}
use native.Mathlib.Decide.{dec_lt}
use native.Mathlib.Omega.{arith}
use lib.Dec.{eqb}
use lib.ListN.{length, take, get_or}
use borrow.Author.Tests.{lt-ltb}
use Rattle.lists.proofs.Tests.{right-fails}
use Rattle.circuit.specs.Circuit.{Gate, Circuit, first_gate, references, no_gate}
use Rattle.circuit.specs.Path.{is_among, is_output}
use Rattle.translator.specs.LiveRange.{is_used_from}
use Rattle.translator.specs.Need.{need}
use Rattle.translator.specs.Allocation.{Allocation, no_registers, release_operands, loaded, operated}
use Rattle.translator.specs.Allocator.{ensure_loaded, ensure_operands, gate_turn, allocation_after, allocation_before, outputs_loaded}
use Rattle.translator.proofs.TrimmedLaws.{Trimmed}
use Rattle.translator.proofs.ReadyLaws.{is_ready, ready-gate, left-low, right-low, left-wanted, right-wanted, left-ready, right-ready}
use Rattle.translator.proofs.OwnerLaws.{Free, among-element}
use Rattle.translator.proofs.AllocationLaws.{Allocated, ready-is, with_value}
use Rattle.translator.proofs.AllocatorLaws.{left-ensured, operands-allocated, both-released, after-allocated, ready_outputs, outputs-allocated}
use Rattle.translator.proofs.SizeLaws.{ensure-grows, before-fits, after-fits, outputs-fit}

-- what is below gate i and not ready is a constant or input
unloaded-low : (c : Circuit) (i v : ℕ) → v < first_gate c.inputs + i → is_ready c i i v ≡ false → v < first_gate c.inputs
unloaded-low c i v h e =
    elim (dec_lt v (first_gate c.inputs)) [
      | yes l ↦ l
      | no l ↦ absurd (true≢false (sym (ready-gate c i i v (omega arith) ∙ lt-ltb v (first_gate c.inputs + i) h) ∙ e))
    ]

-- `P i s` is said of the allocation s, which has done the operations of i gates: it holds at first, and each load of a constant or input and each
-- gate's operation keeps it, if one of `limit` registers is free for the value and the operands are in theirs.
pub record Carried (c : Circuit) (limit : ℕ) (P : (i : ℕ) → Allocation → Type 0) : Type 0 where
  pub at_first : P 0 no_registers
  pub by-load : (i v : ℕ) (s : Allocation) → Free s.owners s.freed → length (loaded v s).owners ≤ limit → v < first_gate c.inputs → P i s → P i (loaded v s)
  pub by-operation : (i : ℕ) → i < length c.gates → (s : Allocation)
      → let g = get_or c.gates i no_gate in
      let freed = release_operands (is_used_from c (suc i)) g s in
      let behind = operated (is_used_from c (suc i)) (first_gate c.inputs + i) g s in Free freed.owners freed.freed → length behind.owners ≤ limit
      → is_among (suc g.left) s.owners ≡ true → is_among (suc g.right) s.owners ≡ true → P i s → P (suc i) behind

module _ (c : Circuit) (k : Trimmed c) (limit : ℕ) (enough : need c ≤ limit) (P : (i : ℕ) → Allocation → Type 0) (carried : Carried c limit P) where
  ensure-keeps : (i : ℕ) (p w : ℕ → Bool) (v : ℕ) (s : Allocation) → Allocated (references c) p w s → v < references c → w v ≡ true
      → (p v ≡ false → v < first_gate c.inputs) → length (ensure_loaded v s).owners ≤ limit → P i s → P i (ensure_loaded v s)
  unfolding ensure_loaded
  ensure-keeps i p w v s a h u low fits here = go (is_among (suc v) s.owners) refl
    where
      go : (b : Bool) → is_among (suc v) s.owners ≡ b → P i (ensure_loaded v s)
      go true e = rw e here
      go false e =
          let new : p v ≡ false = sym (ready-is (references c) p w v s h u a) ∙ e in
          rw e (carried.by-load i v s a.free (rw e at fits) (low new) here)

  module _ (i : ℕ) (h : i < length c.gates) (s : Allocation) (a : Allocated (references c) (is_ready c i i) (is_used_from c i) s) where
    abbrev g : Gate
    g = get_or c.gates i no_gate

    operands-keep : length (ensure_operands g s).owners ≤ limit → P i s → P i (ensure_operands g s)
    operands-keep fits here =
        ensure-keeps i (with_value g.left (is_ready c i i)) (is_used_from c i) g.right (ensure_loaded g.left s) (left-ensured c k i h s a).allocated
        (omega (arith, right-low c k i h)) (right-wanted c k i h)
        (λ e. unloaded-low c i g.right (right-low c k i h) (right-fails (eqb g.right g.left) (is_ready c i i g.right) e)) fits
        (ensure-keeps i (is_ready c i i) (is_used_from c i) g.left s a (omega (arith, left-low c k i h)) (left-wanted c k i h)
        (unloaded-low c i g.left (left-low c k i h)) (omega (arith, ensure-grows g.right (ensure_loaded g.left s))) here)

    turn-keeps : length (ensure_operands g s).owners ≤ limit → length (gate_turn c i g s).owners ≤ limit → P i s → P (suc i) (gate_turn c i g s)
    unfolding gate_turn
    turn-keeps before fits here =
        let o = operands-allocated c k i h s a in
        carried.by-operation i h (ensure_operands g s) (both-released c k i h s a).free fits (o.kept g.left (left-ready c k i h) (left-wanted c k i h))
        (o.kept g.right (right-ready c k i h) (right-wanted c k i h)) (operands-keep before here)

  pub carried-after : (i : ℕ) → i ≤ length c.gates → P i (allocation_after c i)
  unfolding allocation_after
  carried-after zero h = carried.at_first
  carried-after (suc i) h =
      turn-keeps i h (allocation_after c i) (after-allocated c k i (omega arith)) (omega (arith, before-fits c k i h)) (omega (arith, after-fits c k (suc i) h))
      (carried-after i (omega arith))

  pub carried-before : (i : ℕ) → i < length c.gates → P i (allocation_before c i)
  carried-before i h =
      operands-keep i h (allocation_after c i) (after-allocated c k i (omega arith)) (omega (arith, before-fits c k i h)) (carried-after i (omega arith))

  pub carried-outputs : (j : ℕ) → j ≤ length c.outputs → P (length c.gates) (outputs_loaded c j)
  unfolding outputs_loaded
  carried-outputs zero h = carried-after (length c.gates) (omega arith)
  carried-outputs (suc j) h =
      let n = length c.gates in
      let o = get_or c.outputs j 0 in
      let among = among-element c.outputs j h in
      ensure-keeps n (ready_outputs c j) (is_output c) o (outputs_loaded c j) (outputs-allocated c k j (omega arith)) (k.valid.outputs-below o among) among
      (λ e. unloaded-low c n o (k.valid.outputs-below o among) (right-fails (is_among o (take j c.outputs)) (is_ready c n n o) e))
      (omega (arith, outputs-fit c k (suc j) h)) (carried-outputs j (omega arith))
