-- The registers in use only become more, so that at no moment there are more of them than at the end: the need. Assumes nothing.
use mathlib.Core.Path.{◌≡◌}
use Prim.Native.Nat.{ℕ, zero, suc, ◌+◌, ◌≤◌, ◌<◌}
use native.Mathlib.Decide.{dec_lt}
use native.Mathlib.Omega.{arith}
use lib.ListN.{length, get_or}
use Rattle.lists.proofs.First.{first_either}
use Rattle.circuit.specs.Circuit.{Gate, Circuit, first_gate, no_gate}
use Rattle.circuit.specs.Path.{is_among}
use Rattle.translator.specs.Need.{need}
use Rattle.translator.specs.LiveRange.{is_used_from}
use Rattle.translator.specs.Allocation.{Allocation, assign, release_operands}
use Rattle.translator.specs.Allocator.{ensure_loaded, ensure_operands, gate_turn, allocation_after, allocation_before, outputs_loaded}
use Rattle.translator.proofs.TrimmedLaws.{Trimmed}
use Rattle.translator.proofs.OwnerLaws.{owners-grow}
use Rattle.translator.proofs.AllocatorLaws.{releases-size, end-size}

-- a sequence that never falls
rising : (f : ℕ → ℕ) → ((m : ℕ) → f m ≤ f (suc m)) → (i m : ℕ) → i ≤ m → f i ≤ f m
rising f h i zero l = let e : i ≡ 0 = omega arith in rw e (omega arith)
rising f h i (suc m) l =
    elim (dec_lt m i) [
      | yes k ↦ let e : i ≡ suc m = omega arith in rw e (omega arith)
      | no k ↦ omega (arith, rising f h i m (omega arith), h m)
    ]

pub ensure-grows : (v : ℕ) (s : Allocation) → length s.owners ≤ length (ensure_loaded v s).owners
unfolding ensure_loaded assign
ensure-grows v s =
    first_either (λ (t : Allocation). length s.owners ≤ length t.owners) (is_among (suc v) s.owners) (omega arith) (owners-grow v s.owners s.freed)

module _ (c : Circuit) where
  pub turn-grows : (i : ℕ) (g : Gate) (s : Allocation) → length (ensure_operands g s).owners ≤ length (gate_turn c i g s).owners
  unfolding gate_turn assign
  turn-grows i g s =
      let u = release_operands (is_used_from c (suc i)) g (ensure_operands g s) in
      omega (arith, releases-size (is_used_from c (suc i)) g (ensure_operands g s), owners-grow (first_gate c.inputs + i) u.owners u.freed)

  before-grows : (g : Gate) (s : Allocation) → length s.owners ≤ length (ensure_operands g s).owners
  before-grows g s = omega (arith, ensure-grows g.left s, ensure-grows g.right (ensure_loaded g.left s))

  after-grows : (i : ℕ) → length (allocation_after c i).owners ≤ length (allocation_after c (suc i)).owners
  unfolding allocation_after
  after-grows i =
      let g = get_or c.gates i no_gate in
      omega (arith, before-grows g (allocation_after c i), turn-grows i g (allocation_after c i))

  outputs-grow : (j : ℕ) → length (outputs_loaded c j).owners ≤ length (outputs_loaded c (suc j)).owners
  unfolding outputs_loaded
  outputs-grow j = ensure-grows (get_or c.outputs j 0) (outputs_loaded c j)

  module _ (k : Trimmed c) where
    pub outputs-fit : (j : ℕ) → j ≤ length c.outputs → length (outputs_loaded c j).owners ≤ need c
    outputs-fit j h = omega (arith, rising (λ j. length (outputs_loaded c j).owners) outputs-grow j (length c.outputs) h, end-size c k)

    pub after-fits : (i : ℕ) → i ≤ length c.gates → length (allocation_after c i).owners ≤ need c
    unfolding outputs_loaded
    after-fits i h =
        omega (arith, rising (λ i. length (allocation_after c i).owners) after-grows i (length c.gates) h, outputs-fit 0 (omega arith))

    pub before-fits : (i : ℕ) → i < length c.gates → length (allocation_before c i).owners ≤ need c
    unfolding allocation_after
    before-fits i h = omega (arith, turn-grows i (get_or c.gates i no_gate) (allocation_after c i), after-fits (suc i) h)
