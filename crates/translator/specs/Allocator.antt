-- The allocation as loops over the gates and outputs compute it: whether a value is loaded already is seen from the registers, and what is
-- used later from the gates that follow. That the program is the same: `AllocatorIsProgram` in Theorems.antt.
use Rattle.std.specs.Prelude.{ℕ, zero, suc, ◌+◌, Bool, length, get_or}
use Rattle.lists.specs.First.{first}
use Rattle.circuit.specs.Circuit.{Gate, Circuit, no_gate, first_gate}
use Rattle.circuit.specs.Path.{is_among}
use Rattle.translator.specs.LiveRange.{is_used_from}
use Rattle.translator.specs.Allocation.{Allocation, no_registers, loaded, operated}

-- v in a register: loaded, if it is in none
unfoldable pub ensure_loaded : (v : ℕ) → Allocation → Allocation
ensure_loaded v s = first (is_among (suc v) s.owners) s (loaded v s)

-- the operands of a gate, the left one first
abbrev pub ensure_operands : Gate → Allocation → Allocation
ensure_operands g s = ensure_loaded g.right (ensure_loaded g.left s)

-- gate g, of reference v: its operands are loaded, then its operation is done
abbrev pub turned : (wanted : ℕ → Bool) (v : ℕ) → Gate → Allocation → Allocation
turned wanted v g s = operated wanted v g (ensure_operands g s)

-- gate i, which is g
unfoldable pub gate_turn : Circuit → (i : ℕ) → Gate → Allocation → Allocation
gate_turn c i g s = turned (is_used_from c (suc i)) (first_gate c.inputs + i) g s

-- after the first i gates
unfoldable pub allocation_after : Circuit → (i : ℕ) → Allocation
allocation_after c zero = no_registers
allocation_after c (suc i) = gate_turn c i (get_or c.gates i no_gate) (allocation_after c i)

-- just before gate i's operation, its operands loaded
abbrev pub allocation_before : Circuit → (i : ℕ) → Allocation
allocation_before c i = ensure_operands (get_or c.gates i no_gate) (allocation_after c i)

-- after all gates, and the loads for the first j outputs
unfoldable pub outputs_loaded : Circuit → (j : ℕ) → Allocation
outputs_loaded c zero = allocation_after c (length c.gates)
outputs_loaded c (suc j) = ensure_loaded (get_or c.outputs j 0) (outputs_loaded c j)

-- before the first emit
abbrev pub allocation_at_end : Circuit → Allocation
allocation_at_end c = outputs_loaded c (length c.outputs)
