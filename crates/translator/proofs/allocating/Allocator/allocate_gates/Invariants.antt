use mathlib.Core.Path.{◌≡◌}
use Prim.Native.Nat.{◌≤◌}
use Rattle.circuit.specs.Table.{decode}
use Rattle.translator.specs.Allocator.{allocation_after}
use Rattle.translator.specs.Registers.{Represents}
use Rattle.translator.proofs.allocating.Allocator.allocate_gates.Given as goal

abbrev pub invariant-loop-i : goal.invariant-loop-i
invariant-loop-i l =
    record {
      below : l.i ≤ l.i-end;
      same_program : l.self.program.ghost_name ≡ l.initial.self.program.ghost_name;
      allocation : Represents l.self l.initial.self (allocation_after (decode l.ranges.circuit) l.i);
    }
