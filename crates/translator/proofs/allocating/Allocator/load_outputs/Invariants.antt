use mathlib.Core.Path.{◌≡◌}
use Prim.Native.Nat.{◌≤◌}
use Rattle.circuit.specs.Table.{decode}
use Rattle.translator.specs.Allocator.{outputs_loaded}
use Rattle.translator.specs.Registers.{Represents}
use Rattle.translator.proofs.allocating.Allocator.load_outputs.Given as goal

abbrev pub invariant-loop-j : goal.invariant-loop-j
invariant-loop-j l =
    record {
      below : l.j ≤ l.j-end;
      same_program : l.self.program.ghost_name ≡ l.initial.self.program.ghost_name;
      allocation : Represents l.self l.initial.self (outputs_loaded (decode l.ranges.circuit) l.j);
    }
