use mathlib.Core.Path.{◌≡◌}
use Prim.Native.Nat.{◌≤◌}
use lib.ListN.{length}
use Rattle.circuit.specs.Circuit.{max_references}
use Rattle.circuit.specs.Table.{decode}
use Rattle.translator.proofs.CountingLaws.{UnloadedTo, HeldTo}
use Rattle.translator.proofs.pressure.most_held.Given as goal

abbrev pub invariant-loop-i : goal.invariant-loop-i
invariant-loop-i l =
    record {
      below : l.i ≤ l.i-end;
      long : length l.unloaded ≡ max_references;
      unloaded : UnloadedTo (decode l.ranges.circuit) l.unloaded l.i;
      held : HeldTo l.ranges.circuit l.held l.most l.i;
    }
