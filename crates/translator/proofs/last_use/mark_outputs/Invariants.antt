use Prim.Native.Nat.{◌+◌, ◌≤◌}
use mathlib.Core.Path.{◌≡◌}
use lib.ListN.{length}
use Rattle.circuit.specs.Circuit.{max_references}
use Rattle.circuit.specs.Table.{outputs}
use Rattle.translator.proofs.LastUseLaws.{UsesFrom}
use Rattle.translator.proofs.last_use.mark_outputs.Given as goal

abbrev pub invariant-loop-i : goal.invariant-loop-i
invariant-loop-i l =
    record {
      long : length l.last ≡ max_references;
      few : l.distinct + l.i ≤ outputs l.circuit;
      uses : UsesFrom l.circuit l.last l.distinct l.i;
    }
