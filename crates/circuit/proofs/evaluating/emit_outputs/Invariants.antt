use lib.ListN.{take}
use Rattle.lists.proofs.Written.{Written}
use Rattle.circuit.specs.Fold.{at_outputs}
use Rattle.circuit.specs.Table.{refs, decode}
use Rattle.circuit.proofs.evaluating.emit_outputs.Given as goal

abbrev pub invariant-loop-i : goal.invariant-loop-i
invariant-loop-i l = Written (at_outputs 0 (decode l.circuit) (take (refs l.circuit) l.bits)) l.initial.out l.out l.i
