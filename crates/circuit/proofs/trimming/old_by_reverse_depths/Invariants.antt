use Rattle.circuit.proofs.OldNumberLaws.{SoughtTo}
use Rattle.circuit.proofs.trimming.old_by_reverse_depths.Given as goal

abbrev pub invariant-loop-w : goal.invariant-loop-w
invariant-loop-w l = SoughtTo l.circuit l.v l.next l.w
