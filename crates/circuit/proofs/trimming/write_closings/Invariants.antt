use Rattle.circuit.proofs.TrimmingLaws.{ClosingsTo}
use Rattle.circuit.proofs.trimming.write_closings.Given as goal

abbrev pub invariant-loop-i : goal.invariant-loop-i
invariant-loop-i l = ClosingsTo l.circuit l.initial.out l.out l.at l.i
