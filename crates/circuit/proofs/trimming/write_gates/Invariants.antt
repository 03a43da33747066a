use Rattle.circuit.proofs.TrimmingLaws.{GatesTo}
use Rattle.circuit.proofs.trimming.write_gates.Given as goal

abbrev pub invariant-loop-i : goal.invariant-loop-i
invariant-loop-i l = GatesTo l.circuit l.initial.names l.names l.initial.out l.out l.kept l.i
