use Rattle.circuit.proofs.TrimmingLaws.{Named}
use Rattle.circuit.proofs.trimming.name_inputs.Given as goal

abbrev pub invariant-loop-v : goal.invariant-loop-v
invariant-loop-v l = Named l.circuit l.front l.v
