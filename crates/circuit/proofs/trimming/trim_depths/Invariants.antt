use lib.ListN.{length}
use Rattle.circuit.proofs.KeptDepthLaws.{MovedTo}
use Rattle.circuit.proofs.trimming.trim_depths.Given as goal

abbrev pub invariant-loop-v : goal.invariant-loop-v
invariant-loop-v l = MovedTo l.circuit (length l.initial.out) l.out l.next l.v
