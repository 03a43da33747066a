use Rattle.lists.proofs.Written.{Written}
use Rattle.circuit.proofs.trimming.copy_front.Given as goal

abbrev pub invariant-loop-i : goal.invariant-loop-i
invariant-loop-i l = Written l.front l.initial.out l.out l.i
