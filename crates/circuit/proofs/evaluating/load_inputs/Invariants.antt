use Rattle.lists.proofs.Written.{Written}
use Rattle.circuit.specs.Circuit.{first_gate}
use Rattle.circuit.specs.Evaluation.{start_bits}
use Rattle.circuit.proofs.evaluating.load_inputs.Given as goal

abbrev pub invariant-loop-i : goal.invariant-loop-i
invariant-loop-i l = Written (start_bits l.bytes) l.initial.bits l.bits (first_gate l.i)
