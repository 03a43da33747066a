use lib.ListN.{length, take}
use Rattle.lists.proofs.Each.{Filled}
use Rattle.circuit.specs.Evaluation.{bit_op}
use Rattle.circuit.specs.Fold.{gate_value}
use Rattle.circuit.specs.Table.{gate_lines}
use Rattle.circuit.proofs.evaluating.run_gates.Given as goal

abbrev pub invariant-loop-i : goal.invariant-loop-i
invariant-loop-i l = Filled (gate_value bit_op 0) (gate_lines l.circuit) (take l.first l.initial.bits) l.first (length l.initial.bits) l.bits l.i
