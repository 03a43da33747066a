use lib.ListN.{take}
use Rattle.circuit.specs.Circuit.{first_gate}
use Rattle.rules.specs.Rule.{max_left_references}
use Rattle.rules.proofs.SideLaws.{SideTo}
use Rattle.rules.proofs.judging.side_word.Given as goal

abbrev pub invariant-loop-i : goal.invariant-loop-i
invariant-loop-i l = SideTo l.t l.q l.n (first_gate l.holes) max_left_references (take (first_gate l.holes) l.initial.words) l.words l.i
