use Rattle.napspruce.proofs.NumberLaws.{VerdictsTo}
use Rattle.napspruce.proofs.numbers.write_verdicts.Given as goal

abbrev pub invariant-loop-i : goal.invariant-loop-i
invariant-loop-i l = VerdictsTo l.verdicts l.initial.table l.at l.table l.i
