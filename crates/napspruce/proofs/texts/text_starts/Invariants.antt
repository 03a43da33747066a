use Rattle.napspruce.proofs.TextLaws.{StartsTo}
use Rattle.napspruce.proofs.texts.text_starts.Given as goal

abbrev pub invariant-loop-i : goal.invariant-loop-i
invariant-loop-i l = StartsTo l.text l.i
