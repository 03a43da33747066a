-- The two bits that the word's number can have: laws `high_ones`, `high-zeros`.
use Rattle.rules.proofs.HoleWordLaws.{high_ones, high-zeros}
use Rattle.rules.proofs.judging.high_word.Goals as goal

pub returns-then-w-j-eq1 : goal.returns-then-w-j-eq1
returns-then-w-j-eq1 c = high_ones c.args.j c.args.w c.requires.0 c.if-w-j-eq1.true

pub returns-else-w-j-eq1 : goal.returns-else-w-j-eq1
returns-else-w-j-eq1 c = high-zeros c.args.j c.args.w c.requires.0 c.if-w-j-eq1.false
