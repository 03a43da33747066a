-- The two ways of the test are the two of the promise; a digit's byte is below 58.
use borrow.Author.Tests.{eq-eqb, ne_eqb}
use Rattle.lines.proofs.number.column.Goals as goal

pub returns-then-rest-eq0 : goal.returns-then-rest-eq0
returns-then-rest-eq0 c = simp (eq-eqb _ _ c.if-rest-eq0.true)

pub returns-else-rest-eq0 : goal.returns-else-rest-eq0
returns-else-rest-eq0 c = simp (ne_eqb _ _ c.if-rest-eq0.false)
