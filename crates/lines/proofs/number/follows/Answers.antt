-- The three ways out are the three cases of the promise.
use borrow.Author.Tests.{eq-eqb, ne_eqb}
use Rattle.lines.proofs.number.follows.Goals as goal

pub returns-then-before-ne32 : goal.returns-then-before-ne32
returns-then-before-ne32 c = simp (ne_eqb _ _ c.if-before-ne32.true)

pub returns-then-byte-eq32 : goal.returns-then-byte-eq32
returns-then-byte-eq32 c = simp (eq-eqb _ _ c.if-before-ne32.false, eq-eqb _ _ c.if-byte-eq32.true)

pub returns : goal.returns
returns c = simp (eq-eqb _ _ c.if-before-ne32.false, ne_eqb _ _ c.if-byte-eq32.false)
