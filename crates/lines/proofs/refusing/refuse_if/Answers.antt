use Rattle.std.proofs.Common.{[]}
use Rattle.lines.specs.Checks.{check, first_found}
use Rattle.lines.proofs.CheckLaws.{applies-later, found_none, reason-some}
use borrow.Author.Tests.{ne_eqb}
use Rattle.lines.proofs.refusing.refuse_if.Goals as goal

pub returns-then-applies : goal.returns-then-applies
unfolding check first_found
returns-then-applies c = rw (c.if-applies.true, ne_eqb _ _ (reason-some c.args.reason))

pub returns : goal.returns
returns c = applies-later _ _ _ [] _ c.if-applies.false found_none
