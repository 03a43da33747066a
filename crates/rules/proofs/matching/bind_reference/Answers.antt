-- An unbound reference becomes bound (`bind-new`), a bound one is compared (`bind-old`).
use Rattle.rules.proofs.MatchLaws.{bind-new, bind-old}
use Rattle.rules.proofs.matching.bind_reference.Goals as goal

pub returns-then-old-eq0 : goal.returns-then-old-eq0
returns-then-old-eq0 c = let a = c.args in bind-new a.r a.v a.b.now c.if-old-eq0.true

pub returns : goal.returns
returns c = let a = c.args in bind-old a.r a.v a.b.now c.if-old-eq0.false
