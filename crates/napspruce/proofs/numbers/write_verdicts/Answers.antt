-- One row a verdict: the rows of the first i verdicts are there.
use mathlib.Core.Path.{refl}
use Prim.Native.Nat.{◌+◌}
use borrow.Author.Rules.{rules}
use Rattle.napspruce.proofs.NumberLaws.{verdicts-none, verdicts-more, verdicts-all}
use Rattle.napspruce.proofs.numbers.write_verdicts.Goals as goal

pub loop-i-init : goal.loop-i-init
loop-i-init c = verdicts-none c.args.verdicts.now c.args.table.now c.args.at

pub loop-i-preserved : goal.loop-i-preserved
loop-i-preserved c = let l = c.loop-i in
    verdicts-more c.args.verdicts.now c.args.table.now c.args.at l.table l.i l.invariant (l.i + 1) _ _
    c.loop-i-test.true refl (search rules) c.write_row.ensures

pub returns : goal.returns
returns c = let l = c.loop-i in
    verdicts-all c.args.verdicts.now c.args.table.now c.args.at l.table l.i l.invariant c.loop-i-test.false
