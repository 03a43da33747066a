-- Laws of `Written`: the first i numbers are there.
use mathlib.Core.Path.{refl}
use native.Mathlib.Omega.{arith}
use Rattle.lists.proofs.Written.{written_none, written-more}
use Rattle.circuit.proofs.BufferLaws.{written_over}
use Rattle.circuit.proofs.trimming.copy_front.Goals as goal

pub loop-i-init : goal.loop-i-init
loop-i-init c = written_none 0 c.args.front.now c.args.out.now

pub loop-i-preserved : goal.loop-i-preserved
loop-i-preserved c = let l = c.loop-i in
    written-more 0 c.args.front.now c.args.out.now l.out l.i _ l.invariant c.loop-i-test.true (omega (arith, c.requires, c.loop-i-test.true)) refl

pub returns : goal.returns
returns c = let l = c.loop-i in
    written_over c.args.front.now c.args.out.now l.out l.i l.invariant (omega (arith, c.loop-i-test.false, l.auto.i-end))
