-- The walk is the run's own recursion: what is left of the run lies behind the place that was come to.
use native.Mathlib.Omega.{arith}
use Rattle.circuit.proofs.StartRunLaws.{run_step, run-stop, run_end}
use borrow.Author.Rules.{rules}
use Rattle.circuit.proofs.checking.run_end.Goals as goal

pub returns-then-t-q-ne-START : goal.returns-then-t-q-ne-START
returns-then-t-q-ne-START c = let l = c.loop-q in
    omega (arith, l.invariant.1, run-stop c.args.t.now l.q c.loop-q-test.true c.if-t-q-ne-START.true)

pub loop-q-preserved : goal.loop-q-preserved
loop-q-preserved c = let l = c.loop-q in
    (search rules, omega (arith, l.invariant.1, run_step c.args.t.now l.q c.loop-q-test.true c.if-t-q-ne-START.false))

pub returns : goal.returns
returns c = let l = c.loop-q in
    omega (arith, l.invariant.1, run_end c.args.t.now l.q c.loop-q-test.false)
