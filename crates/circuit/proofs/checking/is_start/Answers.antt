-- Each way out is one of the tests that `is_start` has.
use native.Mathlib.Omega.{arith}
use Prim.Native.Nat.{suc}
use borrow.Author.Tests.{le-leb, lt-leb, lt-ltb, le-ltb}
use Rattle.circuit.proofs.checking.is_start.Goals as goal

pub returns-then-input-before : goal.returns-then-input-before
returns-then-input-before c = let a = c.args in
    rw (lt-leb (suc a.before) a.input (omega (arith, c.if-input-before.true)))

pub returns-then-top-input : goal.returns-then-top-input
returns-then-top-input c = let a = c.args in
    rw (le-leb (suc a.before) a.input (omega (arith, c.if-input-before.false)), le-ltb a.input a.top c.if-top-input.true)

pub returns : goal.returns
returns c = let a = c.args in
    rw (le-leb (suc a.before) a.input (omega (arith, c.if-input-before.false)), lt-ltb a.input a.top (omega (arith, c.if-top-input.false)))
