-- The laws of `Tests`: both tests have come equally far, and go on by the line's own.
use Rattle.circuit.specs.Refusal.{is_closing, reference_below}
use Rattle.circuit.proofs.EachLaws.{tests-none, tests-more, tests-end}
use borrow.Author.Rules.{rules}
use Rattle.circuit.proofs.checking.test_closings.Goals as goal

pub loop-i-init : goal.loop-i-init
loop-i-init c = let s = c.args in
    (search rules, tests-none is_closing 0 s.q s.n s.t.now s.earlier.kinds, tests-none (reference_below s.top) 0 s.q s.n s.t.now s.earlier.references)

pub loop-i-preserved : goal.loop-i-preserved
loop-i-preserved c = let s = c.args in
    let l = c.loop-i in
    let h = c.loop-i-test.true in
    let e = c.test_closing-tested.ensures in (
      search rules,
      tests-more is_closing 0 s.q s.n s.t.now s.earlier.kinds l.i l.tested.kinds l.invariant.1 _ h e.kinds_value,
      tests-more (reference_below s.top) 0 s.q s.n s.t.now s.earlier.references l.i l.tested.references l.invariant.2 _ h e.references_value,
    )

pub returns : goal.returns
returns c = let s = c.args in
    let l = c.loop-i in
    let h = c.loop-i-test.false in
    record {
      kinds_value = tests-end is_closing 0 s.q s.n s.t.now s.earlier.kinds l.i l.tested.kinds l.invariant.1 h;
      references_value = tests-end (reference_below s.top) 0 s.q s.n s.t.now s.earlier.references l.i l.tested.references l.invariant.2 h;
    }
