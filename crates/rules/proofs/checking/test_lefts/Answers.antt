-- The laws of `Tests` and `Marking`: the tests and the word have come equally far, and go on by the line's own.
use lib.ListN.{drop}
use Rattle.circuit.specs.Refusal.{has_gate_kind, operands_below}
use Rattle.circuit.specs.Table.{lines_of}
use Rattle.circuit.proofs.TableLaws.{lines-length, step_from}
use Rattle.circuit.proofs.EachLaws.{tests-none, tests-more, tests-end}
use Rattle.rules.proofs.UseWordLaws.{marks-none, marks-more, marks-all}
use borrow.Author.Rules.{rules}
use Rattle.rules.proofs.checking.test_lefts.Goals as goal

pub loop-i-init : goal.loop-i-init
loop-i-init c = let s = c.args in (
  search rules,
  tests-none has_gate_kind s.first s.q s.n s.t.now s.earlier.kinds,
  tests-none operands_below s.first s.q s.n s.t.now s.earlier.references,
  marks-none (lines_of s.n (drop s.q s.t.now)),
)

pub loop-i-preserved : goal.loop-i-preserved
loop-i-preserved c = let s = c.args in
    let l = c.loop-i in
    let h = c.loop-i-test.true in
    let e = c.test_gate-tested.ensures in
    let a = c.mark in (
      search rules,
      tests-more has_gate_kind s.first s.q s.n s.t.now s.earlier.kinds l.i l.tested.kinds l.invariant.1 _ h e.kinds_value,
      tests-more operands_below s.first s.q s.n s.t.now s.earlier.references l.i l.tested.references l.invariant.2 _ h e.references_value,
      marks-more (lines_of s.n (drop s.q s.t.now)) l.used l.i l.invariant.3 _ (step_from s.q s.n s.t.now l.i h) a.result
          c.mark-in-loop-i.result a.ensures c.mark-in-loop-i.ensures,
    )

pub returns : goal.returns
returns c = let s = c.args in
    let l = c.loop-i in
    let h = c.loop-i-test.false in
    record {
      kinds_value = tests-end has_gate_kind s.first s.q s.n s.t.now s.earlier.kinds l.i l.tested.kinds l.invariant.1 h;
      references_value = tests-end operands_below s.first s.q s.n s.t.now s.earlier.references l.i l.tested.references l.invariant.2 h;
      marks_uses = marks-all (lines_of s.n (drop s.q s.t.now)) l.used l.i l.invariant.3 (rw (lines-length s.n (drop s.q s.t.now)) h);
    }
