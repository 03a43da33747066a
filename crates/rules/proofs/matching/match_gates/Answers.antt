-- Laws `gates-more`, `gates-fail` and `gates-done`: what is left to match, from what is bound so far, is the whole.
use mathlib.Core.Path.{refl, ap, ◌∙◌}
use native.Mathlib.Omega.{arith}
use Rattle.circuit.specs.Table.{decode}
use Rattle.rules.specs.Match.{match_gates}
use Rattle.rules.specs.Remembered.{said}
use Rattle.rules.proofs.MatchLaws.{gates-more, gates-fail, gates-done}
use Rattle.rules.proofs.matching.match_gates.Goals as goal

pub loop-i-init : goal.loop-i-init
loop-i-init c = refl

pub returns-then-not-match_left : goal.returns-then-not-match_left
returns-then-not-match_left c = let a = c.args in
    let r = a.rule.now in
    let l = c.loop-i in
    let m = c.match_left in
    gates-fail (decode a.c.now) r.table.now r.from a.mask l.i l.b m.new.b m.result c.loop-i-test.true m.ensures c.if-not-match_left.true
    ∙ l.invariant
    ∙ ap (λ k. match_gates (decode a.c.now) (said r) a.mask k a.b.now) c.lefts-i.ensures

pub loop-i-preserved : goal.loop-i-preserved
loop-i-preserved c = let a = c.args in
    let r = a.rule.now in
    let l = c.loop-i in
    let m = c.match_left in
    gates-more (decode a.c.now) r.table.now r.from a.mask l.i l.b m.new.b m.result c.loop-i-test.true m.ensures c.if-not-match_left.false
    ∙ l.invariant

pub returns : goal.returns
returns c = let a = c.args in
    gates-done _ _ _ c.loop-i.i c.loop-i.b (omega arith)
    ∙ c.loop-i.invariant
    ∙ ap (λ k. match_gates (decode a.c.now) (said a.rule.now) a.mask k a.b.now) c.lefts-i.ensures
