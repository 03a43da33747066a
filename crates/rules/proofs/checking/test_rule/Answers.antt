-- The tests of the rule's parts, one after the other: laws `kinds-tested`, `references-tested`, `uses-tested`.
use mathlib.Core.Bool.{◌&&◌}
use mathlib.Core.Path.{ap}
use Rattle.rules.proofs.LineLaws.{kinds-tested, references-tested}
use Rattle.rules.proofs.UseWordLaws.{uses-tested}
use Rattle.rules.proofs.checking.test_rule.Goals as goal

pub returns : goal.returns
returns c = let t = c.args.t.now in
    let p = c.args.p in
    let a = c.args.earlier in
    let x = c.test_lefts-left.result in
    let y = c.test_gates-right_tested.result in
    let z = c.test_closing-closed.result in
    let e = c.test_lefts-left.ensures in
    let f = c.test_gates-right_tested.ensures in
    let g = c.test_closing-closed.ensures in
    let l = c.left_from.ensures in
    let q = c.right_from.ensures in
    let k = c.closing_from.ensures in
    record {
      kinds_value = kinds-tested t p _ _ _ l q k a.kinds x.kinds y.kinds z.kinds _ e.kinds_value f.kinds_value g.kinds_value;
      references_value = references-tested t p _ _ _ l q k a.references x.references y.references z.references e.references_value
          f.references_value g.references_value;
      uses_value = ap (λ b. a.uses && b) (uses-tested t p c.requires _ l x.used _ e.marks_uses c.owed-asked.ensures);
    }
