-- One binding, then the other if it succeeded: `then_some`, `then-none`.
use mathlib.Core.Path.{ap, ◌∙◌}
use Rattle.rules.specs.Match.{bind_reference, attempt}
use Rattle.rules.proofs.MatchLaws.{then_some, then-none}
use Rattle.rules.proofs.matching.bind_operands.Goals as goal

pub returns-then-bind_reference : goal.returns-then-bind_reference
returns-then-bind_reference c = let a = c.args in
    let x = c.bind_reference in
    c.bind_reference-then-bind_reference.ensures
    ∙ then_some (bind_reference a.l a.x a.b.now) (bind_reference a.r a.y) x.result x.new.b x.ensures c.if-bind_reference.true

pub returns-else-bind_reference : goal.returns-else-bind_reference
returns-else-bind_reference c = let a = c.args in
    let x = c.bind_reference in
    ap (λ y. attempt y x.new.b) c.if-bind_reference.false
    ∙ then-none (bind_reference a.l a.x a.b.now) (bind_reference a.r a.y) x.result x.new.b x.ensures c.if-bind_reference.false
