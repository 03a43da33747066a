-- There is no such rule, or it is judged at its place.
use mathlib.Core.Path.{sym, ◌∙◌}
use Rattle.rules.proofs.JudgedLaws.{judged-missing, placed-unsound, placed-sound}
use Rattle.rules.proofs.rule.Rules.judged.Goals as goal

pub returns-in_default-clause-value : goal.returns-in_default-clause-value
returns-in_default-clause-value c = judged-missing c.args.self.now.table.now c.args.number (sym c.in_default.ensures.there)

pub returns-then-not-is_sound-clause-value : goal.returns-then-not-is_sound-clause-value
returns-then-not-is_sound-clause-value c =
    placed-unsound c.args.self.now.table.now c.args.number (sym c.in-Some.ensures.there) c.in-Some.rule c.in-Some.ensures.placed
    (sym c.is_sound.ensures ∙ c.if-not-is_sound.true)

pub returns-clause-value : goal.returns-clause-value
returns-clause-value c =
    placed-sound c.args.self.now.table.now c.args.number (sym c.in-Some.ensures.there) c.in-Some.rule c.in-Some.ensures.placed
    (sym c.is_sound.ensures ∙ c.if-not-is_sound.false)
