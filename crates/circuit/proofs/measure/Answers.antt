-- One check, of the table: its refusal, or a circuit with its pair (CheckLaws).
use mathlib.Core.List.{[], ◌∷◌}
use mathlib.Core.Path.{sym, ap, ◌∙◌}
use Rattle.lines.specs.Refusal.{gives}
use Rattle.lines.proofs.CheckLaws.{all-passed, back-answer, answer-gives}
use Rattle.circuit.specs.MeasureCall.{measuring}
use Rattle.circuit.proofs.measure.Goals as goal

pub returns-in_err-accept : goal.returns-in_err-accept
unfolding measuring
returns-in_err-accept c = back-answer _ _ c.from_residual.ensures _ c.in_err-accept.ensures.refusal _ _

pub returns : goal.returns
unfolding measuring
returns c = ap (λ p. gives (p.depth ∷ p.critical ∷ [])) (rw c.in_ok-accept.ensures.accepted at c.pair.ensures)
    ∙ sym (answer-gives _ _ (all-passed _ c.in_ok-accept.ensures.refusal))
