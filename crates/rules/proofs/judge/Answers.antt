-- One check, of the rules: its refusal, or well-formed rules with the verdict (CheckLaws).
use mathlib.Core.List.{[], ◌∷◌}
use mathlib.Core.Path.{sym, ap, ◌∙◌}
use Rattle.lines.specs.Refusal.{gives}
use Rattle.lines.proofs.CheckLaws.{all-passed, back-answer, answer-gives}
use Rattle.rules.specs.JudgeCall.{judging}
use Rattle.rules.proofs.JudgedLaws.{said-number, judged-number}
use Rattle.rules.proofs.VerdictLaws.{err-number}
use Rattle.rules.specs.Verdict.{applied_number, judgement, number_of}
use Rattle.rules.proofs.judge.Goals as goal

pub returns-in_err-rules : goal.returns-in_err-rules
unfolding judging
returns-in_err-rules c = back-answer _ _ c.from_residual.ensures _ c.in_err-rules.ensures.refusal _ _

pub returns : goal.returns
unfolding judging
returns c =
    ap (λ v. gives (v ∷ []))
    (ap applied_number c.err.ensures.value
    ∙ err-number c.judged.result
    ∙ said-number c.judged.result
    ∙ ap number_of c.judged.ensures.value
    ∙ judged-number _ _
    ∙ ap (λ t. judgement t c.args.number) c.in_ok-rules.ensures.accepted)
    ∙ sym (answer-gives _ _ (all-passed _ c.in_ok-rules.ensures.refusal))
