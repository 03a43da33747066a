-- By what its checks have found: the refusal, or that each was passed (CheckLaws), which is all that `rewrite_accepted` asks for.
use mathlib.Core.Path.{ap, ap₂}
use mathlib.Core.Option.{none}
use Rattle.lines.specs.Refusal.{gives}
use Rattle.lines.proofs.CheckLaws.{check-passed, reason-some, handed_back, all-passed, outcome-refused, outcome-gives}
use Rattle.rewriting.specs.RewriteCall.{lent, rewriting}
use Rattle.rewriting.proofs.rewrite.Goals as goal

pub returns-in_err-circuit : goal.returns-in_err-circuit
unfolding rewriting
returns-in_err-circuit c = rw (handed_back _ _ c.from_residual.ensures) (outcome-refused _ _ _ _ _ c.in_err-circuit.ensures.refusal (reason-some _))

pub rewrite_accepted-requires : goal.rewrite_accepted-requires
rewrite_accepted-requires c = check-passed _ 1 _ (all-passed _ c.in_ok-circuit.ensures.refusal).1.1.1.0

pub returns : goal.returns
unfolding rewriting
returns c =
    let same = c.in_ok-circuit.ensures.accepted in
    let r = rw (same.0, same.1, same.2) at c.rewrite_accepted.ensures in
    outcome-gives _ _ _ _ (all-passed _ c.in_ok-circuit.ensures.refusal) _ _
    (ap gives r.result_value) (ap₂ (λ x y. lent x none y) r.res_after r.verdicts_after)
