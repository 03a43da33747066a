-- Check by check, in the order of `evaluate_checks` (CheckLaws).
use Rattle.lines.proofs.CheckLaws.{refused_at, back-found, after}
use Rattle.circuit.proofs.accept_evaluate.Goals as goal

pub returns-in_err-refuse_if-clause-refusal : goal.returns-in_err-refuse_if-clause-refusal
returns-in_err-refuse_if-clause-refusal c =
    rw (← c.is_partial.ensures) (back-found _ _ c.from_residual.ensures _ (refused_at _ _ c.in_err-refuse_if.ensures _))

pub returns-in_err-refuse_if-2-clause-refusal : goal.returns-in_err-refuse_if-2-clause-refusal
returns-in_err-refuse_if-2-clause-refusal c =
    rw (← c.is_partial.ensures)
    (back-found _ _ c.from_residual-in_err-refuse_if-2.ensures _
    (after _ c.in_ok-refuse_if.ensures _ _ (refused_at _ _ c.in_err-refuse_if-2.ensures _)))

pub returns-in_err-accepted-clause-refusal : goal.returns-in_err-accepted-clause-refusal
returns-in_err-accepted-clause-refusal c =
    rw (← c.is_partial.ensures)
    (back-found _ _ c.from_residual-in_err-accepted.ensures _
    (after _ c.in_ok-refuse_if.ensures _ _ (after _ c.in_ok-refuse_if-2.ensures _ _ (refused_at _ _ c.in_err-accepted.ensures.refusal _))))

pub returns-in_err-refuse_if-3-clause-refusal : goal.returns-in_err-refuse_if-3-clause-refusal
returns-in_err-refuse_if-3-clause-refusal c =
    let as-many = rw (c.inputs.ensures, c.in_ok-accepted.ensures.accepted) at c.in_err-refuse_if-3.ensures in
    rw (← c.is_partial.ensures)
    (back-found _ _ c.from_residual-in_err-refuse_if-3.ensures _
    (after _ c.in_ok-refuse_if.ensures _ _ (after _ c.in_ok-refuse_if-2.ensures _ _ (after _ c.in_ok-accepted.ensures.refusal _ _ as-many))))

pub returns-clause-refusal : goal.returns-clause-refusal
returns-clause-refusal c =
    let as-many = rw (c.inputs.ensures, c.in_ok-accepted.ensures.accepted) at c.in_ok-refuse_if-3.ensures in
    rw (← c.is_partial.ensures)
    (after _ c.in_ok-refuse_if.ensures _ _ (after _ c.in_ok-refuse_if-2.ensures _ _ (after _ c.in_ok-accepted.ensures.refusal _ _ as-many)))
