-- The checks of the tables, and behind them that of the limit (CheckLaws).
use Rattle.lines.proofs.CheckLaws.{refused_at, back-found, after}
use Rattle.finder.proofs.accept_find.Goals as goal

pub returns-in_err-accepted-clause-refusal : goal.returns-in_err-accepted-clause-refusal
returns-in_err-accepted-clause-refusal c = back-found _ _ c.from_residual.ensures _ (refused_at _ _ c.in_err-accepted.ensures.refusal _)

pub returns-in_err-refuse_if-clause-refusal : goal.returns-in_err-refuse_if-clause-refusal
returns-in_err-refuse_if-clause-refusal c =
    rw (← c.is_limit.ensures)
    (back-found _ _ c.from_residual-in_err-refuse_if.ensures _ (after _ c.in_ok-accepted.ensures.refusal _ _ c.in_err-refuse_if.ensures))

pub returns-clause-refusal : goal.returns-clause-refusal
returns-clause-refusal c = rw (← c.is_limit.ensures) (after _ c.in_ok-accepted.ensures.refusal _ _ c.in_ok-refuse_if.ensures)
