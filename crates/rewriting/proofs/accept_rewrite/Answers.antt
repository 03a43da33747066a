-- Check by check, in the order of `rewrite_checks` (CheckLaws).
use Rattle.lines.proofs.CheckLaws.{refused_at, back-found, after}
use Rattle.rewriting.proofs.accept_rewrite.Goals as goal

pub returns-in_err-refuse_if-clause-refusal : goal.returns-in_err-refuse_if-clause-refusal
returns-in_err-refuse_if-clause-refusal c =
    rw (← c.is_partial.ensures) (back-found _ _ c.from_residual.ensures _
    (refused_at _ _ c.in_err-refuse_if.ensures _))

pub returns-in_err-refuse_if-2-clause-refusal : goal.returns-in_err-refuse_if-2-clause-refusal
returns-in_err-refuse_if-2-clause-refusal c =
    rw (← c.is_partial.ensures, ← c.is_partial-2.ensures) (back-found _ _ c.from_residual-in_err-refuse_if-2.ensures _
    (after _ c.in_ok-refuse_if.ensures _ _ (refused_at _ _ c.in_err-refuse_if-2.ensures _)))

pub returns-in_err-refuse_if-3-clause-refusal : goal.returns-in_err-refuse_if-3-clause-refusal
returns-in_err-refuse_if-3-clause-refusal c =
    rw (← c.is_partial.ensures, ← c.is_partial-2.ensures, ← c.is_partial-3.ensures) (back-found _ _ c.from_residual-in_err-refuse_if-3.ensures _
    (after _ c.in_ok-refuse_if.ensures _ _ (after _ c.in_ok-refuse_if-2.ensures _ _ (refused_at _ _ c.in_err-refuse_if-3.ensures _))))

pub returns-in_err-refuse_if-4-clause-refusal : goal.returns-in_err-refuse_if-4-clause-refusal
returns-in_err-refuse_if-4-clause-refusal c =
    rw (← c.is_partial.ensures, ← c.is_partial-2.ensures, ← c.is_partial-3.ensures, ← c.are_short.ensures)
    (back-found _ _ c.from_residual-in_err-refuse_if-4.ensures _
    (after _ c.in_ok-refuse_if.ensures _ _ (after _ c.in_ok-refuse_if-2.ensures _ _ (after _ c.in_ok-refuse_if-3.ensures _ _
    (refused_at _ _ c.in_err-refuse_if-4.ensures _)))))

pub returns-in_err-accepted-clause-refusal : goal.returns-in_err-accepted-clause-refusal
returns-in_err-accepted-clause-refusal c =
    rw (← c.is_partial.ensures, ← c.is_partial-2.ensures, ← c.is_partial-3.ensures, ← c.are_short.ensures)
    (back-found _ _ c.from_residual-in_err-accepted.ensures _
    (after _ c.in_ok-refuse_if.ensures _ _ (after _ c.in_ok-refuse_if-2.ensures _ _ (after _ c.in_ok-refuse_if-3.ensures _ _
    (after _ c.in_ok-refuse_if-4.ensures _ _ (refused_at _ _ c.in_err-accepted.ensures.refusal _))))))

pub returns-in_err-rules-clause-refusal : goal.returns-in_err-rules-clause-refusal
returns-in_err-rules-clause-refusal c =
    rw (← c.is_partial.ensures, ← c.is_partial-2.ensures, ← c.is_partial-3.ensures, ← c.are_short.ensures)
    (back-found _ _ c.from_residual-in_err-rules.ensures _
    (after _ c.in_ok-refuse_if.ensures _ _ (after _ c.in_ok-refuse_if-2.ensures _ _ (after _ c.in_ok-refuse_if-3.ensures _ _
    (after _ c.in_ok-refuse_if-4.ensures _ _ (after _ c.in_ok-accepted.ensures.refusal _ _
    (refused_at _ _ c.in_err-rules.ensures.refusal _)))))))

pub returns-in_err-sites-clause-refusal : goal.returns-in_err-sites-clause-refusal
returns-in_err-sites-clause-refusal c =
    rw (← c.is_partial.ensures, ← c.is_partial-2.ensures, ← c.is_partial-3.ensures, ← c.are_short.ensures)
    (back-found _ _ c.from_residual-in_err-sites.ensures _
    (after _ c.in_ok-refuse_if.ensures _ _ (after _ c.in_ok-refuse_if-2.ensures _ _ (after _ c.in_ok-refuse_if-3.ensures _ _
    (after _ c.in_ok-refuse_if-4.ensures _ _ (after _ c.in_ok-accepted.ensures.refusal _ _
    (after _ c.in_ok-rules.ensures.refusal _ _ c.in_err-sites.ensures.refusal)))))))

pub returns-clause-refusal : goal.returns-clause-refusal
returns-clause-refusal c =
    rw (← c.is_partial.ensures, ← c.is_partial-2.ensures, ← c.is_partial-3.ensures, ← c.are_short.ensures)
    (after _ c.in_ok-refuse_if.ensures _ _ (after _ c.in_ok-refuse_if-2.ensures _ _ (after _ c.in_ok-refuse_if-3.ensures _ _
    (after _ c.in_ok-refuse_if-4.ensures _ _ (after _ c.in_ok-accepted.ensures.refusal _ _
    (after _ c.in_ok-rules.ensures.refusal _ _ c.in_ok-sites.ensures.refusal))))))
