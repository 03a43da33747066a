-- Check by check, in the order of `text_checks` (CheckLaws).
use Rattle.lines.proofs.CheckLaws.{refused_at, back-found, after}
use Rattle.napspruce.proofs.listing.check_list.Goals as goal

pub returns-in_err-check_text : goal.returns-in_err-check_text
returns-in_err-check_text c = back-found _ _ c.from_residual.ensures _ (refused_at _ _ c.in_err-check_text.ensures _)

pub returns-in_err-check_text-2 : goal.returns-in_err-check_text-2
returns-in_err-check_text-2 c =
    back-found _ _ c.from_residual-in_err-check_text-2.ensures _
    (after _ c.in_ok-check_text.ensures _ _ (refused_at _ _ c.in_err-check_text-2.ensures _))

pub returns-in_err-check_text-3 : goal.returns-in_err-check_text-3
returns-in_err-check_text-3 c =
    back-found _ _ c.from_residual-in_err-check_text-3.ensures _
    (after _ c.in_ok-check_text.ensures _ _ (after _ c.in_ok-check_text-2.ensures _ _ (refused_at _ _ c.in_err-check_text-3.ensures _)))

pub returns : goal.returns
returns c =
    after _ c.in_ok-check_text.ensures _ _
    (after _ c.in_ok-check_text-2.ensures _ _ (after _ c.in_ok-check_text-3.ensures _ _ c.refuse_if.ensures))
