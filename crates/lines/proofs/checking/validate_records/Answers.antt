-- Check by check, in the order of `line_checks` (CheckLaws).
use mathlib.Core.Path.{sym}
use Rattle.lines.specs.Calls.{validation}
use Rattle.lines.proofs.CheckLaws.{refused_at, back-answer, after, all-passed, answer-gives}
use Rattle.lines.proofs.checking.validate_records.Goals as goal

pub returns-in_err-refuse_if : goal.returns-in_err-refuse_if
unfolding validation
returns-in_err-refuse_if g c =
    rw (← c.is_partial.ensures) (back-answer _ _ c.from_residual.ensures _ (refused_at _ _ c.in_err-refuse_if.ensures _) _ _)

pub returns-in_err-refuse_if-2 : goal.returns-in_err-refuse_if-2
unfolding validation
returns-in_err-refuse_if-2 g c = rw (← c.is_partial.ensures, ← c.are_right.ensures)
    (back-answer _ _ c.from_residual-in_err-refuse_if-2.ensures _ (after _ c.in_ok-refuse_if.ensures _ _ c.in_err-refuse_if-2.ensures) _ _)

pub returns : goal.returns
unfolding validation
returns g c = rw (← c.is_partial.ensures, ← c.are_right.ensures, c.SIZE.ensures)
    (sym (answer-gives _ _ ((all-passed _ c.in_ok-refuse_if.ensures).0, all-passed _ c.in_ok-refuse_if-2.ensures)))
