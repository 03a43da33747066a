-- What the reading has left is written back (RecodingLaws).
use native.Mathlib.Omega.{arith}
use Rattle.lines.proofs.CheckLaws.{handed_back}
use Rattle.cases.proofs.RecodingLaws.{refused-so, long-so, room-so, taken-so, written-so}
use Rattle.cases.proofs.recoding.recode.Goals as goal

pub returns-in_err-lines-clause-out_after : goal.returns-in_err-lines-clause-out_after
returns-in_err-lines-clause-out_after c = rw (handed_back _ _ c.from_residual.ensures) (refused-so _ _ _ _ _ _ c.in_err-lines.ensures)

pub overflow_mul-lines : goal.overflow_mul-lines
overflow_mul-lines c = omega (arith, long-so _ _ _ _ c.in_ok-lines.ensures)

pub slice_bounds-write-end : goal.slice_bounds-write-end
slice_bounds-write-end c = room-so _ _ _ _ c.in_ok-lines.ensures

pub slice_bounds-write-end-2 : goal.slice_bounds-write-end-2
slice_bounds-write-end-2 c = taken-so _ _ _ _ c.in_ok-lines.ensures

pub returns-clause-out_after : goal.returns-clause-out_after
returns-clause-out_after c = written-so _ _ _ _ c.in_ok-lines.ensures _ _ c.write.ensures
