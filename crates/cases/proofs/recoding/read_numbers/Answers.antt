-- A success has read as many lines as it says (RecodingLaws).
use native.Mathlib.Omega.{arith}
use Rattle.cases.proofs.RecodingLaws.{long-so, taken-so}
use Rattle.cases.proofs.recoding.read_numbers.Goals as goal

pub overflow_mul-result : goal.overflow_mul-result
overflow_mul-result c = omega (arith, long-so _ _ _ _ c.in-Ok.ensures)

pub slice_bounds-result-end : goal.slice_bounds-result-end
slice_bounds-result-end c = taken-so _ _ _ _ c.in-Ok.ensures
