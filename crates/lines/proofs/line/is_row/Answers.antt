-- By the definition of `is_row`.
use Rattle.std.proofs.Common.{refl}
use Rattle.lines.specs.Line.{is_row}
use Rattle.lines.proofs.line.is_row.Goals as goal

pub returns : goal.returns
unfolding is_row
returns c = refl
