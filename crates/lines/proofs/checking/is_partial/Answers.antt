-- By the definition of `is_partial`.
use Rattle.lines.specs.Text.{is_partial}
use Rattle.lines.proofs.checking.is_partial.Goals as goal

pub returns : goal.returns
unfolding is_partial
returns g c = rw (c.is_empty.ensures, c.SIZE.ensures)
