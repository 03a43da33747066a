-- A bool as a number is `bool_byte-is`.
use mathlib.Core.Path.{ap₂}
use Prim.Native.Nat.{◌+◌}
use Rattle.translator.proofs.CountingLaws.{bool_byte-is}
use Rattle.translator.proofs.pressure.kept_operands.Goals as goal

pub returns : goal.returns
returns c = rw (c.kept-left.ensures.left, c.kept-left.ensures.right) (ap₂ ◌+◌ (bool_byte-is _) (bool_byte-is _))
