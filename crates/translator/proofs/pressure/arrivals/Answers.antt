-- A mark as a number is `bool_byte-is`; what is taken leaves no mark.
use mathlib.Core.Path.{ap₂}
use Prim.Native.Nat.{◌+◌}
use Rattle.translator.proofs.CountingLaws.{bool_byte-is}
use Rattle.translator.proofs.pressure.arrivals.Goals as goal

pub returns-clause-value : goal.returns-clause-value
returns-clause-value c = let a = c.take-left.ensures in
    rw (a.value, c.take-right.ensures.value, a.after) (ap₂ ◌+◌ (bool_byte-is _) (bool_byte-is _))

pub returns-clause-unmarked : goal.returns-clause-unmarked
returns-clause-unmarked c = rw (c.take-left.ensures.after, c.take-right.ensures.after)
