-- Neither bit is shifted out: law `shift_one`.
use mathlib.Core.Path.{ap}
use Prim.Native.Nat.{◌-◌, ◌^◌}
use lib.Pow.{pow_mono}
use Rattle.circuit.specs.Circuit.{constants}
use Rattle.rules.proofs.UseWordLaws.{shift_one}
use Rattle.rules.proofs.checking.owed.Goals as goal

pub overflow_sub-result : goal.overflow_sub-result
overflow_sub-result c = rw (shift_one c.args.root c.requires.1) (pow_mono c.requires.0)

pub returns : goal.returns
returns c = ap (λ x. x - 2 ^ constants) (shift_one c.args.root c.requires.1)
