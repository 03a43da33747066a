-- One look says whether a value is in a register (`among-read`).
use native.Mathlib.Numerals.{add-one}
use native.Mathlib.Omega.{arith}
use Rattle.translator.proofs.ArrayLaws.{among-read}
use Rattle.translator.proofs.registers.Registers.holds.Goals as goal

pub bounds-owner-place : goal.bounds-owner-place
bounds-owner-place c = omega (arith, c.args.self.now.arrays.near c.args.v)

pub returns : goal.returns
returns c = rw add-one (among-read _ _ _ _ _ c.args.self.now.arrays c.args.v)
