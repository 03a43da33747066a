-- A value is where its place says, if it is in any register.
use mathlib.Core.Path.{sym}
use Rattle.translator.proofs.ArrayLaws.{register-place}
use Rattle.translator.proofs.registers.Registers.register_of.Goals as goal

pub returns : goal.returns
returns c = sym (register-place _ _ _ _ _ c.args.self.now.arrays c.args.v c.requires.held)
