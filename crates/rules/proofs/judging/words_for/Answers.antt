-- One word, or a shift that loses no bit.
use native.Mathlib.Omega.{arith}
use Prim.Native.Nat.{◌-◌}
use Rattle.rules.specs.Words.{masked_holes}
use Rattle.rules.proofs.SoundnessLaws.{one_word}
use Rattle.rules.proofs.UseWordLaws.{shift_one}
use Rattle.rules.proofs.judging.words_for.Goals as goal

pub returns-then-holes-le-MASKED_HOLES : goal.returns-then-holes-le-MASKED_HOLES
returns-then-holes-le-MASKED_HOLES c = one_word c.args.holes c.if-holes-le-MASKED_HOLES.true

pub returns-else-holes-le-MASKED_HOLES : goal.returns-else-holes-le-MASKED_HOLES
returns-else-holes-le-MASKED_HOLES c = shift_one (c.args.holes - masked_holes) (omega (arith, c.requires))
