use mathlib.Core.Path.{◌≡◌}
use mathlib.Core.Bool.{true}
use Rattle.rules.specs.Remembered.{said}
use Rattle.rules.specs.Words.{all_same_words, assignments_per_word}
use Rattle.rules.proofs.judging.is_sound.Given as goal

abbrev pub invariant-loop-w : goal.invariant-loop-w
invariant-loop-w l = all_same_words assignments_per_word l.w (said l.rule) ≡ true
