use mathlib.Core.Path.{◌≡◌}
use Prim.Native.Nat.{◌*◌}
use lib.ListN.{length, take}
use Rattle.circuit.specs.Circuit.{first_gate}
use Rattle.rules.specs.Rule.{max_left_references}
use Rattle.rules.specs.Words.{assignments_per_word, start_words}
use Rattle.rules.proofs.judging.set_high_words.Given as goal

abbrev pub invariant-loop-j : goal.invariant-loop-j
invariant-loop-j l =
    (length l.words ≡ max_left_references) × (take (first_gate l.j) l.words ≡ start_words assignments_per_word (l.w * assignments_per_word) l.j)
