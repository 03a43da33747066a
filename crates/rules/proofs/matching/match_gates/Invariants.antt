use mathlib.Core.Path.{◌≡◌}
use Rattle.circuit.specs.Table.{decode}
use Rattle.rules.specs.Match.{match_gates}
use Rattle.rules.specs.Remembered.{said}
use Rattle.rules.proofs.matching.match_gates.Given as goal

abbrev pub invariant-loop-i : goal.invariant-loop-i
invariant-loop-i l = match_gates (decode l.c) (said l.rule) l.mask l.i l.b ≡ match_gates (decode l.c) (said l.rule) l.mask l.initial.i l.initial.b
