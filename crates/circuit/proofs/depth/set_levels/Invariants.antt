use mathlib.Core.Path.{◌≡◌}
use lib.ListN.{drop}
use Rattle.circuit.specs.Table.{decode}
use Rattle.circuit.specs.Depth.{set_levels}
use Rattle.circuit.proofs.depth.set_levels.Given as goal

abbrev pub invariant-loop-i : goal.invariant-loop-i
invariant-loop-i l = set_levels (drop l.i (decode l.circuit).starts) l.d ≡ set_levels (decode l.circuit).starts l.initial.d
