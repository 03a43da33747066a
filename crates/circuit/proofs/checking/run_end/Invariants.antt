use mathlib.Core.Path.{◌≡◌}
use Prim.Native.Nat.{◌+◌, ◌*◌, ◌-◌, ◌≤◌}
use lib.ListN.{length, drop}
use Rattle.circuit.specs.Table.{start_run}
use Rattle.circuit.proofs.checking.run_end.Given as goal

abbrev pub invariant-loop-q : goal.invariant-loop-q
invariant-loop-q l = (l.q ≤ length l.t + 3) × (l.q + 3 * start_run (drop l.q l.t) ≡ l.p + 3 * start_run (drop l.p l.t))

abbrev pub decreases-loop-q : goal.decreases-loop-q
decreases-loop-q l = length l.t + 3 - l.q
