use Prim.Native.Nat.{◌+◌, ◌-◌, ◌≤◌}
use lib.ListN.{length}
use Rattle.circuit.proofs.StartLaws.{Walked}
use Rattle.circuit.proofs.checking.walk_starts.Given as goal

abbrev pub invariant-loop-p : goal.invariant-loop-p
invariant-loop-p l = (l.p ≤ length l.t + 3) × Walked l.t l.top l.before l.p

abbrev pub decreases-loop-p : goal.decreases-loop-p
decreases-loop-p l = length l.t + 3 - l.p
