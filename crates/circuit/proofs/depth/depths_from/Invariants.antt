use Prim.Native.Nat.{◌≤◌}
use Rattle.circuit.proofs.DepthLaws.{DepthsTo}
use Rattle.circuit.proofs.depth.depths_from.Given as goal

abbrev pub invariant-loop-i : goal.invariant-loop-i
invariant-loop-i l = (l.i ≤ l.i-end) × DepthsTo l.circuit l.initial.d l.d l.i
