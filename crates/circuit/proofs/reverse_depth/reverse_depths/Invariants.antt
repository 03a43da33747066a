use Prim.Native.Nat.{◌≤◌}
use Rattle.circuit.specs.Table.{gates}
use Rattle.circuit.proofs.BackwardLaws.{RaisedFrom}
use Rattle.circuit.proofs.reverse_depth.reverse_depths.Given as goal

abbrev pub invariant-loop-i : goal.invariant-loop-i
invariant-loop-i l = (l.i ≤ gates l.circuit) × RaisedFrom l.circuit l.initial.u l.u l.i

abbrev pub decreases-loop-i : goal.decreases-loop-i
decreases-loop-i l = l.i
