use Prim.Native.Nat.{◌≤◌}
use Rattle.circuit.specs.Table.{gates}
use Rattle.circuit.proofs.BackwardLaws.{RaisedFrom}
use Rattle.circuit.proofs.CriticalLaws.{CountedFrom}
use Rattle.circuit.proofs.critical.critical_with_reverse_depths.Given as goal

abbrev pub invariant-loop-i : goal.invariant-loop-i
invariant-loop-i l = (l.i ≤ gates l.circuit) × RaisedFrom l.circuit l.initial.u l.u l.i × CountedFrom l.circuit l.count l.i

abbrev pub decreases-loop-i : goal.decreases-loop-i
decreases-loop-i l = l.i
