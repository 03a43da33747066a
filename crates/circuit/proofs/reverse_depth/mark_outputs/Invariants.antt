use Prim.Native.Nat.{◌≤◌}
use Rattle.circuit.proofs.BackwardLaws.{MarkedTo}
use Rattle.circuit.proofs.reverse_depth.mark_outputs.Given as goal

abbrev pub invariant-loop-i : goal.invariant-loop-i
invariant-loop-i l = (l.i ≤ l.i-end) × MarkedTo l.circuit l.initial.u l.u l.i
