use Prim.Native.Nat.{◌≤◌}
use Rattle.circuit.specs.Refusal.{is_closing, reference_below}
use Rattle.circuit.proofs.EachLaws.{Tests}
use Rattle.circuit.proofs.checking.test_closings.Given as goal

abbrev pub invariant-loop-i : goal.invariant-loop-i
invariant-loop-i l = (l.i ≤ l.n) × Tests is_closing 0 l.q l.n l.t l.initial.tested.kinds l.i l.tested.kinds × Tests (reference_below l.top) 0 l.q l.n l.t l.initial.tested.references l.i l.tested.references
