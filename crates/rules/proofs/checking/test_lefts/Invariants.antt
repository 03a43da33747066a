use Prim.Native.Nat.{◌≤◌}
use lib.ListN.{drop}
use Rattle.circuit.specs.Refusal.{has_gate_kind, operands_below}
use Rattle.circuit.specs.Table.{lines_of}
use Rattle.circuit.proofs.EachLaws.{Tests}
use Rattle.rules.proofs.UseWordLaws.{Marking}
use Rattle.rules.proofs.checking.test_lefts.Given as goal

abbrev pub invariant-loop-i : goal.invariant-loop-i
invariant-loop-i l =
    (l.i ≤ l.n) × Tests has_gate_kind l.first l.q l.n l.t l.initial.tested.kinds l.i l.tested.kinds × Tests operands_below l.first l.q l.n l.t l.initial.tested.references l.i l.tested.references
    × Marking l.used (lines_of l.n (drop l.q l.t)) l.i
