use mathlib.Core.List.{map}
use mathlib.Core.Path.{◌≡◌}
use Prim.Native.Nat.{◌≤◌, max}
use lib.ListN.{drop}
use Rattle.circuit.specs.Depth.{depth, largest}
use Rattle.circuit.specs.Table.{decode}
use Rattle.circuit.proofs.depth.output_depth.Given as goal

abbrev pub invariant-loop-i : goal.invariant-loop-i
invariant-loop-i l = (l.i ≤ l.i-end) × (max l.deepest (largest (map (depth (decode l.circuit)) (drop l.i (decode l.circuit).outputs))) ≡ largest (map (depth (decode l.circuit)) (decode l.circuit).outputs))
