-- Law `run_fits`: the starting lines are within the table, so that the sum is within a usize.
use mathlib.Core.Path.{ap}
use Prim.Native.Nat.{◌+◌, ◌*◌}
use native.Mathlib.Omega.{arith}
use lib.Dec.{eqb}
use lib.ListN.{length, drop, length-drop}
use Rattle.circuit.specs.Table.{gates, outputs}
use Rattle.circuit.proofs.StartRunLaws.{run_fits}
use Rattle.circuit.proofs.checking.lines_as_head_says.Goals as goal

pub overflow_add-result : goal.overflow_add-result
overflow_add-result c = let t = c.args.t.now in
    omega (arith, run_fits (drop 3 t), length-drop 3 t, c.requires)

pub overflow_add-result-2 : goal.overflow_add-result-2
overflow_add-result-2 c = let t = c.args.t.now in
    omega (arith, run_fits (drop 3 t), length-drop 3 t, c.requires)

pub returns : goal.returns
returns c = let t = c.args.t.now in
    ap (λ p. eqb (length t) (p + 3 * gates t + 3 * outputs t)) c.requires.from_value
