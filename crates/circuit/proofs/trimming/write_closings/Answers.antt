-- Laws of `ClosingsTo`: the closing lines of the outputs before output i are there.
use mathlib.Core.Path.{◌∙◌}
use Prim.Native.Nat.{◌<◌}
use native.Mathlib.Omega.{arith}
use Rattle.circuit.specs.Table.{outputs}
use Rattle.circuit.proofs.TrimmingLaws.{closings-more, closings-all}
use Rattle.circuit.proofs.trimming.write_closings.Goals as goal

pub loop-i-preserved : goal.loop-i-preserved
loop-i-preserved c = let t = c.of-circuit.result in
    let same = c.of-circuit.ensures ∙ c.table.ensures.value in
    let asked = rw (← same) at c.requires in
    let l = c.loop-i in
    let o = c.output.ensures in
    let h : l.i < outputs t = omega arith in
    closings-more t c.args.out.now c.args.at l.out l.i l.invariant h c.args.names.now asked.by_index _ o.value o.upper_bound _
    c.write_row.ensures

pub returns-clause-out_after : goal.returns-clause-out_after
returns-clause-out_after c = let l = c.loop-i in
    let same = c.of-circuit.ensures ∙ c.table.ensures.value in
    rw (← same) (closings-all c.of-circuit.result c.args.out.now c.args.at l.out l.i l.invariant (omega arith))
