-- Laws of `MarkedTo`: the outputs before output i are marked, where zeros were before.
use mathlib.Core.Path.{◌≡◌, ◌∙◌}
use lib.ListN.{replicate}
use Rattle.lines.specs.Calls.{over}
use Rattle.circuit.specs.Table.{refs}
use Rattle.circuit.proofs.BackwardLaws.{marked-none, marked_more, marked_all}
use borrow.Author.Rules.{rules}
use Rattle.circuit.proofs.reverse_depth.mark_outputs.Goals as goal

pub loop-i-init : goal.loop-i-init
loop-i-init c =
    let same = c.of-circuit.ensures ∙ c.table.ensures.value in
    let zeros : c.clear.new.d ≡ over (replicate (refs c.args.circuit.now) 0) c.args.u.now =
    rw c.references.ensures.value at c.clear.ensures in
    rw same (search rules, marked-none c.args.circuit.now c.args.u.now _ zeros)

pub loop-i-preserved : goal.loop-i-preserved
loop-i-preserved c = let l = c.loop-i in
    let same = c.of-circuit.ensures ∙ c.table.ensures.value in
    let room = rw (← same) at c.requires in
    (search rules, marked_more c.of-circuit.result _ l.u c.outputs-i-end.ensures.well_formed l.i l.invariant.1 (search rules) _ c.output.ensures.value)

pub returns : goal.returns
returns c = let l = c.loop-i in
    let same = c.of-circuit.ensures ∙ c.table.ensures.value in
    let zeros : c.clear.new.d ≡ over (replicate (refs c.args.circuit.now) 0) c.args.u.now = rw c.references.ensures.value at c.clear.ensures in
    rw (← same) (marked_all c.of-circuit.result c.args.u.now _ (rw same zeros) l.u l.i l.invariant.1 (search rules))
