-- Laws `deepest-more` and `deepest-all`: the largest so far and that of the outputs behind are the whole.
use Rattle.circuit.specs.Depth.{depth}
use Rattle.circuit.specs.Table.{decode}
use Rattle.circuit.proofs.DepthLaws.{deepest-more, deepest-all}
use Rattle.circuit.proofs.LoopLaws.{largest-none}
use borrow.Author.Rules.{rules}
use Rattle.circuit.proofs.depth.output_depth.Goals as goal

pub loop-i-init : goal.loop-i-init
loop-i-init c = (search rules, largest-none (depth (decode c.args.circuit.now)) (decode c.args.circuit.now).outputs)

pub loop-i-preserved : goal.loop-i-preserved
loop-i-preserved c = let l = c.loop-i in (
  search rules,
  deepest-more c.args.circuit.now c.args.d.now c.outputs-i-end.ensures.well_formed c.requires.d_value l.i l.deepest l.invariant.1
      (search rules) _ _ c.output.ensures.value c.max-deepest.ensures,
)

pub returns : goal.returns
returns c = let l = c.loop-i in
    deepest-all c.args.circuit.now c.args.d.now c.outputs-i-end.ensures.well_formed c.requires.d_value l.i l.deepest l.invariant.1 (search rules)
