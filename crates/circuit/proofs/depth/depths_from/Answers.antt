-- Laws of `DepthsTo`: the depths of the first i gates are there.
use mathlib.Core.Path.{◌∙◌}
use Rattle.circuit.proofs.DepthLaws.{depths-resumed, depth-limit, depths-more, depths-all}
use borrow.Author.Rules.{rules}
use Rattle.circuit.specs.Circuit.{gate_of}
use Rattle.circuit.proofs.depth.depths_from.Goals as goal

pub loop-i-init : goal.loop-i-init
loop-i-init c =
    let same = c.of-circuit.ensures ∙ c.table.ensures.value in
    rw same (search rules, depths-resumed c.args.circuit.now c.args.d.now c.args.start c.requires.d_value)

pub gate_depth-requires : goal.gate_depth-requires
gate_depth-requires c = let g = c.gate-g in
    let l = c.loop-i in
    let same = c.of-circuit.ensures ∙ c.table.ensures.value in
    let room = rw (← same) at c.requires.t_in_bounds in
    let limit =
    depth-limit c.of-circuit.result c.args.d.now c.first_gate-first.ensures.well_formed room l.d l.i l.invariant.1
    (search rules) in
    record {
      a_le_max_depth = limit g.result.left g.ensures.operands_bound.0;
      b_le_max_depth = limit g.result.right g.ensures.operands_bound.1;
    }

pub loop-i-preserved : goal.loop-i-preserved
loop-i-preserved c = let g = c.gate-g in
    let l = c.loop-i in
    let same = c.of-circuit.ensures ∙ c.table.ensures.value in
    let room = rw (← same) at c.requires.t_in_bounds in (
      search rules,
      depths-more c.of-circuit.result c.args.d.now c.first_gate-first.ensures.well_formed room l.d l.i l.invariant.1
          (search rules) _ c.first_gate-first.ensures.value _ (gate_of g.result) g.ensures.value c.gate_depth.ensures,
    )

pub returns : goal.returns
returns c = let l = c.loop-i in
    let same = c.of-circuit.ensures ∙ c.table.ensures.value in
    let room = rw (← same) at c.requires.t_in_bounds in
    rw (← same)
    (depths-all c.of-circuit.result c.args.d.now c.first_gate-first.ensures.well_formed room l.d l.i l.invariant.1
    (search rules) (search rules))
