-- The starting levels, then the depths over them: laws `depths-none` and `depths-over`.
use Rattle.circuit.proofs.DepthLaws.{depths-none, depths-over}
use borrow.Author.Rules.{rules}
use Rattle.circuit.proofs.depth.depths.Goals as goal

pub depths_from-requires : goal.depths_from-requires
depths_from-requires c =
    record {
      t_in_bounds = search rules;
      start_bound = search rules;
      d_value = depths-none c.args.circuit.now c.args.d.now _ c.start_levels.ensures;
    }

pub returns : goal.returns
returns c = depths-over c.args.circuit.now c.args.d.now _ c.start_levels.ensures _ c.depths_from.ensures
