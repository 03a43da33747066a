-- Rests on the three functions that it calls: what they leave, read by law `depths-front`.
use mathlib.Core.Path.{ap₂}
use Rattle.circuit.proofs.DepthLaws.{depths-front}
use borrow.Author.Rules.{rules}
use Rattle.circuit.proofs.critical.pair_with_reverse_depths.Goals as goal

pub output_depth-deepest-requires : goal.output_depth-deepest-requires
output_depth-deepest-requires c = record { t_in_bounds = search rules; d_value = depths-front c.args.circuit.now _ _ c.depths.ensures }

pub critical_with_reverse_depths-critical-requires : goal.critical_with_reverse_depths-critical-requires
critical_with_reverse_depths-critical-requires c =
    record {
      t_in_bounds = search rules;
      t_in_bounds_2 = search rules;
      d_value = depths-front c.args.circuit.now _ _ c.depths.ensures;
      deepest_value = c.output_depth-deepest.ensures;
    }

pub returns : goal.returns
returns c = let counted = c.critical_with_reverse_depths-critical.ensures in
    record {
      value = ap₂ (λ a b. record { depth = a; critical = b }) c.output_depth-deepest.ensures counted.value;
      d_after = c.depths.ensures;
      u_after = counted.u_after;
    }
