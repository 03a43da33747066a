-- Zeros, then the levels in them: law `levels-over`.
use mathlib.Core.Path.{ap, ◌∙◌}
use lib.ListN.{replicate}
use Rattle.lines.specs.Calls.{over}
use Rattle.circuit.proofs.DepthLaws.{levels-over}
use Rattle.circuit.proofs.depth.start_levels.Goals as goal

pub returns : goal.returns
returns c = let zeros = c.clear.ensures ∙ ap (λ n. over (replicate n 0) c.args.d.now) c.first_gate.ensures.value in
    levels-over c.args.circuit.now c.args.d.now _ _ c.first_gate.ensures.well_formed zeros c.set_levels.ensures
