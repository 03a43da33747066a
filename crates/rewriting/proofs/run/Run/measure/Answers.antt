-- The depths below the gate are copied, the others worked out from there: law `depths-front`.
use Rattle.circuit.proofs.DepthLaws.{depths-front}
use Rattle.rewriting.proofs.run.Run.measure.Goals as goal

pub returns-clause-depths_after : goal.returns-clause-depths_after
returns-clause-depths_after c = depths-front c.args.candidate.now _ _ c.depths_from.ensures
