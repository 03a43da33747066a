-- Rests on `reverse_depths` and `trim_by_reverse_depths` alone.
use Rattle.circuit.proofs.BackwardLaws.{reverse-front}
use Rattle.circuit.proofs.trimming.trim_within.Goals as goal

pub trim_by_reverse_depths-requires-clause-u_value : goal.trim_by_reverse_depths-requires-clause-u_value
trim_by_reverse_depths-requires-clause-u_value g c = reverse-front c.args.circuit.now _ _ c.reverse_depths.ensures
