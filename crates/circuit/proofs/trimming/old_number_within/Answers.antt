-- Rests on `reverse_depths` and `old_by_reverse_depths` alone.
use Rattle.circuit.proofs.BackwardLaws.{reverse-front}
use Rattle.circuit.proofs.trimming.old_number_within.Goals as goal

pub old_by_reverse_depths-requires-clause-u_value : goal.old_by_reverse_depths-requires-clause-u_value
old_by_reverse_depths-requires-clause-u_value g c = reverse-front c.args.circuit.now _ _ c.reverse_depths.ensures
