-- Nothing is used yet in an array of zeros.
use Rattle.circuit.specs.Circuit.{max_references}
use Rattle.circuit.proofs.PassLaws.{zeros-at}
use Rattle.translator.proofs.last_use.LiveRanges.new.Goals as goal

pub mark_operands-requires : goal.mark_operands-requires
mark_operands-requires c = rw c.requires.empty (zeros-at max_references)
