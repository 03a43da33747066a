-- Law `accepted-is-well-formed`: no check has found anything.
use Rattle.lines.proofs.CheckLaws.{all-passed}
use Rattle.circuit.proofs.RefusalLaws.{accepted-is-well-formed}
use Rattle.circuit.proofs.checking.accept.Goals as goal

pub of-requires : goal.of-requires
of-requires c = (accepted-is-well-formed _).0 (all-passed _ c.in_ok-check_circuit.ensures).0
