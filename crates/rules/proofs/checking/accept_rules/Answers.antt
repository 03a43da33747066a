-- Law `accepted-rules-are-well-formed`: no check has found anything.
use Rattle.lines.proofs.CheckLaws.{all-passed}
use Rattle.rules.proofs.RefusalLaws.{accepted-rules-are-well-formed}
use Rattle.rules.proofs.checking.accept_rules.Goals as goal

pub invariant_of-result : goal.invariant_of-result
invariant_of-result c = record { well_formed = (accepted-rules-are-well-formed _).0 (all-passed _ c.in_ok-check_rules.ensures).0 }
