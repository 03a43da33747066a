-- Law `accepted-sites-are-well-formed`: no check has found anything.
use Rattle.lines.proofs.CheckLaws.{all-passed}
use Rattle.rules.proofs.SiteLaws.{accepted-sites-are-well-formed}
use Rattle.rules.proofs.checking.accept_sites.Goals as goal

pub invariant_of-result : goal.invariant_of-result
invariant_of-result c = record { well_formed = (accepted-sites-are-well-formed _).0 (all-passed _ c.in_ok-check_sites.ensures).0 }
