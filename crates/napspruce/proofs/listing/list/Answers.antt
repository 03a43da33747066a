-- By what its checks have found: the refusal, or that each was passed (CheckLaws), and then the texts are listed as their tables are.
use mathlib.Core.Path.{◌∙◌}
use borrow.Author.Tests.{ltb-false}
use Rattle.lines.proofs.CheckLaws.{check-passed, refused_at, back-leaving, all-passed}
use Rattle.napspruce.specs.ListingCall.{listing_outcome}
use Rattle.napspruce.proofs.CallLaws.{listing-accepted}
use Rattle.napspruce.proofs.listing.list.Goals as goal

pub returns-in_err-check_list : goal.returns-in_err-check_list
unfolding listing_outcome
returns-in_err-check_list c = back-leaving _ _ c.from_residual.ensures _ (refused_at _ _ c.in_err-check_list.ensures _) _ _ _ _

pub list_accepted-requires : goal.list_accepted-requires
list_accepted-requires c =
    let p = all-passed _ c.in_ok-check_list.ensures in
    record {
      circuit_value = p.0;
      rules_value = p.1.0;
      sites_value = p.1.1.0;
      max_listing_in_bounds = ltb-false _ _ (check-passed _ 1 _ p.1.1.1.0);
    }

pub returns : goal.returns
returns c = c.list_accepted.ensures ∙ listing-accepted _ _ _ _ (all-passed _ c.in_ok-check_list.ensures)
