-- The two answers of `list`: laws `printed-listing` and `printed-refusal` of ListingTheorems.
use Prim.Native.Nat.{◌≤◌}
use lib.ListN.{length}
use borrow.Author.Rules.{rules}
use Rattle.napspruce.specs.ListingCall.{max_listing}
use Rattle.napspruce.proofs.ListingTheorems.{printed-listing, printed-refusal}
use Rattle.napspruce.proofs.printing.print_listing.Goals as goal

pub returns-in-Ok : goal.returns-in-Ok
returns-in-Ok c =
    let all = printed-listing _ _ _ _ _ _ c.in-Ok.ensures in
    record { value = all.0; out_after = all.1 }

pub returns-in-Err : goal.returns-in-Err
returns-in-Err c =
    let room : max_listing ≤ length c.args.out.now = search rules in
    let w = c.write_refusal.ensures in
    let all = printed-refusal _ _ _ _ _ _ _ c.in-Err.ensures room _ _ w.value w.out_after in
    record { value = all.0; out_after = all.1 }
