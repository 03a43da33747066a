-- What `rewrite` answers, on buffers with room, is what the listing is of (`Rewrote`, `listed-refused` in CallLaws).
use mathlib.Core.Path.{sym, ap, ◌∙◌}
use Prim.Native.Nat.{ℕ}
use native.Mathlib.Omega.{arith}
use lib.ListN.{length-replicate}
use Rattle.lines.proofs.CallLaws.{whole_is}
use Rattle.lines.proofs.CheckLaws.{handed_back}
use Rattle.circuit.specs.Circuit.{max_table}
use Rattle.rules.specs.SiteTable.{max_sites}
use Rattle.napspruce.specs.ListingCall.{listing_numbers}
use Rattle.napspruce.proofs.CallLaws.{rewrote, enough-room, listed-done, listed-refused}
use Rattle.napspruce.proofs.listing.list_tables.Goals as goal

pub returns-in_err-done : goal.returns-in_err-done
returns-in_err-done c =
    let a = c.args in
    rw (handed_back _ _ c.from_residual.ensures)
    (listed-refused a.circuit.now a.rules.now a.sites.now _ _ _ c.requires.circuit_value c.requires.rules_value c.requires.sites_value
    (enough-room listing_numbers max_table max_sites (omega arith) (omega arith) (omega arith)) _ _
    (ap (λ o. o.answer) (sym c.in_err-done.ensures)) a.listing.now)

pub bounds-sites-0 : goal.bounds-sites-0
bounds-sites-0 c = let w = whole_is 3 c.args.sites.now c.requires.sites_value in omega (arith, w.long, w.some)

pub slice_bounds-verdicts-end : goal.slice_bounds-verdicts-end
slice_bounds-verdicts-end c =
    let r = c.rewrite in
    let w = rewrote _ _ _ _ _ _ _ r.new.work _ _ (r.auto.verdicts ∙ length-replicate {A = ℕ} max_sites 0) c.in_ok-done.ensures in
    w.there

pub slice_bounds-verdicts-end-2 : goal.slice_bounds-verdicts-end-2
slice_bounds-verdicts-end-2 c =
    let r = c.rewrite in
    let w = rewrote _ _ _ _ _ _ _ r.new.work _ _ (r.auto.verdicts ∙ length-replicate {A = ℕ} max_sites 0) c.in_ok-done.ensures in
    sym w.each

pub write_listing-length-requires : goal.write_listing-length-requires
write_listing-length-requires c =
    let r = c.rewrite in
    let w = rewrote _ _ _ _ _ _ _ r.new.work _ _ (r.auto.verdicts ∙ length-replicate {A = ℕ} max_sites 0) c.in_ok-done.ensures in
    record {
      verdicts_in_bounds = omega (arith, w.line-limit, w.site-limit, w.each, r.auto.res, length-replicate {A = ℕ} listing_numbers 0);
      verdicts_le_max_sites = omega (arith, w.site-limit, w.each);
      listing_in_bounds = omega (arith, w.line-limit, w.site-limit, w.each, c.requires.max_listing_in_bounds);
    }

pub returns : goal.returns
returns c =
    let r = c.rewrite in
    let w = rewrote _ _ _ _ _ _ _ r.new.work _ _ (r.auto.verdicts ∙ length-replicate {A = ℕ} max_sites 0) c.in_ok-done.ensures in
    let l = c.write_listing-length in
    listed-done _ _ _ _ _ _ _ _ w _ _ l.ensures.value l.ensures.listing_after
