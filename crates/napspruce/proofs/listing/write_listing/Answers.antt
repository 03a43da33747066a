-- The summary and the verdicts are stored behind the circuit's lines, and the whole is written: laws `listing-length` and `listing-written`.
use mathlib.Core.Path.{◌≡◌, refl}
use Prim.Native.Nat.{◌+◌, ◌*◌}
use native.Mathlib.Omega.{arith}
use lib.ListN.{length}
use Rattle.napspruce.proofs.WriteLaws.{listing-length, listing-written}
use Rattle.napspruce.proofs.listing.write_listing.Goals as goal

pub returns : goal.returns
returns c =
    let a = c.args in
    let w1 = c.write_summary in
    let w2 = c.write_verdicts in
    let vs = a.verdicts.now in
    let room = c.requires.verdicts_in_bounds in
    let rows = a.lines + 3 + length vs in
    let three : 3 * rows ≡ 3 * a.lines + 9 + 3 * length vs = omega arith in
    record {
      value = listing-length a.table.now w1.new.table w2.new.table (3 * a.lines) (length vs) rows a.s vs room refl three w1.ensures w2.ensures;
      listing_after =
          listing-written a.table.now w1.new.table w2.new.table (3 * a.lines) (length vs) rows a.s vs room refl three w1.ensures w2.ensures
          a.listing.now _ c.write_lines.ensures;
    }
