-- A sites table is well formed exactly if it is not refused. Assumes nothing.
use mathlib.Core.Path.{◌≡◌}
use mathlib.Core.Bool.{true, false, not, ◌&&◌}
use mathlib.Core.List.{List}
use Prim.Native.Nat.{ℕ}
use native.Mathlib.Omega.{arith}
use lib.Dec.{eqb, leb}
use lib.ListN.{length, get_or}
use borrow.Author.Tests.{eq-eqb, eqb-true, le-leb, leb-true, not-false}
use Rattle.lists.proofs.Tests.{both, left-of, right_of}
use Rattle.lines.specs.Text.{is_partial}
use Rattle.circuit.proofs.RefusalLaws.{passed}
use Rattle.rules.specs.SiteTable.{site_count, max_sites, sites_end, sites_head_in_limits, sites_as_head_says, sites_refusal}
use Rattle.rules.specs.WellFormed.{WellFormedSites}
use Rattle.rules.specs.Theorems.{AcceptedSitesAreWellFormed}
use Rattle.rules.proofs.RefusalLaws.{whole-passes}

module _ (t : List ℕ) where
  -- what the tests 4 and 5 leave
  pub sites-of : sites_head_in_limits t ≡ true → sites_as_head_says t ≡ true → WellFormedSites t
  sites-of h k =
      let a = leb (site_count t) max_sites in
      let b = eqb (get_or t 1 0) 0 in
      let c = eqb (get_or t 2 0) 0 in
      record {
        count-limit = leb-true _ _ (left-of a (b && c) h);
        second-zero = eqb-true _ _ (left-of b c (right_of a (b && c) h));
        third-zero = eqb-true _ _ (right_of b c (right_of a (b && c) h));
        long = eqb-true _ _ k;
      }

  accepted : sites_refusal t ≡ 0 → WellFormedSites t
  unfolding sites_refusal
  accepted h =
      let a = passed (is_partial 3 t) 0 _ h in
      let b = passed (not (sites_head_in_limits t)) 3 _ a.1 in
      let c = passed (not (sites_as_head_says t)) 4 _ b.1 in
      sites-of (not-false (sites_head_in_limits t) b.0) (not-false (sites_as_head_says t) c.0)

  pub well-formed-sites-accepted : WellFormedSites t → sites_refusal t ≡ 0
  unfolding sites_refusal
  well-formed-sites-accepted w =
      let e = whole-passes t (omega (arith, w.long)) (omega (arith, w.long)) in
      let h : sites_head_in_limits t ≡ true =
      both {a = leb (site_count t) max_sites} (le-leb _ _ w.count-limit) (both {a = eqb (get_or t 1 0) 0} (eq-eqb _ _ w.second-zero) (eq-eqb _ _ w.third-zero)) in
      let l : sites_as_head_says t ≡ true = eq-eqb (length t) (sites_end t) w.long in
      rw (e, h, l)

  -- ---- the refusal, test by test

  module _ (w : is_partial 3 t ≡ false) where
    pub sites-head : sites_head_in_limits t ≡ false → 4 ≡ sites_refusal t
    unfolding sites_refusal
    sites-head e = rw (w, e)

    pub sites-lines : sites_head_in_limits t ≡ true → sites_as_head_says t ≡ false → 5 ≡ sites_refusal t
    unfolding sites_refusal
    sites-lines h e = rw (w, h, e)

pub accepted-sites-are-well-formed : AcceptedSitesAreWellFormed
accepted-sites-are-well-formed t = (accepted t, well-formed-sites-accepted t)
