-- Pairs: a lower one weighs less, and trimming keeps them. Assumes nothing.
use mathlib.Core.Path.{◌≡◌, refl, sym, ap₂}
use mathlib.Core.Bool.{Bool, true, false, true≢false, ◌&&◌, ◌||◌}
use Prim.Native.Nat.{◌+◌, ◌≤◌, ◌<◌}
use native.Mathlib.Omega.{arith}
use lib.Dec.{eqb, ltb}
use borrow.Author.Tests.{eqb-true, ltb-true, le-ltb, ne_eqb}
use Rattle.std.specs.Ordering.{partial_lt}
use Rattle.std.proofs.lemmas.Bool.Decides.{nat_tests}
use Rattle.circuit.specs.Circuit.{Circuit, max_gates}
use Rattle.circuit.specs.Critical.{critical_count, pair_of}
use Rattle.circuit.specs.Trim.{trim}
use Rattle.circuit.specs.declared.critical.DepthPair.{DepthPair}
use Rattle.circuit.specs.contracts.critical.DepthPairPartialOrd.TheImpl as order
use Rattle.circuit.proofs.ValidLaws.{Valid, Limited}
use Rattle.circuit.proofs.BoundLaws.{critical-count-le}
use Rattle.circuit.proofs.TrimLaws.{trim-circuit-depth, trim-critical-count}
use Rattle.rewriting.specs.Pair.{is_lower, weight}
use Rattle.rewriting.specs.Theorems.{LowerWeighsLess}

pub lower-weighs-less : LowerWeighsLess
unfolding is_lower
lower-weighs-less new old h e = go (ltb new.depth old.depth) refl (eqb new.depth old.depth) refl e
  where
    go : (p : Bool) → ltb new.depth old.depth ≡ p → (q : Bool) → eqb new.depth old.depth ≡ q
        → (p || (q && ltb new.critical old.critical)) ≡ true → 1 + weight new ≤ weight old
    go true p q r e = omega (arith, ltb-true new.depth old.depth p)
    go false p true r e = omega (arith, eqb-true new.depth old.depth r, ltb-true new.critical old.critical e)
    go false p false r e = absurd (true≢false (sym e))

-- the order that the code derives is `is_lower`
pub less-is-lower : (new old : DepthPair) → partial_lt order.partial_cmp-value.it new old ≡ is_lower new old
unfolding is_lower
less-is-lower new old = grind (arith, nat_tests)

-- what is deeper is not lower, whatever its critical count
pub not-lower : (new old : DepthPair) → old.depth < new.depth → is_lower new old ≡ false
unfolding is_lower
not-lower new old h = rw (le-ltb new.depth old.depth (omega arith), ne_eqb new.depth old.depth (λ e. omega arith))

module _ (c : Circuit) where
  pub critical-limit : Limited c → critical_count c ≤ max_gates
  critical-limit l = omega (arith, critical-count-le c, l.gates-limit)

  pub trim-pair : Valid c → pair_of (trim c) ≡ pair_of c
  trim-pair ok = ap₂ (λ d n. record { depth = d; critical = n }) (trim-circuit-depth c ok) (trim-critical-count c ok)
