-- The call `rewrite`: its numbers, and what its answer says to callers. Assumes nothing.
use mathlib.Core.Path.{◌≡◌, refl, ap, ap₂, ◌∙◌}
use mathlib.Core.Bool.{Bool, true, false, ◌||◌, true≢false}
use mathlib.Core.List.{List, [], ◌∷◌}
use mathlib.Core.Option.{some}
use Prim.Native.Nat.{ℕ, ◌≤◌}
use lib.Dec.{ltb}
use lib.ListN.{length}
use borrow.Author.Tests.{ltb-false}
use Rattle.lines.specs.Refusal.{gives}
use Rattle.lines.specs.Checks.{buffers_after}
use Rattle.lines.proofs.CheckLaws.{answer-given}
use Rattle.circuit.specs.Circuit.{max_table, line_count}
use Rattle.circuit.specs.Critical.{pair_of}
use Rattle.circuit.specs.Table.{decode}
use Rattle.circuit.specs.Refusal.{refusal}
use Rattle.circuit.specs.declared.critical.DepthPair.{DepthPair}
use Rattle.rules.specs.RuleRefusal.{rules_refusal}
use Rattle.rules.specs.SiteTable.{max_sites, sites_refusal}
use Rattle.rewriting.specs.Run.{final_state}
use Rattle.rewriting.specs.Theorems.{RefusalKeepsBuffers}
use Rattle.rewriting.specs.RewriteCall.{Lent, lent, lent_after, are_short, done_values, rewrite_checks, rewriting}

-- refusal 2 does not apply: there is room in each buffer
pub long-enough : (result work verdicts : List ℕ) → are_short result work verdicts ≡ false
    → (max_table ≤ length result) × (max_table ≤ length work) × (max_sites ≤ length verdicts)
long-enough result work verdicts e =
    let a = neither (ltb (length result) max_table) _ e in
    let b = neither (ltb (length work) max_table) (ltb (length verdicts) max_sites) a.1 in
    (ltb-false _ _ a.0, ltb-false _ _ b.0, ltb-false _ _ b.1)
  where
    neither : (x y : Bool) → (x || y) ≡ false → (x ≡ false) × (y ≡ false)
    neither true y e = absurd (true≢false e)
    neither false y e = (refl, e)

-- the numbers of a success
pub done-values : (circuit rules sites : List ℕ) (lines : ℕ) (old new : DepthPair) (kept : ℕ) → lines ≡ line_count (final_state circuit rules sites).circuit
    → old ≡ pair_of (decode circuit) → new ≡ pair_of (final_state circuit rules sites).circuit → kept ≡ (final_state circuit rules sites).kept
    → lines ∷ old.depth ∷ old.critical ∷ new.depth ∷ new.critical ∷ kept ∷ [] ≡ done_values circuit rules sites
unfolding done_values
done-values circuit rules sites lines old new kept l o n k =
    ap₂ (λ x (p : DepthPair). x ∷ p.depth ∷ p.critical ∷ new.depth ∷ new.critical ∷ kept ∷ []) l o
    ∙ ap₂ (λ (p : DepthPair) x. line_count (final_state circuit rules sites).circuit ∷ (pair_of (decode circuit)).depth ∷ (pair_of (decode circuit)).critical ∷ p.depth ∷ p.critical ∷ x ∷ []) n k

-- ---- for callers

pub refusal-keeps-buffers : RefusalKeepsBuffers
unfolding rewriting
refusal-keeps-buffers circuit rules sites result work verdicts number table e =
    let q = ap (λ r. buffers_after r (lent result (some work) verdicts) (lent_after circuit rules sites result verdicts)) e in
    (ap (λ (x : Lent). x.result) q, ap (λ (x : Lent). x.work) q, ap (λ (x : Lent). x.verdicts) q)

-- what a success says: no test applied, the numbers are the defined ones, and so is all that it leaves
pub rewriting-given : (circuit rules sites result work verdicts values : List ℕ)
    → (rewriting circuit rules sites result work verdicts).answer ≡ gives values
    → (refusal circuit ≡ 0) × (rules_refusal rules ≡ 0) × (sites_refusal sites ≡ 0) × (values ≡ done_values circuit rules sites)
    × ((rewriting circuit rules sites result work verdicts).buffers ≡ lent_after circuit rules sites result verdicts)
unfolding rewriting
rewriting-given circuit rules sites result work verdicts values e =
    let (p, v) = answer-given (rewrite_checks circuit rules sites result work verdicts) _ values e in
    (p.1.1.1.1.0, p.1.1.1.1.1.0, p.1.1.1.1.1.1.0, v, ap (λ r. buffers_after r (lent result (some work) verdicts) (lent_after circuit rules sites result verdicts)) e)
