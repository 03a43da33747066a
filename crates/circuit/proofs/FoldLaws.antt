-- The fold over gates solves them, and the simulation: two valuations that solve the same gates along a renaming agree.
-- Over any carrier and operation. Assumes nothing.
use mathlib.Core.Path.{◌≡◌, ap, ap₂, ◌∙◌}
use mathlib.Core.List.{List, [], ◌∷◌, ◌++◌}
use Prim.Native.Nat.{ℕ, zero, suc, ◌<◌}
use native.Mathlib.Decide.{dec_lt}
use native.Mathlib.Numerals.{add-one}
use native.Mathlib.Omega.{arith}
use lib.ListN.{length, get_or, length-append}
use lib.Seq.{get_or-append_seam}
use Rattle.lists.specs.Each.{append_each}
use Rattle.lists.proofs.Each.{each-front, each-length}
use Rattle.circuit.specs.Circuit.{Gate}
use Rattle.circuit.specs.Fold.{gate_value, fold_gates}
use Rattle.circuit.specs.Theorems.{FoldKeepsStart, FoldSolves, Simulation}

-- what holds of z, of each element and of x holds of each element with x behind them
pub one_more : {A : Type 0} (P : A → Type 0) (z : A) → P z → (vs : List A) (x : A) → ((r : ℕ) → P (get_or vs r z)) → P x
    → (r : ℕ) → P (get_or (vs ++ (x ∷ [])) r z)
one_more P z pz [] x h p zero = p
one_more P z pz [] x h p (suc r) = pz
one_more P z pz (v ∷ vs) x h p zero = h zero
one_more P z pz (v ∷ vs) x h p (suc r) = one_more P z pz vs x (λ r. h (suc r)) p r

pub simulation : Simulation
simulation A op Wanted ρ v v' n [] low s t old r h = old r (omega arith)
simulation A op Wanted ρ v v' n (g ∷ gs) low s t old r h = simulation A op Wanted ρ v v' (suc n) gs low.1 s.1 t.1 more r (omega arith)
  where
    more : (r : ℕ) → r < suc n → Wanted r → v' (ρ r) ≡ v r
    more r h w =
        elim (dec_lt r n) [
          | yes l ↦ old r l w
          | no l ↦
              let e : r ≡ n = omega arith in
              let x = t.0 (rw e at w) in
              rw (e, x.2, s.0) (ap₂ (op g.kind) (old g.left low.0.0 x.0) (old g.right low.0.1 x.1))
        ]

module _ {A : Type 0} (op : ℕ → A → A → A) (z : A) where
  abbrev with-next : Gate → List A → List A
  with-next g vs = vs ++ (gate_value op z g vs ∷ [])

  next-length : (g : Gate) (vs : List A) → length (with-next g vs) ≡ suc (length vs)
  next-length g vs = length-append vs (gate_value op z g vs ∷ []) ∙ add-one (length vs)

  -- what holds of the start, of z and of whatever `op` gives holds of all values
  pub fold-keeps : (P : A → Type 0) → P z → ((k : ℕ) (a b : A) → P a → P b → P (op k a b))
      → (gs : List Gate) (vs : List A) → ((r : ℕ) → P (get_or vs r z)) → (r : ℕ) → P (get_or (fold_gates op z gs vs) r z)
  unfolding append_each
  fold-keeps P pz po [] vs h = h
  fold-keeps P pz po (g ∷ gs) vs h = fold-keeps P pz po gs (with-next g vs) (one_more P z pz vs _ h (po g.kind _ _ (h g.left) (h g.right)))

pub fold-keeps-start : FoldKeepsStart
fold-keeps-start A op z gs start = (each-length (gate_value op z) gs start, λ r h. each-front (gate_value op z) gs start r z h)

pub fold-solves : FoldSolves
unfolding append_each
fold-solves A op z [] vs n e low = tt
fold-solves A op z (g ∷ gs) vs n e low = (
  rw (
    ← e,
    each-front (gate_value op z) gs (with-next op z g vs) (length vs) z (omega (arith, next-length op z g vs)),
    each-front (gate_value op z) (g ∷ gs) vs g.left z (omega (arith, low.0)),
    each-front (gate_value op z) (g ∷ gs) vs g.right z (omega (arith, low.0)),
  )
      (get_or-append_seam vs _ [] z),
  fold-solves A op z gs (with-next op z g vs) (suc n) (next-length op z g vs ∙ ap suc e) low.1,
)
