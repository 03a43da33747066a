-- A loop that stores a list behind a cursor, some elements a turn, and leaves what lies beyond. Assumes nothing.
use mathlib.Core.Path.{◌≡◌, refl, sym, ap, ap₂, ◌∙◌}
use mathlib.Core.List.{List, [], ◌++◌}
use Prim.Native.Nat.{ℕ, ◌+◌}
use native.Mathlib.Omega.{arith}
use lib.ListN.{length, length-append}
use lib.Seq.{sets, length-sets}
use Rattle.lists.proofs.Stores.{sets-append}

-- `rest` is still to be stored, from place `at` on, of `total`, which begins at `from`
pub record Appended {A : Type 0} (total d₀ : List A) (from : ℕ) (rest d : List A) (at : ℕ) : Type 0 where
  pub stores : sets d at rest ≡ sets d₀ from total
  pub place : at + length rest ≡ from + length total
  pub long : length d ≡ length d₀

module _ {A : Type 0} (total d₀ : List A) (from : ℕ) where
  pub appended-none : (rest : List A) (at : ℕ) → rest ≡ total → at ≡ from → Appended total d₀ from rest d₀ at
  appended-none rest at e q =
      record { stores = ap₂ (λ k r. sets d₀ k r) q e; place = ap₂ (λ k r. k + length r) q e; long = refl }

  module _ (rest d : List A) (at : ℕ) (s : Appended total d₀ from rest d at) where
    -- a turn that stores vs
    pub appended-more : (vs rest' d' : List A) (at' : ℕ) → rest ≡ vs ++ rest' → d' ≡ sets d at vs → at' ≡ at + length vs
        → Appended total d₀ from rest' d' at'
    appended-more vs rest' d' at' e f q =
        record {
          stores = ap₂ (λ x k. sets x k rest') f q ∙ sets-append vs rest' d at (length vs) refl ∙ sym (ap (sets d at) e) ∙ s.stores;
          place = omega (arith, s.place, ap length e ∙ length-append vs rest');
          long = ap length f ∙ length-sets d at vs ∙ s.long;
        }

    -- a turn that stores nothing
    pub appended-same : (rest' : List A) → rest ≡ rest' → Appended total d₀ from rest' d at
    appended-same rest' e =
        record { stores = ap (sets d at) (sym e) ∙ s.stores; place = ap (λ r. at + length r) (sym e) ∙ s.place; long = s.long }

    pub appended-all : rest ≡ [] → (d ≡ sets d₀ from total) × (at ≡ from + length total)
    appended-all e = (sym (ap (sets d at) e) ∙ s.stores, omega (arith, s.place, ap length e))
