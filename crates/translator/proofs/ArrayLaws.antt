-- The arrays that an allocation is kept in: finding a value, taking and freeing a register. Assumes nothing.
use mathlib.Core.Path.{◌≡◌, refl, sym, ap, ap₂, ◌∙◌}
use mathlib.Core.Logic.{◌≢◌}
use mathlib.Core.Bool.{true, false, true≢false}
use mathlib.Core.List.{List, ◌∷◌}
use Prim.Native.Nat.{ℕ, zero, suc, ◌+◌, ◌-◌, ◌≤◌, ◌<◌}
use native.Mathlib.Nat.{not-suc-le-zero, suc_inj, suc-ne-zero}
use native.Mathlib.Decide.{dec_lt, ℕ_discrete}
use native.Mathlib.Numerals.{add-one}
use native.Mathlib.Omega.{arith}
use lib.Dec.{eqb}
use lib.ListN.{length, take, get_or, set, length-set, get_or-eq_default}
use lib.Seq.{get_or-set_same, get_or-set_other, get_or-take, length-take-le, take-suc-set}
use borrow.Author.Tests.{eq-eqb, ne_eqb, eqb-true}
use Rattle.lists.specs.First.{first}
use Rattle.lists.proofs.First.{first-true, first-false}
use Rattle.lists.proofs.Maps.{take-set}
use Rattle.lists.proofs.Tests.{same_test}
use Rattle.circuit.specs.Circuit.{max_references}
use Rattle.circuit.specs.Path.{is_among}
use Rattle.translator.specs.Machine.{max_registers}
use Rattle.translator.specs.Allocation.{register_of, next_register, still_free, owners_with}
use Rattle.translator.specs.RegisterArrays.{stack_of, RegisterArrays}
use Rattle.translator.proofs.OwnerLaws.{register-at, among-at, freed-owner, freed-empty}

-- ---- the stack

stack-keeps : (a : List ℕ) (i x k : ℕ) → k ≤ i → stack_of (set a i x) k ≡ stack_of a k
unfolding stack_of
stack-keeps a i x zero h = refl
stack-keeps a i x (suc k) h = ap₂ ◌∷◌ (get_or-set_other a i k x 0 (omega arith)) (stack-keeps a i x k (omega arith))

stack_push : (a : List ℕ) (k x : ℕ) → k < length a → stack_of (set a k x) (k + 1) ≡ x ∷ stack_of a k
unfolding stack_of
stack_push a k x h = rw (add-one k) (ap₂ ◌∷◌ (get_or-set_same a k x 0 h) (stack-keeps a k x k (omega arith)))

pub stack-length : (a : List ℕ) (k : ℕ) → length (stack_of a k) ≡ k
unfolding stack_of
stack-length a zero = refl
stack-length a (suc k) = ap suc (stack-length a k)

-- ---- where a value is

pub arrays-none : (owner freed place : List ℕ) → length owner ≡ max_registers → length freed ≡ max_registers → length place ≡ max_references
    → ((d : ℕ) → get_or owner d 0 ≡ 0) → ((v : ℕ) → get_or place v 0 ≡ 0) → RegisterArrays owner freed place 0 0
arrays-none owner freed place a b c e f =
    record {
      owner-long = a;
      freed-long = b;
      place-long = c;
      free-limit = omega arith;
      fresh-limit = omega arith;
      freed-used = λ i h. absurd (not-suc-le-zero h);
      unused = λ d h. e d;
      near = λ v. omega (arith, f v);
      placed = λ d v q. absurd (suc-ne-zero v (sym q ∙ e d));
    }

module _ (owner freed place : List ℕ) (free fresh : ℕ) (k : RegisterArrays owner freed place free fresh) where
  fresh-length : length (take fresh owner) ≡ fresh
  fresh-length = length-take-le fresh owner (omega (arith, k.owner-long, k.fresh-limit))

  -- the registers that were used hold all owners
  owner-read : (d v : ℕ) → get_or owner d 0 ≡ suc v → get_or (take fresh owner) d 0 ≡ suc v
  owner-read d v e =
      elim (dec_lt d fresh) [
        | yes l ↦ get_or-take fresh owner d 0 l ∙ e
        | no l ↦ absurd (suc-ne-zero v (sym e ∙ k.unused d (omega arith)))
      ]

  read-owner : (d v : ℕ) → get_or (take fresh owner) d 0 ≡ suc v → get_or owner d 0 ≡ suc v
  read-owner d v e =
      elim (dec_lt d fresh) [
        | yes l ↦ sym (get_or-take fresh owner d 0 l) ∙ e
        | no l ↦ absurd (suc-ne-zero v (sym e ∙ get_or-eq_default (take fresh owner) 0 {n = d} (omega (arith, fresh-length))))
      ]

  module _ (v : ℕ) where
    -- v is in the register that its place says, if in any
    pub register-place : is_among (suc v) (take fresh owner) ≡ true → register_of (take fresh owner) v ≡ get_or place v 0
    register-place e = sym (k.placed (register_of (take fresh owner) v) v (read-owner _ v (register-at (take fresh owner) v e).0))

    place-owner : is_among (suc v) (take fresh owner) ≡ true → get_or owner (get_or place v 0) 0 ≡ suc v
    place-owner e = ap (λ d. get_or owner d 0) (sym (register-place e)) ∙ read-owner _ v (register-at (take fresh owner) v e).0

    -- so one look says whether
    pub among-read : eqb (get_or owner (get_or place v 0) 0) (suc v) ≡ is_among (suc v) (take fresh owner)
    among-read =
        same_test _ _ (λ e. among-at (take fresh owner) (get_or place v 0) v (owner-read (get_or place v 0) v (eqb-true _ (suc v) e)))
        (λ e. eq-eqb _ (suc v) (place-owner e))

    absent : is_among (suc v) (take fresh owner) ≡ false → (d : ℕ) → get_or owner d 0 ≢ suc v
    absent e d q = true≢false (sym (among-at (take fresh owner) d v (owner-read d v q)) ∙ e)

  -- ---- the register that is taken next

  pub next-fresh : free ≡ 0 → next_register (take fresh owner) (stack_of freed free) ≡ fresh
  unfolding stack_of
  next-fresh e = rw e fresh-length

  pub next-freed : (n : ℕ) → free ≡ n + 1 → next_register (take fresh owner) (stack_of freed free) ≡ get_or freed n 0
  unfolding stack_of
  next-freed n e = rw (e, add-one n)

  pub next-is : next_register (take fresh owner) (stack_of freed free) ≡ first (eqb free 0) fresh (get_or freed (free - 1) 0)
  next-is =
      elim (ℕ_discrete free 0) [
        | yes z ↦ next-fresh z ∙ sym (first-true _ _ (eq-eqb free 0 z))
        | no z ↦ next-freed (free - 1) (omega arith) ∙ sym (first-false _ _ (ne_eqb free 0 z))
      ]

  -- a register d takes v, which was in none
  placed-with : (v d : ℕ) → v < max_references → d < max_registers → is_among (suc v) (take fresh owner) ≡ false
      → (e u : ℕ) → get_or (set owner d (suc v)) e 0 ≡ suc u → get_or (set place v d) u 0 ≡ e
  placed-with v d hv hd out e u q = at (ℕ_discrete e d)
    where
      at : Dec (e ≡ d) → get_or (set place v d) u 0 ≡ e
      at (yes p) =
          let i : v ≡ u = suc_inj (sym (get_or-set_same owner d (suc v) 0 (rw k.owner-long hd)) ∙ ap (λ x. get_or (set owner d (suc v)) x 0) (sym p) ∙ q) in
          rw (← i) (get_or-set_same place v d 0 (rw k.place-long hv) ∙ sym p)
      at (no p) =
          let o : get_or owner e 0 ≡ suc u = sym (get_or-set_other owner d e (suc v) 0 p) ∙ q in
          get_or-set_other place v u d 0 (λ i. absent v out e (o ∙ ap suc i)) ∙ k.placed e u o

  near-with : (v d : ℕ) → v < max_references → d < max_registers → (u : ℕ) → get_or (set place v d) u 0 < max_registers
  near-with v d hv hd u =
      elim (ℕ_discrete u v) [
        | yes e ↦ rw (e, get_or-set_same place v d 0 (rw k.place-long hv)) hd
        | no e ↦ rw (get_or-set_other place v u d 0 e) (k.near u)
      ]

  -- v is put into a register that was used before
  pub arrays-put : (v d : ℕ) → v < max_references → is_among (suc v) (take fresh owner) ≡ false → d < fresh
      → RegisterArrays (set owner d (suc v)) freed (set place v d) free fresh
  arrays-put v d hv out h =
      let hd : d < max_registers = omega (arith, k.fresh-limit) in
      record {
        owner-long = rw length-set k.owner-long;
        freed-long = k.freed-long;
        place-long = rw length-set k.place-long;
        free-limit = k.free-limit;
        fresh-limit = k.fresh-limit;
        freed-used = k.freed-used;
        unused = λ e l. get_or-set_other owner d e (suc v) 0 (omega arith) ∙ k.unused e l;
        near = near-with v d hv hd;
        placed = placed-with v d hv hd out;
      }

  -- one register more was used, or one fewer is free
  pub arrays-more : fresh < max_registers → RegisterArrays owner freed place free (fresh + 1)
  arrays-more h =
      record {
        owner-long = k.owner-long;
        freed-long = k.freed-long;
        place-long = k.place-long;
        free-limit = k.free-limit;
        fresh-limit = omega arith;
        freed-used = λ i l. omega (arith, k.freed-used i l);
        unused = λ d l. k.unused d (omega arith);
        near = k.near;
        placed = k.placed;
      }

  pub arrays-fewer : RegisterArrays owner freed place (free - 1) fresh
  arrays-fewer =
      record {
        owner-long = k.owner-long;
        freed-long = k.freed-long;
        place-long = k.place-long;
        free-limit = omega (arith, k.free-limit);
        fresh-limit = k.fresh-limit;
        freed-used = λ i l. k.freed-used i (omega arith);
        unused = k.unused;
        near = k.near;
        placed = k.placed;
      }

  -- what the arrays say then
  module _ (v : ℕ) where
    pub owners-fresh : free ≡ 0 → fresh < max_registers
        → (owners_with v (take fresh owner) (stack_of freed free) ≡ take (fresh + 1) (set owner fresh (suc v))) × (still_free (stack_of freed free) ≡ stack_of freed free)
    unfolding stack_of
    owners-fresh e h = (rw (e, add-one fresh) (sym (take-suc-set owner fresh (suc v) (omega (arith, k.owner-long)))), rw e)

    pub owners_freed : (n : ℕ) → free ≡ n + 1
        → (owners_with v (take fresh owner) (stack_of freed free) ≡ take fresh (set owner (get_or freed n 0) (suc v))) × (still_free (stack_of freed free) ≡ stack_of freed n)
    unfolding stack_of
    owners_freed n e = (rw (e, add-one n) (sym (take-set fresh owner (get_or freed n 0) (suc v))), rw (e, add-one n))

  -- ---- the register of v is freed

  module _ (v : ℕ) where
    pub arrays-release : is_among (suc v) (take fresh owner) ≡ true → free < max_registers
        → RegisterArrays (set owner (get_or place v 0) 0) (set freed free (get_or place v 0)) place (free + 1) fresh
    arrays-release e h =
        record {
          owner-long = rw length-set k.owner-long;
          freed-long = rw length-set k.freed-long;
          place-long = k.place-long;
          free-limit = omega arith;
          fresh-limit = k.fresh-limit;
          freed-used = λ i l. used i l (ℕ_discrete i free);
          unused = λ d l. cleared d (k.unused d l);
          near = k.near;
          placed = λ d u q. k.placed d u (freed-owner owner (get_or place v 0) d u q);
        }
      where
        used : (i : ℕ) → i < free + 1 → Dec (i ≡ free) → get_or (set freed free (get_or place v 0)) i 0 < fresh
        used i l (yes q) =
            rw (q, get_or-set_same freed free (get_or place v 0) 0 (rw k.freed-long h))
            (omega (arith, (register-at (take fresh owner) v e).1, register-place v e, fresh-length))
        used i l (no q) = rw (get_or-set_other freed free i (get_or place v 0) 0 q) (k.freed-used i (omega arith))

        cleared : (d : ℕ) → get_or owner d 0 ≡ 0 → get_or (set owner (get_or place v 0) 0) d 0 ≡ 0
        cleared d e =
            elim (ℕ_discrete d (get_or place v 0)) [
              | yes q ↦ rw (← q) (freed-empty owner d)
              | no q ↦ get_or-set_other owner (get_or place v 0) d 0 0 q ∙ e
            ]

    pub owners-release : is_among (suc v) (take fresh owner) ≡ true → free < max_registers
        → (take fresh (set owner (get_or place v 0) 0) ≡ set (take fresh owner) (register_of (take fresh owner) v) 0)
        × (stack_of (set freed free (get_or place v 0)) (free + 1) ≡ register_of (take fresh owner) v ∷ stack_of freed free)
    owners-release e h = (
      take-set fresh owner (get_or place v 0) 0 ∙ ap (λ d. set (take fresh owner) d 0) (sym (register-place v e)),
      stack_push freed free (get_or place v 0) (rw k.freed-long h) ∙ ap (λ d. d ∷ stack_of freed free) (sym (register-place v e)),
    )

pub absent-more : (owner freed place : List ℕ) (free fresh : ℕ) → RegisterArrays owner freed place free fresh → (v : ℕ) → fresh < max_registers
    → is_among (suc v) (take fresh owner) ≡ false → is_among (suc v) (take (fresh + 1) owner) ≡ false
absent-more owner freed place free fresh k v h out =
    sym (among-read owner freed place free (fresh + 1) (arrays-more owner freed place free fresh k h) v) ∙ among-read owner freed place free fresh k v ∙ out
