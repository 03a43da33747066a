-- What every allocation on the way has: the values that are ready and wanted are in registers, and no more registers are in use than ever
-- were held at once. Assumes nothing.
use mathlib.Core.Path.{◌≡◌, refl, sym, ap, ◌∙◌}
use mathlib.Core.Bool.{Bool, true, false, true≢false, not, ◌&&◌, ◌||◌, or-true}
use mathlib.Core.List.{List, [], ◌∷◌}
use Prim.Native.Nat.{ℕ, suc, ◌+◌, ◌<◌, max}
use native.Mathlib.Omega.{arith}
use lib.Dec.{eqb}
use lib.ListN.{length, get_or, set, length-set, length-append}
use borrow.Author.Tests.{eq-eqb}
use Rattle.circuit.specs.Path.{is_among}
use Rattle.translator.specs.Need.{count_below}
use Rattle.translator.specs.Machine.{Instruction}
use Rattle.translator.specs.Pressure.{one_if}
use Rattle.translator.specs.Allocation.{Allocation, no_registers, register_of, next_register, assign, release, loaded}
use Rattle.translator.specs.Allocator.{ensure_loaded}
use Rattle.translator.proofs.CountLaws.{count_none, count_same, added-there, count-added, count-wanted}
use Rattle.translator.proofs.OwnerLaws.{register-at, taken-among, fresh-among, freed-among, freed-other, freed-empty, Free, free-set, free-out}

-- `ready` and `wanted` say which of the references below n have a value, and which are used later
pub record Allocated (n : ℕ) (ready wanted : ℕ → Bool) (s : Allocation) : Type 0 where
  pub kept : (v : ℕ) → ready v ≡ true → wanted v ≡ true → is_among (suc v) s.owners ≡ true
  pub owned : (v : ℕ) → is_among (suc v) s.owners ≡ true → ready v ≡ true
  pub free : Free s.owners s.freed
  pub total : length s.freed + count_below (λ v. ready v && wanted v) n ≡ length s.owners

pub allocated_same : (n : ℕ) (p p' w w' : ℕ → Bool) (s : Allocation) → ((v : ℕ) → p v ≡ p' v) → ((v : ℕ) → w v ≡ w' v)
    → Allocated n p w s → Allocated n p' w' s
allocated_same n p p' w w' s e f a =
    record {
      kept = λ v x y. a.kept v (e v ∙ x) (f v ∙ y);
      owned = λ v x. sym (e v) ∙ a.owned v x;
      free = a.free;
      total = ap (λ m. length s.freed + m) (count_same _ _ n (λ v l. sym (rw (e v, f v)))) ∙ a.total;
    }

pub allocated-none : (n : ℕ) (p w : ℕ → Bool) → ((v : ℕ) → p v ≡ false) → Allocated n p w no_registers
unfolding is_among
allocated-none n p w e =
    record {
      kept = λ v x y. absurd (true≢false (sym x ∙ e v));
      owned = λ v x. absurd (true≢false (sym x));
      free = tt;
      total = omega (arith, count_none (λ v. p v && w v) n (λ v. rw (e v)));
    }

-- ---- a value is read

module _ (n : ℕ) (p w : ℕ → Bool) (x : ℕ) (s : Allocation) (h : x < n) (r : p x ≡ true) (a : Allocated n p (λ v. eqb v x || w v) s) where
  abbrev held : ℕ
  held = register_of s.owners x

  wanted-too : (v : ℕ) → w v ≡ true → eqb v x || w v ≡ true
  wanted-too v e = rw (e, or-true)

  pub read-there : is_among (suc x) s.owners ≡ true
  read-there = a.kept x r (rw (eq-eqb x x refl))

  -- a register that is freed can be taken again, so that each of them is free or has a value that is wanted
  release-total : w x ≡ false → length (release false x s).freed + count_below (λ v. p v && w v) n ≡ length (release false x s).owners
  unfolding release
  release-total e =
      let one : one_if (not (w x)) ≡ 1 = rw e in
      rw length-set (omega (arith, a.total, count-wanted p w x n h r))

  pub release-allocated : Allocated n p w (release (w x) x s)
  unfolding release
  release-allocated = go (w x) refl
    where
      here : get_or s.owners held 0 ≡ suc x
      here = (register-at s.owners x read-there).0

      go : (b : Bool) → w x ≡ b → Allocated n p w (release b x s)
      go true e =
          record {
            kept = λ v y z. a.kept v y (wanted-too v z);
            owned = a.owned;
            free = a.free;
            total = ap (λ m. length s.freed + m) (count_same _ _ n (λ v l. ap (λ b. p v && b) (sym (added-there w x e v)))) ∙ a.total;
          }
      go false e =
          let out = free-out s.owners held x s.freed here a.free in
          record {
            kept = λ v y z. freed-other s.owners held x v here (λ q. true≢false (sym z ∙ ap w q ∙ e)) (a.kept v y (wanted-too v z));
            owned = λ v y. a.owned v (freed-among s.owners held v y);
            free = (
              rw length-set (register-at s.owners x read-there).1,
              freed-empty s.owners held,
              out,
              free-set s.owners held 0 s.freed out a.free,
            );
            total = release-total e;
          }

  -- its register fits on the stack
  pub release-room : w x ≡ false → length s.freed < length s.owners
  release-room e =
      let one : one_if (not (w x)) ≡ 1 = rw e in
      omega (arith, a.total, count-wanted p w x n h r)

-- ---- a value takes a register

-- what is ready then
abbrev pub with_value : (x : ℕ) (ready : ℕ → Bool) → ℕ → Bool
with_value x p v = eqb v x || p v

pub record Assigned (n : ℕ) (p w : ℕ → Bool) (x : ℕ) (make : ℕ → Instruction) (s : Allocation) : Type 0 where
  pub allocated : Allocated n (with_value x p) w (assign x make s)
  pub size : length (assign x make s).owners ≡ max (length s.owners) (count_below (λ v. with_value x p v && w v) n)
  pub inside : next_register s.owners s.freed < length (assign x make s).owners

module _ (n : ℕ) (p w : ℕ → Bool) (x : ℕ) (make : ℕ → Instruction) (h : x < n) (r : p x ≡ false) (u : w x ≡ true) where
  kept-with : (ws ws' : List ℕ) → ((v : ℕ) → is_among (suc v) ws' ≡ eqb v x || is_among (suc v) ws)
      → ((v : ℕ) → p v ≡ true → w v ≡ true → is_among (suc v) ws ≡ true)
      → (v : ℕ) → with_value x p v ≡ true → w v ≡ true → is_among (suc v) ws' ≡ true
  kept-with ws ws' e k v a b = e v ∙ go (eqb v x) a
    where
      go : (b : Bool) → b || p v ≡ true → b || is_among (suc v) ws ≡ true
      go true q = refl
      go false q = k v q b

  owned-with : (ws ws' : List ℕ) → ((v : ℕ) → is_among (suc v) ws' ≡ eqb v x || is_among (suc v) ws)
      → ((v : ℕ) → is_among (suc v) ws ≡ true → p v ≡ true)
      → (v : ℕ) → is_among (suc v) ws' ≡ true → with_value x p v ≡ true
  owned-with ws ws' e k v a = go (eqb v x) (sym (e v) ∙ a)
    where
      go : (b : Bool) → b || is_among (suc v) ws ≡ true → b || p v ≡ true
      go true q = refl
      go false q = k v q

  one_more : count_below (λ v. with_value x p v && w v) n ≡ suc (count_below (λ v. p v && w v) n)
  one_more =
      let one : one_if (not (p x)) ≡ 1 = rw r in
      count-added p w x n h u ∙ omega arith

  assigned-at : (ws ds : List ℕ) (is : List Instruction) → Allocated n p w (record { owners = ws; freed = ds; code = is })
      → Assigned n p w x make (record { owners = ws; freed = ds; code = is })
  unfolding assign
  assigned-at ws [] is a =
      let e = fresh-among ws x in
      let l = length-append ws (suc x ∷ []) in
      record {
        allocated = record {
          kept = kept-with ws _ e a.kept;
          owned = owned-with ws _ e a.owned;
          free = tt;
          total = omega (arith, a.total, one_more);
        };
        size = omega (arith, a.total, one_more);
        inside = omega arith;
      }
  assigned-at ws (d ∷ ds) is a =
      let e : (v : ℕ) → is_among (suc v) (set ws d (suc x)) ≡ eqb v x || is_among (suc v) ws = λ v. taken-among ws d x v a.free.1 a.free.0 in
      let l = length-set ws d (suc x) in
      record {
        allocated = record {
          kept = kept-with ws _ e a.kept;
          owned = owned-with ws _ e a.owned;
          free = free-set ws d (suc x) ds a.free.2 a.free.3;
          total = omega (arith, a.total, one_more);
        };
        size = omega (arith, a.total, one_more);
        inside = omega (arith, a.free.0);
      }

  pub assigned : (s : Allocation) → Allocated n p w s → Assigned n p w x make s
  assigned s a = assigned-at s.owners s.freed s.code a

-- ---- a value is loaded, if it is in no register

pub record Ensured (n : ℕ) (p w : ℕ → Bool) (x : ℕ) (s : Allocation) : Type 0 where
  pub allocated : Allocated n (with_value x p) w (ensure_loaded x s)
  pub size : length (ensure_loaded x s).owners ≡ max (length s.owners) (count_below (λ v. with_value x p v && w v) n)

module _ (n : ℕ) (p w : ℕ → Bool) (x : ℕ) (s : Allocation) (h : x < n) (u : w x ≡ true) (a : Allocated n p w s) where
  -- whether it is, is whether it is ready
  pub ready-is : is_among (suc x) s.owners ≡ p x
  ready-is = go (p x) (is_among (suc x) s.owners) refl refl
    where
      go : (b e : Bool) → p x ≡ b → is_among (suc x) s.owners ≡ e → e ≡ b
      go true e q f = sym f ∙ a.kept x q u
      go false true q f = sym (a.owned x f) ∙ q
      go false false q f = refl

  pub ensured : Ensured n p w x s
  unfolding ensure_loaded
  ensured = go (p x) refl
    where
      go : (b : Bool) → p x ≡ b → Ensured n p w x s
      go true e =
          let same : ensure_loaded x s ≡ s = rw (ready-is, e) in
          let all : (v : ℕ) → p v ≡ with_value x p v = λ v. sym (added-there p x e v) in
          let zero : one_if (not (p x)) ≡ 0 = rw e in
          record {
            allocated = rw same (allocated_same n p (with_value x p) w w s all (λ v. refl) a);
            size = rw same (omega (arith, a.total, count-added p w x n h u));
          }
      go false e =
          let same : ensure_loaded x s ≡ loaded x s = rw (ready-is, e) in
          let t = assigned n p w x _ h e u s a in
          record { allocated = rw same t.allocated; size = rw same t.size }
