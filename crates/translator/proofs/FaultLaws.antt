-- An instruction faults for the causes that 01 names, and for no other. Assumes nothing.
use mathlib.Core.Path.{◌≡◌, refl, sym, ap, ap₂, ◌∙◌}
use mathlib.Core.Logic.{◌⊎◌, inl, inr, ⊎_elim}
use mathlib.Core.Bool.{Bool, true, false, true≢false, ◌&&◌}
use mathlib.Core.List.{List, [], ◌∷◌}
use mathlib.Core.Option.{Option, none, some, bind, some-injective, some-ne-none}
use Prim.Native.Nat.{ℕ, zero, suc, ◌≤◌}
use native.Mathlib.Omega.{arith}
use lib.Dec.{eqb, ltb}
use lib.ListN.{length, get_or, set, get_elem?, get_or-eq_default}
use borrow.Author.Tests.{eqb-true, eq-eqb, ltb-false, le-ltb}
use Rattle.lists.specs.First.{first}
use Rattle.lists.proofs.Tests.{both, left-of, right_of}
use Rattle.circuit.proofs.RefusalLaws.{either}
use Rattle.translator.specs.Machine.{emit_opcode, load_opcode, is_load, is_operation, is_emit, Machine, read_from, write_to, emit, execute}
use Rattle.translator.specs.Fault.{numbers, Loads, Operates, Emits, Reads, Writes, NotBelowLimit, Fault, reads-empty, reads-beyond, writes-beyond, loads-neither, any-other}

-- ---- nothing in a list's place

absent : {A : Type 0} (l : List A) (i : ℕ) → get_elem? l i ≡ none → length l ≤ i
absent [] i e = omega arith
absent (x ∷ l) zero e = absurd (some-ne-none x e)
absent (x ∷ l) (suc i) e = omega (arith, absent l i e)

pub beyond : {A : Type 0} (l : List A) (i : ℕ) → length l ≤ i → get_elem? l i ≡ none
beyond [] i h = refl
beyond (x ∷ l) zero h = absurd (omega arith)
beyond (x ∷ l) (suc i) h = beyond l i (omega arith)

-- what is there, in a register's place too
pub full : {A : Type 0} (l : List A) (z : A) (r : ℕ) (v : A) → get_elem? l r ≡ some v → get_or l r z ≡ v
full [] z r v e = absurd (some-ne-none v (sym e))
full (x ∷ l) z zero v e = some-injective x v e
full (x ∷ l) z (suc r) v e = full l z r v e

unread : {A : Type 0} (l : List (Option A)) (r : ℕ) → get_or l r none ≡ none → (get_elem? l r ≡ some none) ⊎ (length l ≤ r)
unread [] r e = inr (omega arith)
unread (x ∷ l) zero e = inl (ap some e)
unread (x ∷ l) (suc r) e = ⊎_elim (λ q. inl q) (λ h. inr (omega arith)) (unread l r e)

-- ---- one part of an instruction after the other

module _ {A B : Type 0} (f : A → Option B) where
  fails-first : (o : Option A) → o ≡ none → bind o f ≡ none
  unfolding bind
  fails-first none e = refl
  fails-first (some x) e = absurd (some-ne-none x e)

  fails-then : (o : Option A) → ((x : A) → f x ≡ none) → bind o f ≡ none
  unfolding bind
  fails-then none h = refl
  fails-then (some x) h = h x

  fails-where : (o : Option A) → bind o f ≡ none → (o ≡ none) ⊎ ((x : A) × (f x ≡ none))
  unfolding bind
  fails-where none e = inl refl
  fails-where (some x) e = inr (x, e)

-- ---- the three shapes

module _ {A : Type 0} (start : List A) (op : ℕ → A → A → A) (m : Machine A) (o x y z : ℕ) where
  abbrev Does : Option (Machine A) → Type 0
  Does r = execute start op (numbers o x y z) m ≡ r

  does-load : Loads o z → Does (bind (get_elem? start y) (write_to m x))
  unfolding execute
  does-load k = ap₂ (λ o z. execute start op (numbers o x y z) m) k.0 k.1

  does-operation : Operates o → Does (bind (read_from m y) (λ a. bind (read_from m z) (λ b. write_to m x (op o a b))))
  unfolding execute
  does-operation (inl k) = rw k
  does-operation (inr k) = rw k

  does-emit : Emits o y z → Does (bind (read_from m x) (λ a. some (emit m a)))
  unfolding execute
  does-emit k = ap₂ (λ o y. execute start op (numbers o x y z) m) k.0 k.1 ∙ ap (λ z. execute start op (numbers emit_opcode x 0 z) m) k.2

  -- which of them it has, if any
  shape : Loads o z ⊎ Operates o ⊎ Emits o y z ⊎ ((Loads o z → ⊥) × (Operates o → ⊥) × (Emits o y z → ⊥) × Does none)
  unfolding execute
  shape = go (is_load (numbers o x y z)) (is_operation (numbers o x y z)) (is_emit (numbers o x y z)) refl refl refl
    where
      go : (a b c : Bool) → is_load (numbers o x y z) ≡ a → is_operation (numbers o x y z) ≡ b → is_emit (numbers o x y z) ≡ c
          → Loads o z ⊎ Operates o ⊎ Emits o y z ⊎ ((Loads o z → ⊥) × (Operates o → ⊥) × (Emits o y z → ⊥) × Does none)
      go true b c p q r = inl (eqb-true o load_opcode (left-of (eqb o load_opcode) (eqb z 0) p), eqb-true z 0 (right_of (eqb o load_opcode) (eqb z 0) p))
      go false true c p q r = inr (inl (either o q))
      go false false true p q r =
          let zeros = right_of (eqb o emit_opcode) (eqb y 0 && eqb z 0) r in
          inr (inr (inl (
            eqb-true o emit_opcode (left-of (eqb o emit_opcode) (eqb y 0 && eqb z 0) r),
            eqb-true y 0 (left-of (eqb y 0) (eqb z 0) zeros),
            eqb-true z 0 (right_of (eqb y 0) (eqb z 0) zeros),
          )))
      go false false false p q r = inr (inr (inr (
        λ k. true≢false (sym (both (eq-eqb o load_opcode k.0) (eq-eqb z 0 k.1)) ∙ p),
        λ k. true≢false (sym (⊎_elim (λ e. rw e) (λ e. rw e) k) ∙ q),
        λ k. true≢false (sym (both (eq-eqb o emit_opcode k.0) (both (eq-eqb y 0 k.1) (eq-eqb z 0 k.2))) ∙ r),
        rw (p, q, r),
      )))

  -- ---- from a cause to the fault

  unreadable : (r : ℕ) → Reads o x y z r → read_from m r ≡ none → Does none
  unreadable r (inl k) e = does-operation k.0 ∙ go k.1
    where
      go : (r ≡ y) ⊎ (r ≡ z) → bind (read_from m y) (λ a. bind (read_from m z) (λ b. write_to m x (op o a b))) ≡ none
      go (inl q) = fails-first _ (read_from m y) (ap (read_from m) (sym q) ∙ e)
      go (inr q) = fails-then _ (read_from m y) (λ a. fails-first _ (read_from m z) (ap (read_from m) (sym q) ∙ e))
  unreadable r (inr k) e = does-emit k.0 ∙ fails-first _ (read_from m x) (ap (read_from m) (sym k.1) ∙ e)

  unwritable : (r : ℕ) → Writes o x z r → NotBelowLimit m r → Does none
  unwritable r k h = go k.0
    where
      out : (a : A) → write_to m x a ≡ none
      out a = rw (le-ltb x (length m.registers) (omega (arith, k.1)))

      go : Loads o z ⊎ Operates o → Does none
      go (inl l) = does-load l ∙ fails-then _ (get_elem? start y) out
      go (inr l) = does-operation l ∙ fails-then _ (read_from m y) (λ a. fails-then _ (read_from m z) (λ b. out (op o a b)))

  pub fault-executes : Fault start m o x y z → Does none
  fault-executes (reads-empty r k e) = unreadable r k (full m.registers none r none e)
  fault-executes (reads-beyond r k h) = unreadable r k (get_or-eq_default m.registers none {n = r} h)
  fault-executes (writes-beyond r k h) = unwritable r k h
  fault-executes (loads-neither k h) = does-load k ∙ fails-first _ (get_elem? start y) (beyond start y h)
  fault-executes (any-other l p e) = ⊎_elim (λ k. absurd (l k)) (⊎_elim (λ k. absurd (p k)) (⊎_elim (λ k. absurd (e k)) (λ k. k.3))) shape

  -- ---- from the fault to a cause

  reading : (r : ℕ) → Reads o x y z r → read_from m r ≡ none → Fault start m o x y z
  reading r k e = ⊎_elim (λ q. reads-empty r k q) (λ h. reads-beyond r k h) (unread m.registers r e)

  writing : (a : A) → Loads o z ⊎ Operates o → write_to m x a ≡ none → Fault start m o x y z
  writing a k e = writes-beyond x (k, refl) (go (ltb x (length m.registers)) refl e)
    where
      go : (b : Bool) → ltb x (length m.registers) ≡ b
          → first {A = Option (Machine A)} b (some (record { registers = set m.registers x (some a); emitted = m.emitted })) none ≡ none → NotBelowLimit m x
      go true q f = absurd (some-ne-none _ f)
      go false q f = ltb-false x (length m.registers) q

  pub executes-fault : Does none → Fault start m o x y z
  executes-fault e = ⊎_elim load (⊎_elim operation (⊎_elim emission (λ k. any-other k.0 k.1 k.2))) shape
    where
      load : Loads o z → Fault start m o x y z
      load k =
          ⊎_elim (λ q. loads-neither k (absent start y q)) (λ w. writing w.0 (inl k) w.1) (fails-where (write_to m x) (get_elem? start y) (sym (does-load k) ∙ e))

      operation : Operates o → Fault start m o x y z
      operation k =
          ⊎_elim (reading y (inl (k, inl refl)))
          (λ v. ⊎_elim (reading z (inl (k, inr refl))) (λ w. writing _ (inr k) w.1) (fails-where _ (read_from m z) v.1))
          (fails-where _ (read_from m y) (sym (does-operation k) ∙ e))

      emission : Emits o y z → Fault start m o x y z
      emission k = ⊎_elim (reading x (inr (k, refl))) (λ w. absurd (some-ne-none _ w.1)) (fails-where _ (read_from m x) (sym (does-emit k) ∙ e))
