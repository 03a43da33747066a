-- A register is still to be read if a later instruction reads it, and none before that one overwrites it. Assumes nothing.
use mathlib.Core.Path.{◌≡◌, refl, sym, ap, ap₂, ◌∙◌}
use mathlib.Core.Logic.{inl, inr, ⊎_elim}
use mathlib.Core.Bool.{Bool, true, false, true≢false, not, ◌&&◌, ◌||◌, or-true}
use mathlib.Core.List.{List, [], ◌∷◌, ◌++◌}
use Prim.Native.Nat.{ℕ}
use lib.Dec.{eqb}
use borrow.Author.Tests.{eq-eqb, eqb-true}
use Rattle.lists.specs.First.{first}
use Rattle.lists.proofs.Tests.{both, left-of, right_of, one_of, left-fails, right-fails}
use Rattle.circuit.specs.Path.{is_among}
use Rattle.circuit.proofs.RefusalLaws.{either}
use Rattle.translator.specs.Machine.{Instruction, emit_opcode, is_operation, is_emit}
use Rattle.translator.specs.Fault.{Reads}
use Rattle.translator.specs.Written.{is_write, registers_written}
use Rattle.translator.specs.StillRead.{reads, overwrites, is_still_read}

-- ---- what an instruction reads

module _ (x : Instruction) (d : ℕ) where
  abbrev ReadsIt : Type 0
  ReadsIt = Reads x.opcode x.arg1 x.arg2 x.arg3 d

  reads-is : reads x d ≡ true → ReadsIt
  reads-is = go (is_operation x) refl
    where
      go : (b : Bool) → is_operation x ≡ b → first b (eqb d x.arg2 || eqb d x.arg3) (is_emit x && eqb d x.arg1) ≡ true → ReadsIt
      go true o e =
          inl (
            either x.opcode o,
            ⊎_elim (λ q. inl (eqb-true d x.arg2 q)) (λ q. inr (eqb-true d x.arg3 q)) (one_of (eqb d x.arg2) (eqb d x.arg3) e),
          )
      go false o e =
          let emit = left-of (is_emit x) (eqb d x.arg1) e in
          let zeros = right_of (eqb x.opcode emit_opcode) (eqb x.arg2 0 && eqb x.arg3 0) emit in
          inr (
            (
              eqb-true x.opcode emit_opcode (left-of (eqb x.opcode emit_opcode) (eqb x.arg2 0 && eqb x.arg3 0) emit),
              eqb-true x.arg2 0 (left-of (eqb x.arg2 0) (eqb x.arg3 0) zeros),
              eqb-true x.arg3 0 (right_of (eqb x.arg2 0) (eqb x.arg3 0) zeros),
            ),
            eqb-true d x.arg1 (right_of (is_emit x) (eqb d x.arg1) e),
          )

  is-reads : ReadsIt → reads x d ≡ true
  is-reads (inl (k, which)) =
      let o : is_operation x ≡ true = ⊎_elim (λ q. rw q) (λ q. rw q) k in
      rw o (⊎_elim (λ q. rw (eq-eqb d x.arg2 q)) (λ q. rw (eq-eqb d x.arg3 q, or-true (eqb d x.arg2))) which)
  is-reads (inr (k, q)) =
      let o : is_operation x ≡ false = rw k.0 in
      let e : is_emit x ≡ true = both (eq-eqb x.opcode emit_opcode k.0) (both (eq-eqb x.arg2 0 k.1) (eq-eqb x.arg3 0 k.2)) in
      rw (o, e) (eq-eqb d x.arg1 q)

-- ---- the one that reads it, and those before it

abbrev ReadLater : (d : ℕ) → List Instruction → Type 0
ReadLater d is =
    (front : List Instruction) × (x : Instruction) × (back : List Instruction)
    × (is ≡ front ++ (x ∷ back)) × Reads x.opcode x.arg1 x.arg2 x.arg3 d × (is_among d (registers_written front) ≡ false)

-- whether the first of some instructions writes it, or a later one
written-first : (d : ℕ) (x : Instruction) (xs : List Instruction) → is_among d (registers_written (x ∷ xs)) ≡ overwrites x d || is_among d (registers_written xs)
unfolding registers_written is_among
written-first d x xs = go (is_write x)
  where
    go : (b : Bool) → is_among d (first b (x.arg1 ∷ registers_written xs) (registers_written xs)) ≡ (b && eqb d x.arg1) || is_among d (registers_written xs)
    go true = refl
    go false = refl

not_written : (b : Bool) → not b ≡ true → b ≡ false
not_written true e = absurd (true≢false (sym e))
not_written false e = refl

pub still_read : (d : ℕ) (is : List Instruction) → is_still_read d is ≡ true → ReadLater d is
unfolding is_still_read registers_written is_among
still_read d [] e = absurd (true≢false (sym e))
still_read d (x ∷ xs) e = ⊎_elim now (later (still_read d xs)) (one_of (reads x d) (not (overwrites x d) && is_still_read d xs) e)
  where
    now : reads x d ≡ true → ReadLater d (x ∷ xs)
    now q = ([], x, xs, refl, reads-is x d q, refl)

    later : (is_still_read d xs ≡ true → ReadLater d xs) → not (overwrites x d) && is_still_read d xs ≡ true → ReadLater d (x ∷ xs)
    later ih q =
        let (front, y, back, p, r, w) = ih (right_of (not (overwrites x d)) (is_still_read d xs) q) in
        let out = not_written (overwrites x d) (left-of (not (overwrites x d)) (is_still_read d xs) q) in
        (x ∷ front, y, back, ap (λ l. x ∷ l) p, r, written-first d x front ∙ ap₂ ◌||◌ out w)

pub read-still : (d : ℕ) (front : List Instruction) (x : Instruction) (back : List Instruction) → Reads x.opcode x.arg1 x.arg2 x.arg3 d
    → is_among d (registers_written front) ≡ false → is_still_read d (front ++ (x ∷ back)) ≡ true
unfolding is_still_read
read-still d [] x back r w = rw (is-reads x d r)
read-still d (y ∷ front) x back r w =
    let e = sym (written-first d y front) ∙ w in
    let out = left-fails (overwrites y d) (is_among d (registers_written front)) e in
    rw (out, read-still d front x back r (right-fails (overwrites y d) (is_among d (registers_written front)) e), or-true (reads y d))
