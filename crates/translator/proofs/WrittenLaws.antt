-- Which registers the program writes: all that its allocation has, and none that it does not use. Assumes nothing.
use mathlib.Core.Path.{◌≡◌, refl, sym, ap, ◌∙◌}
use mathlib.Core.Bool.{Bool, true, false, ◌||◌, or-true}
use mathlib.Core.List.{List, [], ◌∷◌, ◌++◌, map, append-nil}
use Prim.Native.Nat.{ℕ, zero, suc, ◌+◌, ◌≤◌, ◌<◌}
use native.Mathlib.Nat.{not-suc-le-zero}
use native.Mathlib.Decide.{ℕ_discrete}
use native.Mathlib.Omega.{arith}
use lib.Dec.{eqb}
use lib.ListN.{length, get_or, length-set, length-append}
use borrow.Author.Tests.{eq-eqb}
use Rattle.lists.specs.First.{first}
use Rattle.circuit.specs.Circuit.{Gate, Circuit, first_gate, no_gate, xor_kind, and_kind}
use Rattle.circuit.specs.Path.{is_among}
use Rattle.circuit.specs.Refusal.{has_gate_kind}
use Rattle.circuit.proofs.EachLaws.{each_at}
use Rattle.translator.specs.Machine.{Instruction, loading, operating, emitting, is_load, is_operation, is_emit}
use Rattle.translator.specs.LiveRange.{is_used_from}
use Rattle.translator.specs.Need.{need}
use Rattle.translator.specs.Allocation.{Allocation, register_of, next_register, owners_with, assign, release_operands, loaded, operated}
use Rattle.translator.specs.Allocator.{ensure_loaded, ensure_operands, gate_turn, allocation_after, outputs_loaded, allocation_at_end}
use Rattle.translator.specs.Program.{emits, program}
use Rattle.translator.specs.Shape.{registers_of, registers_in}
use Rattle.translator.specs.Written.{is_write, registers_written}
use Rattle.translator.proofs.TrimmedLaws.{Trimmed}
use Rattle.translator.proofs.OwnerLaws.{among-append, among-last}
use Rattle.translator.proofs.AllocatorLaws.{releases-size, end-size}
use Rattle.translator.proofs.ActionLaws.{end-is-program}
use Rattle.translator.proofs.ShapeLaws.{releases-code}

pub written-append : (xs ys : List Instruction) → registers_written (xs ++ ys) ≡ registers_written xs ++ registers_written ys
unfolding registers_written
written-append [] ys = refl
written-append (x ∷ xs) ys = go (is_write x) (written-append xs ys)
  where
    go : (b : Bool) → registers_written (xs ++ ys) ≡ registers_written xs ++ registers_written ys
        → first b (x.arg1 ∷ registers_written (xs ++ ys)) (registers_written (xs ++ ys)) ≡ first b (x.arg1 ∷ registers_written xs) (registers_written xs) ++ registers_written ys
    go true ih = ap (λ l. x.arg1 ∷ l) ih
    go false ih = ih

-- what is written is used: by one instruction, and by all
used-more : (x : Instruction) (ws us : List ℕ) (d : ℕ) → (is_among d ws ≡ true → is_among d us ≡ true)
    → is_among d (first (is_write x) (x.arg1 ∷ ws) ws) ≡ true → is_among d (registers_of x ++ us) ≡ true
unfolding registers_of is_among
used-more x ws us d later h = go (is_load x) (is_operation x) h
  where
    behind : (ds : List ℕ) → is_among d ws ≡ true → is_among d (ds ++ us) ≡ true
    behind ds e = among-append d ds us ∙ ap (λ b. is_among d ds || b) (later e) ∙ or-true (is_among d ds)

    here : (a : Bool) (ds : List ℕ) → a || is_among d ws ≡ true → a || is_among d (ds ++ us) ≡ true
    here true ds e = refl
    here false ds e = behind ds e

    go : (a b : Bool) → is_among d (first (a || b) (x.arg1 ∷ ws) ws) ≡ true
        → is_among d (first a (x.arg1 ∷ []) (first b (x.arg1 ∷ x.arg2 ∷ x.arg3 ∷ []) (first (is_emit x) (x.arg1 ∷ []) [])) ++ us) ≡ true
    go true b e = here (eqb d x.arg1) [] e
    go false true e = here (eqb d x.arg1) (x.arg2 ∷ x.arg3 ∷ []) e
    go false false e = behind (first (is_emit x) (x.arg1 ∷ []) []) e

pub written-used : (is : List Instruction) (d : ℕ) → is_among d (registers_written is) ≡ true → is_among d (registers_in is) ≡ true
unfolding registers_written registers_in
written-used [] d h = h
written-used (x ∷ xs) d h = used-more x (registers_written xs) (registers_in xs) d (written-used xs d) h

-- each register that an allocation has, in use or free again, was written by its code
abbrev Wrote : Allocation → Type 0
Wrote s = (e : ℕ) → e < length s.owners → is_among e (registers_written s.code) ≡ true

-- a write of the register that is taken next
module _ (v : ℕ) (make : ℕ → Instruction) (writes : (d : ℕ) → (is_write (make d) ≡ true) × ((make d).arg1 ≡ d)) where
  last_written : (is : List Instruction) (d e : ℕ) → is_among e (registers_written (is ++ (make d ∷ []))) ≡ eqb e d || is_among e (registers_written is)
  unfolding registers_written
  last_written is d e =
      ap (is_among e) (written-append is (make d ∷ []) ∙ ap (λ b. registers_written is ++ first b ((make d).arg1 ∷ []) []) (writes d).0
      ∙ ap (λ y. registers_written is ++ (y ∷ [])) (writes d).1) ∙ among-last e (registers_written is) d

  wrote-before : (is : List Instruction) (d e : ℕ) → is_among e (registers_written is) ≡ true → is_among e (registers_written (is ++ (make d ∷ []))) ≡ true
  wrote-before is d e h = last_written is d e ∙ ap (λ b. eqb e d || b) h ∙ or-true (eqb e d)

  assign-wrote : (ws ds : List ℕ) (is : List Instruction) → ((e : ℕ) → e < length ws → is_among e (registers_written is) ≡ true)
      → (e : ℕ) → e < length (owners_with v ws ds) → is_among e (registers_written (is ++ (make (next_register ws ds) ∷ []))) ≡ true
  assign-wrote ws [] is h e l = go (ℕ_discrete e (length ws))
    where
      go : Dec (e ≡ length ws) → is_among e (registers_written (is ++ (make (length ws) ∷ []))) ≡ true
      go (yes q) = last_written is (length ws) e ∙ ap (λ b. b || is_among e (registers_written is)) (eq-eqb e (length ws) q)
      go (no q) = wrote-before is (length ws) e (h e (omega (arith, length-append ws (suc v ∷ []))))
  assign-wrote ws (d ∷ ds) is h e l = wrote-before is d e (h e (omega (arith, length-set ws d (suc v))))

  wrote-assign : (s : Allocation) → Wrote s → Wrote (assign v make s)
  unfolding assign
  wrote-assign s h = assign-wrote s.owners s.freed s.code h

wrote-ensure : (v : ℕ) (s : Allocation) → Wrote s → Wrote (ensure_loaded v s)
unfolding ensure_loaded
wrote-ensure v s h = go (is_among (suc v) s.owners)
  where
    go : (b : Bool) → Wrote (first b s (loaded v s))
    go true = h
    go false = wrote-assign v (λ d. loading d v) (λ d. (refl, refl)) s h

wrote-operate : (w : ℕ → Bool) (v : ℕ) (g : Gate) (s : Allocation) → eqb g.kind xor_kind || eqb g.kind and_kind ≡ true → Wrote s → Wrote (operated w v g s)
wrote-operate w v g s k h =
    let make : ℕ → Instruction = λ d. operating g.kind d (register_of s.owners g.left) (register_of s.owners g.right) in
    wrote-assign v make (λ d. (ap (λ b. is_load (make d) || b) k ∙ or-true (is_load (make d)), refl)) (release_operands w g s)
    (λ e l. ap (λ is. is_among e (registers_written is)) (releases-code w g s) ∙ h e (omega (arith, releases-size w g s)))

-- emits write nothing, of whichever registers
pub emits-write : (register : ℕ → ℕ) (os : List ℕ) → registers_written (map (λ o. emitting (register o)) os) ≡ []
unfolding registers_written
emits-write register [] = refl
emits-write register (o ∷ os) = emits-write register os

module _ (c : Circuit) (k : Trimmed c) where
  wrote_after : (i : ℕ) → i ≤ length c.gates → Wrote (allocation_after c i)
  unfolding allocation_after gate_turn
  wrote_after zero h = λ e l. absurd (not-suc-le-zero l)
  wrote_after (suc i) h =
      let s = allocation_after c i in
      let g = get_or c.gates i no_gate in
      wrote-operate (is_used_from c (suc i)) (first_gate c.inputs + i) g (ensure_operands g s)
      (each_at (λ m g. has_gate_kind m g ≡ true) (first_gate c.inputs) c.gates k.valid.kinds i h)
      (wrote-ensure g.right (ensure_loaded g.left s) (wrote-ensure g.left s (wrote_after i (omega arith))))

  wrote-outputs : (j : ℕ) → Wrote (outputs_loaded c j)
  unfolding outputs_loaded
  wrote-outputs zero = wrote_after (length c.gates) (omega arith)
  wrote-outputs (suc j) = wrote-ensure (get_or c.outputs j 0) (outputs_loaded c j) (wrote-outputs j)

  -- the allocation has as many registers as the need at the end, so all of these are written
  pub program-writes : (d : ℕ) → d < need c → is_among d (registers_written (program c)) ≡ true
  program-writes d h =
      let s = allocation_at_end c in
      ap (λ is. is_among d (registers_written is)) (sym (end-is-program c k))
      ∙ ap (is_among d) (written-append s.code (emits s.owners c.outputs) ∙ ap (λ l. registers_written s.code ++ l) (emits-write (register_of s.owners) c.outputs)
      ∙ append-nil (registers_written s.code))
      ∙ wrote-outputs (length c.outputs) d (omega (arith, end-size c k))
