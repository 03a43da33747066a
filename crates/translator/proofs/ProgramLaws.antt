-- The emits behind the loads and operations, and the whole program in the lent buffer. Assumes nothing.
use mathlib.Core.Path.{◌≡◌, refl, sym, ap, ap₂, ◌∙◌}
use mathlib.Core.Bool.{true}
use mathlib.Core.List.{List, [], ◌∷◌, ◌++◌, map, map-append, append_assoc, append-nil}
use Prim.Native.Nat.{ℕ, zero, suc, ◌+◌, ◌≤◌, ◌<◌}
use native.Mathlib.Nat.{add-zero}
use native.Mathlib.Numerals.{add-one}
use native.Mathlib.Omega.{arith}
use lib.ListN.{length, take, get_or, length-append, length-map}
use lib.Seq.{take-suc, take-length}
use Rattle.lines.specs.Calls.{over}
use Rattle.circuit.specs.Circuit.{Circuit}
use Rattle.circuit.specs.Path.{is_among, is_output}
use Rattle.circuit.proofs.ValidLaws.{Limited}
use Rattle.translator.specs.declared.allocating.Allocator.{Allocator}
use Rattle.translator.specs.Machine.{Instruction, emitting}
use Rattle.translator.specs.Allocation.{register_of}
use Rattle.translator.specs.Allocator.{outputs_loaded, allocation_at_end}
use Rattle.translator.specs.Program.{emits, program, encode_program, max_instructions}
use Rattle.translator.specs.Registers.{instruction_at, owners_of, code_of, Beyond, Represents}
use Rattle.translator.proofs.TrimmedLaws.{Trimmed}
use Rattle.translator.proofs.AllocatorLaws.{end-holds}
use Rattle.translator.proofs.ActionLaws.{end-is-program}
use Rattle.translator.proofs.ShapeLaws.{program-limit}
use Rattle.translator.proofs.WritingLaws.{instructions-length, beyond-then, beyond-all}
use Rattle.translator.proofs.RepresentsLaws.{code-written, ensure-longer}

-- ---- the loop of the emits

-- behind the instructions of w₀ there are in w those that f gives for the first j outputs
pub record Emitted (f : ℕ → Instruction) (os : List ℕ) (w₀ w : Allocator) (j : ℕ) : Type 0 where
  pub code : code_of w ≡ code_of w₀ ++ map f (take j os)
  pub written : w.written ≡ w₀.written + j
  pub beyond : Beyond w₀.program.now w.program.now w.written

module _ (f : ℕ → Instruction) (os : List ℕ) (w₀ : Allocator) where
  pub emitted-none : Emitted f os w₀ w₀ 0
  emitted-none =
      record { code = sym (append-nil (code_of w₀)); written = sym (add-zero w₀.written); beyond = record { beyond = refl; long = refl } }

  module _ (w : Allocator) (j : ℕ) (e : Emitted f os w₀ w j) where
    pub emitted-more : j < length os → (v : ℕ) → get_or os j 0 ≡ v → (w' : Allocator) → code_of w' ≡ code_of w ++ (f v ∷ []) → w'.written ≡ w.written + 1
        → Beyond w.program.now w'.program.now w'.written → Emitted f os w₀ w' (j + 1)
    emitted-more h v g w' q n b =
        let one : map f (take (j + 1) os) ≡ map f (take j os) ++ (f v ∷ []) =
        rw (add-one j) (ap (map f) (take-suc os j 0 h ∙ ap (λ x. take j os ++ (x ∷ [])) g) ∙ map-append f (take j os) (v ∷ [])) in
        record {
          code =
              q ∙ ap (λ xs. xs ++ (f v ∷ [])) e.code
              ∙ append_assoc (code_of w₀) (map f (take j os)) (f v ∷ []) ∙ ap (λ ys. code_of w₀ ++ ys) (sym one);
          written = omega (arith, e.written);
          beyond = beyond-then w₀.program.now w.program.now w'.program.now w.written w'.written (omega arith) e.beyond b;
        }

    pub emitted-all : j ≡ length os → code_of w ≡ code_of w₀ ++ map f os
    emitted-all g = e.code ∙ ap (λ xs. code_of w₀ ++ map f xs) (ap (λ k. take k os) g ∙ take-length os)

-- ---- the program

outputs-longer : (c : Circuit) (j : ℕ) → length (outputs_loaded c 0).code ≤ length (outputs_loaded c j).code
unfolding outputs_loaded
outputs-longer c zero = omega arith
outputs-longer c (suc j) = omega (arith, outputs-longer c j, ensure-longer (get_or c.outputs j 0) (outputs_loaded c j))

-- when all outputs are loaded, and w is the writer after the emits
module _ (c : Circuit) (k : Trimmed c) (old mid a : Allocator) (p : Represents mid old (outputs_loaded c 0)) (r : Represents a mid (allocation_at_end c)) where
  end-code : code_of a ++ emits (owners_of a.registers) c.outputs ≡ program c
  end-code =
      ap₂ ◌++◌ (ap (λ s. s.code) r.allocation) (ap (λ s. emits s.owners c.outputs) r.allocation) ∙ end-is-program c k

  pub end-held : (v : ℕ) → is_output c v ≡ true → is_among (suc v) (owners_of a.registers) ≡ true
  end-held v e = ap (λ s. is_among (suc v) s.owners) r.allocation ∙ end-holds c k v e

  emitted-length : a.written + length c.outputs ≡ length (program c)
  emitted-length =
      omega (
        arith,
        ap length end-code,
        length-append (code_of a) (emits (owners_of a.registers) c.outputs),
        length-map c.outputs (λ o. emitting (register_of (owners_of a.registers) o)),
        instructions-length a.written a.program.now,
      )

  pub emits-fit : Limited c → a.written + length c.outputs ≤ max_instructions
  emits-fit l = omega (arith, emitted-length, program-limit c k l)

  pub program-written : (w : Allocator) → code_of w ≡ code_of a ++ emits (owners_of a.registers) c.outputs
      → Beyond a.program.now w.program.now w.written → instruction_at max_instructions ≤ length old.program.now → Limited c
      → (w.written ≡ length (program c)) × (w.program.now ≡ over (encode_program (program c)) old.program.now)
  program-written w e b room l =
      let x = e ∙ end-code in
      let count : w.written ≡ length (program c) = sym (instructions-length w.written w.program.now) ∙ ap length x in
      let m = code-written mid _ p.allocation in
      let n = code-written a _ r.allocation in
      let longer = outputs-longer c (length c.outputs) in
      let kept =
      beyond-then old.program.now mid.program.now a.program.now mid.written a.written (omega arith) p.kept r.kept in
      let all = beyond-then old.program.now a.program.now w.program.now a.written w.written (omega (arith, emitted-length)) kept b in
      (count, beyond-all old.program.now w.program.now w.written (program c) (omega (arith, program-limit c k l, all.long)) all x)
