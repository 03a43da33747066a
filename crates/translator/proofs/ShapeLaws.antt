-- The program follows the actions, instruction by instruction; how many there are, and what they are as numbers. Assumes nothing.
use mathlib.Core.Path.{◌≡◌, refl, sym, ap, ap₂, ◌∙◌}
use mathlib.Core.Logic.{◌⊎◌, inl, inr}
use mathlib.Core.Bool.{Bool, true, false, ◌&&◌, ◌||◌}
use mathlib.Core.List.{List, [], ◌∷◌, ◌++◌, map, map-append, append_assoc, append-nil}
use Prim.Native.Nat.{ℕ, suc, ◌+◌, ◌*◌, ◌≤◌}
use native.Mathlib.Omega.{arith}
use lib.Dec.{eqb}
use lib.ListN.{length, replicate, length-append, length-map, length-replicate}
use borrow.Author.Tests.{lt-ltb, ltb-true}
use Rattle.lists.proofs.Tests.{left-of}
use Rattle.circuit.specs.Circuit.{Gate, Circuit, first_gate, xor_kind, and_kind}
use Rattle.circuit.specs.Each.{EachGate}
use Rattle.circuit.specs.Path.{is_among}
use Rattle.circuit.specs.Refusal.{has_gate_kind}
use Rattle.circuit.proofs.RefusalLaws.{either}
use Rattle.circuit.proofs.ValidLaws.{Limited}
use Rattle.translator.specs.Need.{count_below}
use Rattle.translator.specs.LiveRange.{is_used_from, is_constant_or_input}
use Rattle.translator.specs.Machine.{Instruction, loading, operating, emitting}
use Rattle.translator.specs.Actions.{Action, load, operate, actions, is_read, loads_of, operations_of}
use Rattle.translator.specs.Allocation.{Allocation, no_registers, register_of, next_register, assign, release, release_operands, loaded, operated, allocate}
use Rattle.translator.specs.Program.{emits, program, encode_program, instructions_of, max_instructions}
use Rattle.translator.specs.Shape.{without_registers, instruction_of}
use Rattle.translator.proofs.CountLaws.{count_same, count-limit}
use Rattle.translator.proofs.TrimmedLaws.{Trimmed}
use Rattle.translator.proofs.LoadLaws.{actions-length, operations-actions, occurrences-count, actions-occurrences}

-- ---- instructions and actions

shape-operation : (kind d a b : ℕ) → eqb kind xor_kind || eqb kind and_kind ≡ true → without_registers (operating kind d a b) ≡ operating kind 0 0 0
unfolding without_registers
shape-operation kind d a b k = go (either kind k)
  where
    go : (kind ≡ xor_kind) ⊎ (kind ≡ and_kind) → without_registers (operating kind d a b) ≡ operating kind 0 0 0
    go (inl e) = rw e
    go (inr e) = rw e

release-code : (keep : Bool) (v : ℕ) (s : Allocation) → (release keep v s).code ≡ s.code
unfolding release
release-code true v s = refl
release-code false v s = refl

pub releases-code : (w : ℕ → Bool) (g : Gate) (s : Allocation) → (release_operands w g s).code ≡ s.code
unfolding release_operands
releases-code w g s = release-code (w g.right) g.right _ ∙ release-code (eqb g.left g.right || w g.left) g.left s

-- one instruction behind others
shape-last : (is : List Instruction) (i j : Instruction) (rest : List Instruction) → without_registers i ≡ j
    → map without_registers (is ++ (i ∷ [])) ++ rest ≡ map without_registers is ++ (j ∷ rest)
shape-last is i j rest e =
    ap (λ l. l ++ rest) (map-append without_registers is (i ∷ [])) ∙ append_assoc (map without_registers is) (without_registers i ∷ []) rest
    ∙ ap (λ x. map without_registers is ++ (x ∷ rest)) e

module _ (outs : List ℕ) where
  shape-allocate : (n : ℕ) (ss : List Action) (s : Allocation) → EachGate (λ m g. has_gate_kind m g ≡ true) n (operations_of ss)
      → map without_registers (allocate outs ss s).code ≡ map without_registers s.code ++ map instruction_of ss
  unfolding allocate operations_of assign without_registers
  shape-allocate n [] s k = sym (append-nil (map without_registers s.code))
  shape-allocate n (load v ∷ ss) s k =
      shape-allocate n ss (loaded v s) k ∙ shape-last s.code (loading (next_register s.owners s.freed) v) (loading 0 v) (map instruction_of ss) refl
  shape-allocate n (operate v g ∷ ss) s k =
      let w : ℕ → Bool = λ r. is_read r ss || is_among r outs in
      let u = release_operands w g s in
      let i = operating g.kind (next_register u.owners u.freed) (register_of s.owners g.left) (register_of s.owners g.right) in
      shape-allocate (suc n) ss (operated w v g s) k.1
      ∙ ap (λ is. map without_registers (is ++ (i ∷ [])) ++ map instruction_of ss) (releases-code w g s)
      ∙ shape-last s.code i (operating g.kind 0 0 0) (map instruction_of ss) (shape-operation g.kind i.arg1 i.arg2 i.arg3 k.0)

shape-emits : (ws os : List ℕ) → map without_registers (emits ws os) ≡ replicate (length os) (emitting 0)
unfolding without_registers
shape-emits ws [] = refl
shape-emits ws (o ∷ os) = ap (λ l. emitting 0 ∷ l) (shape-emits ws os)

module _ (c : Circuit) (k : Trimmed c) where
  pub code_shape : map without_registers (allocate c.outputs (actions c) no_registers).code ≡ map instruction_of (actions c)
  code_shape = shape-allocate c.outputs (first_gate c.inputs) (actions c) no_registers (rw (operations-actions c) k.valid.kinds)

  pub program-shape : map without_registers (program c) ≡ map instruction_of (actions c) ++ replicate (length c.outputs) (emitting 0)
  unfolding program
  program-shape =
      let s = allocate c.outputs (actions c) no_registers in
      map-append without_registers s.code (emits s.owners c.outputs) ∙ ap₂ ◌++◌ code_shape (shape-emits s.owners c.outputs)

  loads-count : length (loads_of (actions c)) ≡ count_below (is_used_from c 0) (first_gate c.inputs)
  loads-count =
      let n = first_gate c.inputs in
      occurrences-count (loads_of (actions c)) (λ v. is_constant_or_input c v && is_used_from c 0 v) n
      (λ v e. ltb-true v n (left-of (is_constant_or_input c v) (is_used_from c 0 v) e)) (actions-occurrences c)
      ∙ count_same _ _ n (λ v l. rw (lt-ltb v n l))

  -- one instruction for each used constant or input, each gate and each output
  pub program-length : length (program c) ≡ count_below (is_used_from c 0) (first_gate c.inputs) + length c.gates + length c.outputs
  program-length =
      sym (length-map (program c) without_registers) ∙ ap length program-shape
      ∙ length-append (map instruction_of (actions c)) (replicate (length c.outputs) (emitting 0))
      ∙ omega (arith, length-map (actions c) instruction_of, length-replicate (length c.outputs) (emitting 0), actions-length (actions c), loads-count, ap length (operations-actions c))

  pub program-limit : Limited c → length (program c) ≤ max_instructions
  program-limit l =
      omega (arith, program-length, count-limit (is_used_from c 0) (first_gate c.inputs), l.inputs-limit, l.gates-limit, l.outputs-limit)

-- ---- instructions as numbers

pub encode-length : (is : List Instruction) → length (encode_program is) ≡ 4 * length is
unfolding encode_program
encode-length [] = refl
encode-length (i ∷ is) = omega (arith, encode-length is)

pub encode-append : (is js : List Instruction) → encode_program (is ++ js) ≡ encode_program is ++ encode_program js
unfolding encode_program
encode-append [] js = refl
encode-append (i ∷ is) js = ap (λ l. i.opcode ∷ i.arg1 ∷ i.arg2 ∷ i.arg3 ∷ l) (encode-append is js)

pub instructions-encode : (is : List Instruction) (rest : List ℕ) → instructions_of (length is) (encode_program is ++ rest) ≡ is
unfolding encode_program instructions_of
instructions-encode [] rest = refl
instructions-encode (i ∷ is) rest = ap (λ l. i ∷ l) (instructions-encode is rest)
