-- The code of each allocation on the way is a front of the program, and has the operations of the gates so far. Assumes nothing.
use mathlib.Core.Path.{◌≡◌, refl, sym, ap, ap₂, ◌∙◌}
use mathlib.Core.Bool.{Bool, true, false, ◌||◌}
use mathlib.Core.List.{List, [], ◌∷◌, ◌++◌, map, map-append, append_assoc, append-nil}
use Prim.Native.Nat.{ℕ, zero, suc, ◌+◌, ◌-◌, ◌≤◌, ◌<◌}
use native.Mathlib.Nat.{add-zero, add-suc}
use native.Mathlib.Omega.{arith}
use lib.Dec.{eqb}
use lib.ListN.{length, take, get_or, length-append}
use lib.Seq.{take-suc}
use Rattle.lists.specs.First.{first}
use Rattle.circuit.specs.Circuit.{Gate, Circuit, first_gate, no_gate, xor_kind, and_kind}
use Rattle.circuit.specs.Path.{is_among}
use Rattle.circuit.specs.Refusal.{has_gate_kind}
use Rattle.circuit.proofs.EachLaws.{each_at}
use Rattle.translator.specs.LiveRange.{is_used_from}
use Rattle.translator.specs.Machine.{Instruction, loading, operating, is_operation}
use Rattle.translator.specs.Allocation.{Allocation, register_of, next_register, assign, release_operands}
use Rattle.translator.specs.Allocator.{ensure_loaded, ensure_operands, gate_turn, allocation_after, allocation_before, outputs_loaded, allocation_at_end}
use Rattle.translator.specs.Program.{emits, program}
use Rattle.translator.specs.Shape.{operation_kinds}
use Rattle.translator.proofs.TrimmedLaws.{Trimmed}
use Rattle.translator.proofs.ActionLaws.{end-is-program}
use Rattle.translator.proofs.ShapeLaws.{releases-code}

-- ---- fronts

abbrev pub Front : List Instruction → List Instruction → Type 0
Front is js = (rest : List Instruction) × (js ≡ is ++ rest)

front_same : (is : List Instruction) → Front is is
front_same is = ([], sym (append-nil is))

front-then : (is js ks : List Instruction) → Front is js → Front js ks → Front is ks
front-then is js ks (a, e) (b, f) = (a ++ b, f ∙ ap (λ l. l ++ b) e ∙ append_assoc is a b)

pub front_length : (is js : List Instruction) → Front is js → length is ≤ length js
front_length is js (rest, e) = omega (arith, ap length e ∙ length-append is rest)

pub front-ensure : (v : ℕ) (s : Allocation) → Front s.code (ensure_loaded v s).code
unfolding ensure_loaded assign
front-ensure v s = go (is_among (suc v) s.owners)
  where
    go : (b : Bool) → Front s.code (first b s (assign v (λ d. loading d v) s)).code
    go true = front_same s.code
    go false = (loading (next_register s.owners s.freed) v ∷ [], refl)

front-operands : (g : Gate) (s : Allocation) → Front s.code (ensure_operands g s).code
front-operands g s =
    front-then s.code (ensure_loaded g.left s).code (ensure_operands g s).code (front-ensure g.left s) (front-ensure g.right (ensure_loaded g.left s))

-- the one instruction of a gate's operation
abbrev pub operation : Circuit → (i : ℕ) → Gate → Allocation → Instruction
operation c i g s =
    operating g.kind
    (next_register (release_operands (is_used_from c (suc i)) g s).owners (release_operands (is_used_from c (suc i)) g s).freed)
    (register_of s.owners g.left) (register_of s.owners g.right)

pub turn-code : (c : Circuit) (i : ℕ) (g : Gate) (s : Allocation) → (gate_turn c i g s).code ≡ (ensure_operands g s).code ++ (operation c i g (ensure_operands g s) ∷ [])
unfolding gate_turn assign
turn-code c i g s =
    ap (λ is. is ++ (operation c i g (ensure_operands g s) ∷ [])) (releases-code (is_used_from c (suc i)) g (ensure_operands g s))

module _ (c : Circuit) where
  pub after-code : (i : ℕ) → (allocation_after c (suc i)).code ≡ (allocation_before c i).code ++ (operation c i (get_or c.gates i no_gate) (allocation_before c i) ∷ [])
  unfolding allocation_after
  after-code i = turn-code c i (get_or c.gates i no_gate) (allocation_after c i)

  front-turn : (i : ℕ) → Front (allocation_before c i).code (allocation_after c (suc i)).code
  front-turn i = (operation c i (get_or c.gates i no_gate) (allocation_before c i) ∷ [], after-code i)

  outputs-front : (m j : ℕ) → Front (outputs_loaded c j).code (outputs_loaded c (j + m)).code
  unfolding outputs_loaded
  outputs-front zero j = rw (add-zero j) (front_same (outputs_loaded c j).code)
  outputs-front (suc m) j =
      rw (add-suc j m) (front-then (outputs_loaded c j).code (outputs_loaded c (j + m)).code (outputs_loaded c (suc (j + m))).code (outputs-front m j)
      (front-ensure (get_or c.outputs (j + m) 0) (outputs_loaded c (j + m))))

  after_front : (m i : ℕ) → Front (allocation_after c i).code (allocation_after c (i + m)).code
  after_front zero i = rw (add-zero i) (front_same (allocation_after c i).code)
  after_front (suc m) i =
      rw (add-suc i m) (front-then (allocation_after c i).code (allocation_after c (i + m)).code (allocation_after c (suc (i + m))).code (after_front m i)
      (front-then (allocation_after c (i + m)).code (allocation_before c (i + m)).code (allocation_after c (suc (i + m))).code
      (front-operands (get_or c.gates (i + m) no_gate) (allocation_after c (i + m))) (front-turn (i + m))))

  module _ (k : Trimmed c) where
    pub front-end : Front (allocation_at_end c).code (program c)
    front-end = (emits (allocation_at_end c).owners c.outputs, sym (end-is-program c k))

    pub front-outputs : (j : ℕ) → j ≤ length c.outputs → Front (outputs_loaded c j).code (program c)
    front-outputs j h =
        let m = length c.outputs in
        let e : j + (m - j) ≡ m = omega arith in
        front-then (outputs_loaded c j).code (allocation_at_end c).code (program c) (rw e at (outputs-front (m - j) j)) front-end

    pub front-gates : (i : ℕ) → i ≤ length c.gates → Front (allocation_after c i).code (program c)
    unfolding outputs_loaded
    front-gates i h =
        let n = length c.gates in
        let e : i + (n - i) ≡ n = omega arith in
        front-then (allocation_after c i).code (allocation_after c n).code (program c) (rw e at (after_front (n - i) i)) (front-outputs 0 (omega arith))

    pub front-before : (i : ℕ) → i < length c.gates → Front (allocation_before c i).code (program c)
    front-before i h = front-then (allocation_before c i).code (allocation_after c (suc i)).code (program c) (front-turn i) (front-gates (suc i) h)

-- ---- operations

pub kinds-append : (is js : List Instruction) → operation_kinds (is ++ js) ≡ operation_kinds is ++ operation_kinds js
unfolding operation_kinds
kinds-append [] js = refl
kinds-append (i ∷ is) js = go (is_operation i) (kinds-append is js)
  where
    go : (b : Bool) → operation_kinds (is ++ js) ≡ operation_kinds is ++ operation_kinds js
        → first b (i.opcode ∷ operation_kinds (is ++ js)) (operation_kinds (is ++ js)) ≡ first b (i.opcode ∷ operation_kinds is) (operation_kinds is) ++ operation_kinds js
    go true e = ap (λ l. i.opcode ∷ l) e
    go false e = e

kinds-ensure : (v : ℕ) (s : Allocation) → operation_kinds (ensure_loaded v s).code ≡ operation_kinds s.code
unfolding ensure_loaded assign operation_kinds
kinds-ensure v s = go (is_among (suc v) s.owners)
  where
    go : (b : Bool) → operation_kinds (first b s (assign v (λ d. loading d v) s)).code ≡ operation_kinds s.code
    go true = refl
    go false = kinds-append s.code (loading (next_register s.owners s.freed) v ∷ []) ∙ append-nil (operation_kinds s.code)

kinds-operands : (g : Gate) (s : Allocation) → operation_kinds (ensure_operands g s).code ≡ operation_kinds s.code
kinds-operands g s = kinds-ensure g.right (ensure_loaded g.left s) ∙ kinds-ensure g.left s

kinds-one : (kind d a b : ℕ) → eqb kind xor_kind || eqb kind and_kind ≡ true → operation_kinds (operating kind d a b ∷ []) ≡ kind ∷ []
unfolding operation_kinds
kinds-one kind d a b k = rw k

module _ (c : Circuit) (k : Trimmed c) where
  pub kinds-after : (i : ℕ) → i ≤ length c.gates → operation_kinds (allocation_after c i).code ≡ map (λ g. g.kind) (take i c.gates)
  unfolding allocation_after operation_kinds
  kinds-after zero h = refl
  kinds-after (suc i) h =
      let g = get_or c.gates i no_gate in
      let s = allocation_after c i in
      let o = operation c i g (ensure_operands g s) in
      ap operation_kinds (turn-code c i g s) ∙ kinds-append (ensure_operands g s).code (o ∷ [])
      ∙ ap₂ ◌++◌ (kinds-operands g s ∙ kinds-after i (omega arith))
      (kinds-one g.kind o.arg1 o.arg2 o.arg3 (each_at (λ m g. has_gate_kind m g ≡ true) (first_gate c.inputs) c.gates k.valid.kinds i h))
      ∙ sym (ap (map (λ g. g.kind)) (take-suc c.gates i no_gate h) ∙ map-append (λ g. g.kind) (take i c.gates) (g ∷ []))

  pub kinds-before : (i : ℕ) → i < length c.gates → operation_kinds (allocation_before c i).code ≡ map (λ g. g.kind) (take i c.gates)
  kinds-before i h = kinds-operands (get_or c.gates i no_gate) (allocation_after c i) ∙ kinds-after i (omega arith)

  kinds-outputs : (j : ℕ) → operation_kinds (outputs_loaded c j).code ≡ operation_kinds (allocation_after c (length c.gates)).code
  unfolding outputs_loaded
  kinds-outputs zero = refl
  kinds-outputs (suc j) = kinds-ensure (get_or c.outputs j 0) (outputs_loaded c j) ∙ kinds-outputs j

  pub kinds-end : operation_kinds (allocation_at_end c).code ≡ map (λ g. g.kind) (take (length c.gates) c.gates)
  kinds-end = kinds-outputs (length c.outputs) ∙ kinds-after (length c.gates) (omega arith)
