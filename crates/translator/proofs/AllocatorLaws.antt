-- The allocation from gate to gate and from output to output, and how many registers it has in use. Assumes nothing.
use mathlib.Core.Path.{◌≡◌, refl, sym, ap, ap₂, ◌∙◌}
use mathlib.Core.Bool.{Bool, true, false, ◌&&◌, ◌||◌, and-false, or_assoc}
use Prim.Native.Nat.{ℕ, zero, suc, ◌+◌, ◌≤◌, ◌<◌, max}
use native.Mathlib.Omega.{arith}
use lib.Dec.{eqb}
use lib.ListN.{length, take, get_or, length-set}
use lib.Seq.{take-suc, take-length}
use Rattle.lists.specs.Below.{map_below}
use Rattle.lists.proofs.Tests.{left-of}
use Rattle.circuit.specs.Circuit.{Gate, Circuit, first_gate, references, no_gate}
use Rattle.circuit.specs.Depth.{largest}
use Rattle.circuit.specs.Path.{is_among, is_output}
use Rattle.translator.specs.LiveRange.{is_used_from, is_held_before, is_held_after}
use Rattle.translator.specs.Need.{count_below, count_references, held_around, need}
use Rattle.translator.specs.Machine.{Instruction}
use Rattle.translator.specs.Allocation.{Allocation, register_of, release, release_left, release_operands}
use Rattle.translator.specs.Allocator.{ensure_loaded, ensure_operands, gate_turn, allocation_after, allocation_before, outputs_loaded, allocation_at_end}
use Rattle.translator.proofs.CountLaws.{count_same, count-grows}
use Rattle.translator.proofs.TrimmedLaws.{Trimmed}
use Rattle.translator.proofs.ReadyLaws.{is_ready, ready-none, ready-operands, ready-result, result-new, wanted-here, wanted-end, left-low, right-low, left-wanted, right-wanted, left-ready, right-ready}
use Rattle.translator.proofs.PressureLaws.{largest-last}
use Rattle.translator.proofs.OwnerLaws.{among-element, among-last}
use Rattle.translator.proofs.AllocationLaws.{Allocated, allocated_same, allocated-none, release-allocated, with_value, Assigned, assigned, Ensured, ensured}

pub release-size : (keep : Bool) (v : ℕ) (s : Allocation) → length (release keep v s).owners ≡ length s.owners
unfolding release
release-size true v s = refl
release-size false v s = length-set s.owners (register_of s.owners v) 0

pub releases-size : (w : ℕ → Bool) (g : Gate) (s : Allocation) → length (release_operands w g s).owners ≡ length s.owners
unfolding release_operands
releases-size w g s = release-size (w g.right) g.right _ ∙ release-size (eqb g.left g.right || w g.left) g.left s

-- ---- one gate

module _ (c : Circuit) (k : Trimmed c) (i : ℕ) (h : i < length c.gates) (s : Allocation)
    (a : Allocated (references c) (is_ready c i i) (is_used_from c i) s) where
  abbrev g : Gate
  g = get_or c.gates i no_gate

  abbrev result : ℕ
  result = first_gate c.inputs + i

  abbrev w : ℕ → Bool
  w = is_used_from c (suc i)

  pub left-ensured : Ensured (references c) (is_ready c i i) (is_used_from c i) g.left s
  left-ensured = ensured (references c) (is_ready c i i) (is_used_from c i) g.left s (omega (arith, left-low c k i h)) (left-wanted c k i h) a

  right-ensured : Ensured (references c) (with_value g.left (is_ready c i i)) (is_used_from c i) g.right (ensure_loaded g.left s)
  right-ensured =
      ensured (references c) (with_value g.left (is_ready c i i)) (is_used_from c i) g.right (ensure_loaded g.left s)
      (omega (arith, right-low c k i h)) (right-wanted c k i h) left-ensured.allocated

  pub operands-allocated : Allocated (references c) (is_ready c (suc i) i) (is_used_from c i) (ensure_operands g s)
  operands-allocated =
      allocated_same (references c) (with_value g.right (with_value g.left (is_ready c i i))) (is_ready c (suc i) i) (is_used_from c i) (is_used_from c i)
      (ensure_operands g s) (λ x. sym (ready-operands c k i h x)) (λ x. refl) right-ensured.allocated

  operands-size : length (ensure_operands g s).owners ≡ max (length s.owners) (count_references c (is_held_before c i))
  operands-size =
      let fewer = count-grows (with_value g.left (is_ready c i i)) (is_used_from c i) g.right (references c) in
      let all : count_below (λ x. with_value g.right (with_value g.left (is_ready c i i)) x && is_used_from c i x) (references c) ≡ count_references c (is_held_before c i)
      = count_same _ _ (references c) (λ x l. ap (λ b. b && is_used_from c i x) (sym (ready-operands c k i h x))) in
      omega (arith, left-ensured.size, right-ensured.size)

  -- before the two frees, and between them
  pub operands-wanted : Allocated (references c) (is_ready c (suc i) i) (λ x. eqb x g.left || (eqb x g.right || w x)) (ensure_operands g s)
  operands-wanted =
      allocated_same (references c) (is_ready c (suc i) i) (is_ready c (suc i) i) (is_used_from c i) _ (ensure_operands g s) (λ x. refl) (wanted-here c k i h)
      operands-allocated

  pub left-released : Allocated (references c) (is_ready c (suc i) i) (λ x. eqb x g.right || w x)
      (release_left w g (ensure_operands g s))
  left-released =
      release-allocated (references c) (is_ready c (suc i) i) (λ x. eqb x g.right || w x) g.left (ensure_operands g s)
      (omega (arith, left-low c k i h)) (left-ready c k i h) operands-wanted

  pub both-released : Allocated (references c) (is_ready c (suc i) i) w (release_operands w g (ensure_operands g s))
  unfolding release_operands
  both-released =
      release-allocated (references c) (is_ready c (suc i) i) w g.right _ (omega (arith, right-low c k i h)) (right-ready c k i h) left-released

  pub result-assigned : (make : ℕ → Instruction) → Assigned (references c) (is_ready c (suc i) i) w result make (release_operands w g (ensure_operands g s))
  result-assigned make = assigned (references c) (is_ready c (suc i) i) w result make (omega arith) (result-new c k i h) (k.used i h) _ both-released

  turn-allocated : Allocated (references c) (is_ready c (suc i) (suc i)) w (gate_turn c i g s)
  unfolding gate_turn
  turn-allocated =
      allocated_same (references c) (with_value result (is_ready c (suc i) i)) (is_ready c (suc i) (suc i)) w w _ (λ x. sym (ready-result c k i h x)) (λ x. refl)
      (result-assigned _).allocated

  turn-size : length (gate_turn c i g s).owners ≡ max (length s.owners) (held_around c i)
  unfolding gate_turn
  turn-size =
      let all : count_below (λ x. with_value result (is_ready c (suc i) i) x && w x) (references c) ≡ count_references c (is_held_after c i)
      = count_same _ _ (references c) (λ x l. ap (λ b. b && w x) (sym (ready-result c k i h x))) in
      (result-assigned _).size ∙ omega (arith, operands-size, releases-size w g (ensure_operands g s))

-- ---- all gates

-- what is ready when all gates are done and the first j outputs ensured
abbrev pub ready_outputs : Circuit → (j v : ℕ) → Bool
ready_outputs c j v = is_among v (take j c.outputs) || is_ready c (length c.gates) (length c.gates) v

module _ (c : Circuit) (k : Trimmed c) where
  pub after-allocated : (i : ℕ) → i ≤ length c.gates → Allocated (references c) (is_ready c i i) (is_used_from c i) (allocation_after c i)
  unfolding allocation_after
  after-allocated zero h = allocated-none (references c) (is_ready c 0 0) (is_used_from c 0) (ready-none c)
  after-allocated (suc i) h = turn-allocated c k i h (allocation_after c i) (after-allocated i (omega arith))

  after-size : (i : ℕ) → i ≤ length c.gates → length (allocation_after c i).owners ≡ largest (map_below (held_around c) i)
  unfolding allocation_after map_below largest
  after-size zero h = refl
  after-size (suc i) h =
      turn-size c k i h (allocation_after c i) (after-allocated i (omega arith))
      ∙ ap (λ m. max m (held_around c i)) (after-size i (omega arith)) ∙ sym (largest-last (map_below (held_around c) i) (held_around c i))

  pub before-allocated : (i : ℕ) → i < length c.gates → Allocated (references c) (is_ready c (suc i) i) (is_used_from c i) (allocation_before c i)
  before-allocated i h = operands-allocated c k i h (allocation_after c i) (after-allocated i (omega arith))

  -- ---- the outputs

  more-outputs : (j : ℕ) → j < length c.outputs → (v : ℕ) → ready_outputs c (suc j) v ≡ with_value (get_or c.outputs j 0) (ready_outputs c j) v
  more-outputs j h v =
      let o = get_or c.outputs j 0 in
      let p = is_ready c (length c.gates) (length c.gates) v in
      ap (λ b. b || p) (ap (is_among v) (take-suc c.outputs j 0 h) ∙ among-last v (take j c.outputs) o)
      ∙ or_assoc (eqb v o) (is_among v (take j c.outputs)) p

  module _ (j : ℕ) (h : j < length c.outputs) (s : Allocation) (a : Allocated (references c) (ready_outputs c j) (is_output c) s) where
    output-ensured : Ensured (references c) (ready_outputs c j) (is_output c) (get_or c.outputs j 0) s
    output-ensured =
        let o = among-element c.outputs j h in
        ensured (references c) (ready_outputs c j) (is_output c) (get_or c.outputs j 0) s (k.valid.outputs-below (get_or c.outputs j 0) o) o a

    output-allocated : Allocated (references c) (ready_outputs c (suc j)) (is_output c) (ensure_loaded (get_or c.outputs j 0) s)
    output-allocated =
        allocated_same (references c) (with_value (get_or c.outputs j 0) (ready_outputs c j)) (ready_outputs c (suc j)) (is_output c) (is_output c) _
        (λ v. sym (more-outputs j h v)) (λ v. refl) output-ensured.allocated

  pub outputs-allocated : (j : ℕ) → j ≤ length c.outputs → Allocated (references c) (ready_outputs c j) (is_output c) (outputs_loaded c j)
  unfolding outputs_loaded is_among
  outputs-allocated zero h =
      allocated_same (references c) (is_ready c (length c.gates) (length c.gates)) (ready_outputs c 0) (is_used_from c (length c.gates)) (is_output c) _
      (λ v. refl) (wanted-end c) (after-allocated (length c.gates) (omega arith))
  outputs-allocated (suc j) h = output-allocated j h (outputs_loaded c j) (outputs-allocated j (omega arith))

  outputs-size : (j : ℕ) → j ≤ length c.outputs
      → length (outputs_loaded c j).owners ≡ max (length (allocation_after c (length c.gates)).owners) (count_references c (λ v. ready_outputs c j v && is_output c v))
  unfolding outputs_loaded
  outputs-size zero h = omega (arith, (outputs-allocated 0 h).total)
  outputs-size (suc j) h =
      let o = get_or c.outputs j 0 in
      let fewer = count-grows (ready_outputs c j) (is_output c) o (references c) in
      let all : count_references c (λ v. with_value o (ready_outputs c j) v && is_output c v) ≡ count_references c (λ v. ready_outputs c (suc j) v && is_output c v)
      = count_same _ _ (references c) (λ v l. ap (λ b. b && is_output c v) (sym (more-outputs j h v))) in
      omega (arith, (output-ensured j h (outputs_loaded c j) (outputs-allocated j (omega arith))).size, outputs-size j (omega arith))

  all-outputs : (v : ℕ) → ready_outputs c (length c.outputs) v && is_output c v ≡ is_output c v
  all-outputs v = ap (λ os. (is_among v os || is_ready c (length c.gates) (length c.gates) v) && is_output c v) (take-length c.outputs) ∙ go (is_output c v)
    where
      go : (b : Bool) → (b || is_ready c (length c.gates) (length c.gates) v) && b ≡ b
      go true = refl
      go false = and-false (is_ready c (length c.gates) (length c.gates) v)

  -- the outputs' values are held to the end
  pub end-holds : (v : ℕ) → is_output c v ≡ true → is_among (suc v) (allocation_at_end c).owners ≡ true
  end-holds v e =
      (outputs-allocated (length c.outputs) (omega arith)).kept v
      (left-of (ready_outputs c (length c.outputs) v) (is_output c v) (all-outputs v ∙ e)) e

  -- as many registers as the need are in use at the end, and never more
  pub end-size : length (allocation_at_end c).owners ≡ need c
  unfolding need
  end-size =
      outputs-size (length c.outputs) (omega arith)
      ∙ ap₂ max (after-size (length c.gates) (omega arith)) (count_same _ _ (references c) (λ v l. all-outputs v))
