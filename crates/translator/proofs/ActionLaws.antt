-- The loops allocate as the actions do, so that they write the program. Assumes nothing.
use mathlib.Core.Path.{◌≡◌, refl, sym, ap, ◌∙◌, fun_ext}
use mathlib.Core.Bool.{Bool, true, false, not, ◌&&◌, ◌||◌}
use mathlib.Core.List.{List, [], ◌∷◌, ◌++◌, append_assoc}
use Prim.Native.Nat.{ℕ, zero, suc, ◌+◌, ◌≤◌, ◌<◌}
use native.Mathlib.Omega.{arith}
use lib.Dec.{eqb}
use lib.ListN.{length, take, drop, get_or}
use lib.Seq.{drop-cons, drop-length}
use Rattle.lists.specs.First.{first}
use Rattle.circuit.specs.Circuit.{Gate, Circuit, first_gate, references, no_gate}
use Rattle.circuit.specs.Path.{is_among, is_output, is_operand, is_used}
use Rattle.translator.specs.LiveRange.{is_used_from}
use Rattle.translator.specs.Actions.{Action, operate, load_if, is_unloaded, output_loads, actions_from, actions, is_read}
use Rattle.translator.specs.Allocation.{Allocation, no_registers, loaded, operated, allocate}
use Rattle.translator.specs.Allocator.{ensure_loaded, ensure_operands, gate_turn, allocation_after, outputs_loaded, allocation_at_end}
use Rattle.translator.specs.Program.{with_emits, program}
use Rattle.translator.proofs.TrimmedLaws.{Trimmed}
use Rattle.translator.proofs.ReadyLaws.{is_ready, neither, unloaded-is, left-low, right-low, left-wanted, right-wanted}
use Rattle.translator.proofs.PressureLaws.{unloaded-right}
use Rattle.translator.proofs.OwnerLaws.{among-element}
use Rattle.translator.proofs.AllocationLaws.{Allocated, with_value, ready-is}
use Rattle.translator.proofs.AllocatorLaws.{left-ensured, after-allocated, ready_outputs, outputs-allocated}

-- ---- loads

module _ (b : Bool) (v : ℕ) (ss : List Action) where
  pub read-load : (u : ℕ) → is_read u (load_if b v ++ ss) ≡ is_read u ss
  unfolding is_read
  read-load u = go b
    where
      go : (b : Bool) → is_read u (load_if b v ++ ss) ≡ is_read u ss
      go true = refl
      go false = refl

  allocate-load : (outs : List ℕ) (s : Allocation) → allocate outs (load_if b v ++ ss) s ≡ allocate outs ss (first b (loaded v s) s)
  unfolding allocate
  allocate-load outs s = go b
    where
      go : (b : Bool) → allocate outs (load_if b v ++ ss) s ≡ allocate outs ss (first b (loaded v s) s)
      go true = refl
      go false = refl

-- a load that is wanted exactly if the value is in no register
load-ensures : (b : Bool) (v : ℕ) (s : Allocation) → b ≡ not (is_among (suc v) s.owners) → first b (loaded v s) s ≡ ensure_loaded v s
unfolding ensure_loaded
load-ensures b v s e = rw e (go (is_among (suc v) s.owners))
  where
    go : (a : Bool) → first (not a) (loaded v s) s ≡ first a s (loaded v s)
    go true = refl
    go false = refl

-- ---- what the actions read

module _ (c : Circuit) (v : ℕ) where
  outputs-read : (j : ℕ) (os : List ℕ) → is_read v (output_loads c j os) ≡ false
  unfolding output_loads is_read
  outputs-read j [] = refl
  outputs-read j (o ∷ os) =
      read-load (is_unloaded c (length c.gates) o && not (is_among o (take j c.outputs))) o (output_loads c (suc j) os) v ∙ outputs-read (suc j) os

  pub actions-read : (i : ℕ) (gs : List Gate) → is_read v (actions_from c i gs) ≡ is_used v gs
  unfolding actions_from is_read is_used
  actions-read i [] = outputs-read 0 c.outputs
  actions-read i (g ∷ gs) =
      let l = load_if (is_unloaded c i g.left) g.left in
      let r = load_if (is_unloaded c i g.right && not (eqb g.right g.left)) g.right in
      let rest = operate (first_gate c.inputs + i) g ∷ actions_from c (suc i) gs in
      ap (is_read v) (append_assoc l r rest) ∙ read-load (is_unloaded c i g.left) g.left (r ++ rest) v
      ∙ read-load (is_unloaded c i g.right && not (eqb g.right g.left)) g.right rest v ∙ ap (λ b. is_operand v g || b) (actions-read (suc i) gs)

module _ (c : Circuit) (k : Trimmed c) where
  -- ---- one gate

  module _ (i : ℕ) (h : i < length c.gates) (s : Allocation) (a : Allocated (references c) (is_ready c i i) (is_used_from c i) s) where
    abbrev g : Gate
    g = get_or c.gates i no_gate

    turn-actions : (gs : List Gate) → drop (suc i) c.gates ≡ gs
        → allocate c.outputs (actions_from c i (g ∷ gs)) s ≡ allocate c.outputs (actions_from c (suc i) gs) (gate_turn c i g s)
    unfolding actions_from allocate gate_turn
    turn-actions gs e =
        let l = is_unloaded c i g.left in
        let r = is_unloaded c i g.right && not (eqb g.right g.left) in
        let rest = operate (first_gate c.inputs + i) g ∷ actions_from c (suc i) gs in
        let left : l ≡ not (is_among (suc g.left) s.owners)
        = unloaded-is c i g.left (left-low c k i h)
        ∙ ap not (sym (ready-is (references c) (is_ready c i i) (is_used_from c i) g.left s (omega (arith, left-low c k i h)) (left-wanted c k i h) a)) in
        let right : r ≡ not (is_among (suc g.right) (ensure_loaded g.left s).owners)
        = unloaded-right c k i h
        ∙ ap not (sym (ready-is (references c) (with_value g.left (is_ready c i i)) (is_used_from c i) g.right (ensure_loaded g.left s) (omega (arith, right-low c k i h))
        (right-wanted c k i h) (left-ensured c k i h s a).allocated)) in
        let later : (λ v. is_read v (actions_from c (suc i) gs) || is_among v c.outputs) ≡ is_used_from c (suc i)
        = fun_ext (λ v. ap (λ b. b || is_output c v) (actions-read c v (suc i) gs ∙ ap (is_used v) (sym e))) in
        ap (λ ss. allocate c.outputs ss s) (append_assoc (load_if l g.left) (load_if r g.right) rest)
        ∙ allocate-load l g.left (load_if r g.right ++ rest) c.outputs s
        ∙ ap (allocate c.outputs (load_if r g.right ++ rest)) (load-ensures l g.left s left)
        ∙ allocate-load r g.right rest c.outputs (ensure_loaded g.left s)
        ∙ ap (allocate c.outputs rest) (load-ensures r g.right (ensure_loaded g.left s) right)
        ∙ ap (λ w. allocate c.outputs (actions_from c (suc i) gs) (operated w (first_gate c.inputs + i) g (ensure_operands g s))) later

  after-actions : (i : ℕ) → i ≤ length c.gates
      → allocate c.outputs (actions c) no_registers ≡ allocate c.outputs (actions_from c i (drop i c.gates)) (allocation_after c i)
  unfolding actions allocation_after
  after-actions zero h = refl
  after-actions (suc i) h =
      after-actions i (omega arith)
      ∙ ap (λ gs. allocate c.outputs (actions_from c i gs) (allocation_after c i)) (drop-cons c.gates i no_gate h)
      ∙ turn-actions i h (allocation_after c i) (after-allocated c k i (omega arith)) (drop (suc i) c.gates) refl

  -- ---- the outputs

  outputs-actions : (j : ℕ) → j ≤ length c.outputs
      → allocate c.outputs (output_loads c 0 c.outputs) (allocation_after c (length c.gates))
      ≡ allocate c.outputs (output_loads c j (drop j c.outputs)) (outputs_loaded c j)
  unfolding outputs_loaded output_loads
  outputs-actions zero h = refl
  outputs-actions (suc j) h =
      let o = get_or c.outputs j 0 in
      let n = length c.gates in
      let b = is_unloaded c n o && not (is_among o (take j c.outputs)) in
      let among = among-element c.outputs j h in
      let low = k.valid.outputs-below o among in
      let new : b ≡ not (is_among (suc o) (outputs_loaded c j).owners)
      = ap (λ x. x && not (is_among o (take j c.outputs))) (unloaded-is c n o low)
      ∙ neither (is_among o (take j c.outputs)) (is_ready c n n o)
      ∙ ap not (sym (ready-is (references c) (ready_outputs c j) (is_output c) o (outputs_loaded c j) low among (outputs-allocated c k j (omega arith)))) in
      outputs-actions j (omega arith)
      ∙ ap (λ os. allocate c.outputs (output_loads c j os) (outputs_loaded c j)) (drop-cons c.outputs j 0 h)
      ∙ allocate-load b o (output_loads c (suc j) (drop (suc j) c.outputs)) c.outputs (outputs_loaded c j)
      ∙ ap (allocate c.outputs (output_loads c (suc j) (drop (suc j) c.outputs))) (load-ensures b o (outputs_loaded c j) new)

  pub end-allocated : allocate c.outputs (actions c) no_registers ≡ allocation_at_end c
  unfolding allocate output_loads actions_from
  end-allocated =
      after-actions (length c.gates) (omega arith)
      ∙ ap (λ gs. allocate c.outputs (actions_from c (length c.gates) gs) (allocation_after c (length c.gates))) (drop-length c.gates)
      ∙ outputs-actions (length c.outputs) (omega arith)
      ∙ ap (λ os. allocate c.outputs (output_loads c (length c.outputs) os) (allocation_at_end c)) (drop-length c.outputs)

  pub end-is-program : with_emits c (allocation_at_end c) ≡ program c
  unfolding program
  end-is-program = ap (with_emits c) (sym end-allocated)
