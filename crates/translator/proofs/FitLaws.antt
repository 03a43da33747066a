-- What the loops of the allocator ask for at each gate and output: registers, room on the stack, and room in the program. Assumes nothing.
use mathlib.Core.Path.{◌≡◌, ap, ◌∙◌}
use mathlib.Core.Bool.{◌||◌}
use mathlib.Core.List.{[], ◌∷◌}
use Prim.Native.Nat.{ℕ, suc, ◌+◌, ◌≤◌, ◌<◌}
use native.Mathlib.Numerals.{add-one}
use native.Mathlib.Omega.{arith}
use lib.Dec.{eqb}
use lib.ListN.{length, get_or, length-append}
use Rattle.circuit.specs.Circuit.{Gate, Circuit, first_gate, references, no_gate}
use Rattle.circuit.proofs.ValidLaws.{Limited}
use Rattle.translator.specs.LiveRange.{is_used_from}
use Rattle.translator.specs.Need.{need}
use Rattle.translator.specs.Machine.{emitting, max_registers}
use Rattle.translator.specs.Allocation.{Allocation, assign}
use Rattle.translator.specs.Allocator.{ensure_loaded, gate_turn, allocation_after, allocation_before, outputs_loaded}
use Rattle.translator.specs.Program.{program, max_instructions}
use Rattle.translator.specs.Registers.{instruction_at, Loadable, Operable, Turnable}
use Rattle.translator.proofs.TrimmedLaws.{Trimmed}
use Rattle.translator.proofs.ReadyLaws.{is_ready, result-new, left-low, right-low, left-wanted, right-wanted, left-ready, right-ready}
use Rattle.translator.proofs.OwnerLaws.{Free, next-inside}
use Rattle.translator.proofs.AllocationLaws.{Allocated, read-there, release-room, ready-is}
use Rattle.translator.proofs.AllocatorLaws.{release-size, left-ensured, operands-wanted, left-released, both-released, result-assigned, after-allocated, before-allocated, outputs-allocated}
use Rattle.translator.proofs.SizeLaws.{ensure-grows, before-fits, after-fits, outputs-fit}
use Rattle.translator.proofs.ShapeLaws.{program-limit}
use Rattle.translator.proofs.MomentLaws.{front_length, front-outputs, front-gates, operation, after-code}

-- ---- one gate, one output more

module _ (c : Circuit) where
  pub allocation-more : (i : ℕ) (g : Gate) → get_or c.gates i no_gate ≡ g → allocation_after c (i + 1) ≡ gate_turn c i g (allocation_after c i)
  unfolding allocation_after
  allocation-more i g e = rw (add-one i, e)

  pub outputs-more : (j o : ℕ) → get_or c.outputs j 0 ≡ o → outputs_loaded c (j + 1) ≡ ensure_loaded o (outputs_loaded c j)
  unfolding outputs_loaded
  outputs-more j o e = rw (add-one j, e)

-- ---- registers

loadable : (v : ℕ) (s : Allocation) → Free s.owners s.freed → length (ensure_loaded v s).owners ≤ max_registers → Loadable v s
unfolding ensure_loaded assign
loadable v s f l e = omega (arith, next-inside v s.owners s.freed f, rw e at l)

module _ (c : Circuit) (k : Trimmed c) (enough : need c ≤ max_registers) where
  module _ (i : ℕ) (h : i < length c.gates) where
    abbrev g : Gate
    g = get_or c.gates i no_gate

    a : Allocated (references c) (is_ready c i i) (is_used_from c i) (allocation_after c i)
    a = after-allocated c k i (omega arith)

    left-loadable : Loadable g.left (allocation_after c i)
    left-loadable =
        loadable g.left (allocation_after c i) a.free (omega (arith, ensure-grows g.right (ensure_loaded g.left (allocation_after c i)), before-fits c k i h))

    right-loadable : Loadable g.right (ensure_loaded g.left (allocation_after c i))
    right-loadable =
        loadable g.right (ensure_loaded g.left (allocation_after c i)) (left-ensured c k i h (allocation_after c i) a).allocated.free (omega (arith, before-fits c k i h))

    operable : Operable (is_used_from c (suc i)) (first_gate c.inputs + i) g (allocation_before c i)
    unfolding gate_turn allocation_after assign
    operable =
        let b = before-allocated c k i h in
        let w = is_used_from c (suc i) in
        let s = allocation_before c i in
        let fits : length s.owners ≤ max_registers = omega (arith, before-fits c k i h) in
        record {
          left_there = b.kept g.left (left-ready c k i h) (left-wanted c k i h);
          right_there = b.kept g.right (right-ready c k i h) (right-wanted c k i h);
          left-room = λ e. omega (
            arith,
            fits,
            release-room (references c) (is_ready c (suc i) i) (λ x. eqb x g.right || w x) g.left s (omega (arith, left-low c k i h)) (left-ready c k i h)
                (operands-wanted c k i h (allocation_after c i) a) e,
          );
          right-still = read-there (references c) (is_ready c (suc i) i) w g.right _ (omega (arith, right-low c k i h)) (right-ready c k i h)
              (left-released c k i h (allocation_after c i) a);
          right-room = λ e. omega (
            arith,
            fits,
            release-size (eqb g.left g.right || w g.left) g.left s,
            release-room (references c) (is_ready c (suc i) i) w g.right _ (omega (arith, right-low c k i h)) (right-ready c k i h)
                (left-released c k i h (allocation_after c i) a) e,
          );
          result-new = ready-is (references c) (is_ready c (suc i) i) w (first_gate c.inputs + i) _ (omega arith) (k.used i h)
              (both-released c k i h (allocation_after c i) a) ∙ result-new c k i h;
          result-next = omega (arith, (result-assigned c k i h (allocation_after c i) a (λ d. emitting d)).inside, after-fits c k (suc i) h);
        }

    fits : Limited c → length (allocation_before c i).code + 1 ≤ max_instructions
    fits l =
        omega (
          arith,
          ap length (after-code c i) ∙ length-append (allocation_before c i).code (operation c i g (allocation_before c i) ∷ []),
          front_length (allocation_after c (suc i)).code (program c) (front-gates c k (suc i) h),
          program-limit c k l,
        )

    -- all that gate i asks for
    pub turnable : Limited c → (size : ℕ) → instruction_at max_instructions ≤ size
        → Turnable (is_used_from c (i + 1)) (first_gate c.inputs + i) g (allocation_after c i) size
    turnable l size room =
        record {
          left-next = left-loadable;
          right-next = right-loadable;
          operable = rw (add-one i) operable;
          fits = omega (arith, fits l, room);
        }

  pub output-loadable : (j : ℕ) → j < length c.outputs → Loadable (get_or c.outputs j 0) (outputs_loaded c j)
  unfolding outputs_loaded
  output-loadable j h =
      loadable (get_or c.outputs j 0) (outputs_loaded c j) (outputs-allocated c k j (omega arith)).free (omega (arith, outputs-fit c k (suc j) h))

-- ---- instructions

module _ (c : Circuit) (k : Trimmed c) (l : Limited c) where
  pub output-writable : (j : ℕ) → j ≤ length c.outputs → length (outputs_loaded c j).code ≤ max_instructions
  output-writable j h = omega (arith, front_length (outputs_loaded c j).code (program c) (front-outputs c k j h), program-limit c k l)
