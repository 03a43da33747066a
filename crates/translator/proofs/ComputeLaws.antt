-- The program computes the circuit's outputs on every machine that has as many registers as the need. Over any values. Assumes nothing.
use mathlib.Core.Path.{◌≡◌, sym, ap, ◌∙◌}
use mathlib.Core.Bool.{true}
use mathlib.Core.List.{List, []}
use mathlib.Core.Option.{Option, some, bind}
use Prim.Native.Nat.{ℕ, suc, ◌+◌, ◌≤◌, ◌<◌}
use native.Mathlib.Omega.{arith}
use lib.ListN.{length, get_or, get_elem?}
use Rattle.circuit.specs.Circuit.{Circuit, first_gate, no_gate}
use Rattle.circuit.specs.Fold.{fold_gates, at_outputs}
use Rattle.circuit.specs.Refusal.{has_gate_kind}
use Rattle.circuit.proofs.EachLaws.{each_at}
use Rattle.circuit.proofs.FoldLaws.{fold-solves, fold-keeps-start}
use Rattle.translator.specs.LiveRange.{is_used_from}
use Rattle.translator.specs.Need.{need}
use Rattle.translator.specs.Machine.{empty_machine, run}
use Rattle.translator.specs.Allocation.{Allocation}
use Rattle.translator.specs.Allocator.{allocation_after, allocation_before, outputs_loaded, allocation_at_end}
use Rattle.translator.specs.Program.{emits, with_emits}
use Rattle.translator.proofs.TrimmedLaws.{Trimmed}
use Rattle.translator.proofs.AllocatorLaws.{end-holds}
use Rattle.translator.proofs.AlongLaws.{Carried, carried-after, carried-before, carried-outputs}
use Rattle.translator.proofs.RunLaws.{element-there, run-append, Runs, runs_none, runs-read, runs-load, runs-operate, runs-emits}

module _ {A : Type 0} (op : ℕ → A → A → A) (z : A) (start : List A) (c : Circuit) (k : Trimmed c) (long : length start ≡ first_gate c.inputs) where
  abbrev pub value : ℕ → A
  value v = get_or (fold_gates op z c.gates start) v z

  pub value-start : (v : ℕ) → v < first_gate c.inputs → get_elem? start v ≡ some (value v)
  value-start v h =
      let l : v < length start = omega arith in
      element-there start z v l ∙ ap some (sym ((fold-keeps-start A op z c.gates start).1 v l))

  pub value-gate : (i : ℕ) → i < length c.gates
      → let g = get_or c.gates i no_gate in value (first_gate c.inputs + i) ≡ op g.kind (value g.left) (value g.right)
  value-gate i h = each_at _ (first_gate c.inputs) c.gates (fold-solves A op z c.gates start (first_gate c.inputs) long k.valid.ordered) i h

  module _ (limit : ℕ) (enough : need c ≤ limit) where
    -- the machine can be where the allocation is
    abbrev pub Reached : Allocation → Type 0
    Reached s = (r : List (Option A)) × Runs start op limit value s r

    reach-carried : Carried c limit (λ i. Reached)
    reach-carried =
        record {
          at_first = (_, runs_none start op limit value);
          by-load = λ i v s f fits low (r, run). (_, runs-load start op limit value s r run v f fits (value-start v low));
          by-operation = λ i h s f fits l q (r, run). (
            _,
            runs-operate start op limit value s r run (is_used_from c (suc i)) (first_gate c.inputs + i) (get_or c.gates i no_gate) f fits
                (each_at (λ m g. has_gate_kind m g ≡ true) (first_gate c.inputs) c.gates k.valid.kinds i h) l q (value-gate i h),
          );
        }

    pub reach-after : (i : ℕ) → i ≤ length c.gates → Reached (allocation_after c i)
    reach-after = carried-after c k limit enough (λ i. Reached) reach-carried

    pub reach-before : (i : ℕ) → i < length c.gates → Reached (allocation_before c i)
    reach-before = carried-before c k limit enough (λ i. Reached) reach-carried

    pub reach-outputs : (j : ℕ) → j ≤ length c.outputs → Reached (outputs_loaded c j)
    reach-outputs = carried-outputs c k limit enough (λ i. Reached) reach-carried

    pub end-computes : run start op limit (with_emits c (allocation_at_end c)) ≡ some (at_outputs z c (fold_gates op z c.gates start))
    unfolding run bind
    end-computes =
        let s = allocation_at_end c in
        let (r, m) = reach-outputs (length c.outputs) (omega arith) in
        rw (
          run-append start op s.code (emits s.owners c.outputs) (empty_machine limit),
          m.runs,
          runs-emits start op limit value s.owners r [] c.outputs (λ o e. runs-read start op limit value s r m o (end-holds c k o e)),
        )
