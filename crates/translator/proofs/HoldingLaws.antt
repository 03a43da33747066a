-- At each of 01's moments the values that are held are in registers. Over any values. Assumes nothing.
use mathlib.Core.Path.{◌≡◌}
use mathlib.Core.Bool.{Bool, true}
use mathlib.Core.List.{List, [], map}
use Prim.Native.Nat.{ℕ, suc, ◌≤◌, ◌<◌}
use native.Mathlib.Omega.{arith}
use lib.ListN.{length, take}
use Rattle.lists.proofs.Tests.{left-of, right_of}
use Rattle.circuit.specs.Circuit.{Circuit, first_gate}
use Rattle.circuit.specs.Path.{is_among, is_output}
use Rattle.translator.specs.LiveRange.{is_used_from, is_held_before, is_held_after}
use Rattle.translator.specs.Need.{need}
use Rattle.translator.specs.Allocation.{Allocation}
use Rattle.translator.specs.Allocator.{allocation_after, allocation_before, allocation_at_end}
use Rattle.translator.specs.Program.{program}
use Rattle.translator.specs.Shape.{operation_kinds}
use Rattle.translator.specs.Moment.{Holding}
use Rattle.translator.proofs.TrimmedLaws.{Trimmed}
use Rattle.translator.proofs.ReadyLaws.{is_ready}
use Rattle.translator.proofs.AllocatorLaws.{after-allocated, before-allocated, end-holds}
use Rattle.translator.proofs.RunLaws.{runs-read}
use Rattle.translator.proofs.ComputeLaws.{value, Reached, reach-after, reach-before, reach-outputs}
use Rattle.translator.proofs.MomentLaws.{Front, front-end, front-gates, front-before, kinds-after, kinds-before, kinds-end}

module _ {A : Type 0} (op : ℕ → A → A → A) (z : A) (start : List A) (c : Circuit) (k : Trimmed c) (long : length start ≡ first_gate c.inputs)
    (limit : ℕ) (enough : need c ≤ limit) where
  holding : (i : ℕ) (s : Allocation) (held : ℕ → Bool) → Front s.code (program c) → operation_kinds s.code ≡ map (λ g. g.kind) (take i c.gates)
      → Reached op z start c k long limit enough s → ((v : ℕ) → held v ≡ true → is_among (suc v) s.owners ≡ true) → Holding op z start limit c i s held
  holding i s held (rest, front) done (r, run) there =
      record {
        rest = rest;
        front = front;
        done = done;
        machine = record { registers = r; emitted = [] };
        reached = run.runs;
        holds = λ v e. runs-read start op limit (value op z start c k long) s r run v (there v e);
      }

  module _ (i : ℕ) (h : i < length c.gates) where
    pub holding-before : Holding op z start limit c i (allocation_before c i) (is_held_before c i)
    holding-before =
        holding i (allocation_before c i) (is_held_before c i) (front-before c k i h) (kinds-before c k i h) (reach-before op z start c k long limit enough i h)
        (λ v e. (before-allocated c k i h).kept v (left-of (is_ready c (suc i) i v) (is_used_from c i v) e) (right_of (is_ready c (suc i) i v) (is_used_from c i v) e))

    pub holding-after : Holding op z start limit c (suc i) (allocation_after c (suc i)) (is_held_after c i)
    holding-after =
        holding (suc i) (allocation_after c (suc i)) (is_held_after c i) (front-gates c k (suc i) h) (kinds-after c k (suc i) h)
        (reach-after op z start c k long limit enough (suc i) h)
        (λ v e. (after-allocated c k (suc i) h).kept v (left-of (is_ready c (suc i) (suc i) v) (is_used_from c (suc i) v) e) (right_of (is_ready c (suc i) (suc i) v) (is_used_from c (suc i) v) e))

  pub holding-end : Holding op z start limit c (length c.gates) (allocation_at_end c) (is_output c)
  holding-end =
      holding (length c.gates) (allocation_at_end c) (is_output c) (front-end c k) (kinds-end c k)
      (reach-outputs op z start c k long limit enough (length c.outputs) (omega arith)) (end-holds c k)
