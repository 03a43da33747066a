-- Arrays of zeros are as they should be (`arrays-none`).
use mathlib.Core.Path.{refl}
use Rattle.translator.specs.RegisterArrays.{stack_of}
use Prim.Native.Nat.{ℕ}
use lib.ListN.{length-replicate}
use Rattle.circuit.specs.Circuit.{max_references}
use Rattle.circuit.proofs.PassLaws.{zeros-at}
use Rattle.translator.specs.Machine.{max_registers}
use Rattle.translator.proofs.ArrayLaws.{arrays-none}
use Rattle.translator.proofs.registers.Registers.new.Goals as goal

pub invariant_of-result : goal.invariant_of-result
invariant_of-result c = let r = c.requires in
    record {
      arrays = rw (r.owner_empty, r.freed_empty, r.place_empty)
          (arrays-none _ _ _ (length-replicate {A = ℕ} max_registers 0) (length-replicate {A = ℕ} max_registers 0)
          (length-replicate {A = ℕ} max_references 0) (zeros-at max_registers) (zeros-at max_references));
    }

pub returns : goal.returns
unfolding stack_of
returns c = λ code. refl
