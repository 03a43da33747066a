use mathlib.Core.Path.{◌≡◌}
use Prim.Native.Nat.{◌≤◌}
use Rattle.circuit.specs.Table.{decode}
use Rattle.translator.specs.Machine.{emitting}
use Rattle.translator.specs.Allocation.{register_of}
use Rattle.translator.specs.Registers.{owners_of}
use Rattle.translator.proofs.ProgramLaws.{Emitted}
use Rattle.translator.proofs.allocating.Allocator.write_emits.Given as goal

abbrev pub invariant-loop-k : goal.invariant-loop-k
invariant-loop-k l =
    record {
      below : l.k ≤ l.k-end;
      same_program : l.self.program.ghost_name ≡ l.initial.self.program.ghost_name;
      same_owners : owners_of l.self.registers ≡ owners_of l.initial.self.registers;
      emitted : Emitted (λ o. emitting (register_of (owners_of l.initial.self.registers) o)) (decode l.circuit).outputs l.initial.self l.self l.k;
    }
