-- 01, Register program, 11: the program of a trimmed circuit.
use Rattle.std.specs.Prelude.{ℕ, zero, suc, ◌+◌, List, [], ◌∷◌, ◌++◌, map, get_or, drop}
use Rattle.circuit.specs.Circuit.{Circuit, max_outputs, max_references}
use Rattle.translator.specs.Machine.{Instruction, emitting}
use Rattle.translator.specs.Actions.{actions}
use Rattle.translator.specs.Allocation.{Allocation, no_registers, register_of, allocate}

-- one emit an output, in order
abbrev pub emits : (owners outputs : List ℕ) → List Instruction
emits owners outputs = map (λ o. emitting (register_of owners o)) outputs

-- the actions with registers, and then the emits
abbrev pub with_emits : Circuit → Allocation → List Instruction
with_emits c s = s.code ++ emits s.owners c.outputs

unfoldable pub program : Circuit → List Instruction
program c = with_emits c (allocate c.outputs (actions c) no_registers)

-- instructions as numbers, four each; and the first n instructions of such a list
unfoldable pub encode_program : List Instruction → List ℕ
encode_program [] = []
encode_program (i ∷ is) = i.opcode ∷ i.arg1 ∷ i.arg2 ∷ i.arg3 ∷ encode_program is

unfoldable pub instructions_of : (n : ℕ) → List ℕ → List Instruction
instructions_of zero p = []
instructions_of (suc n) p =
    record { opcode = get_or p 0 0; arg1 = get_or p 1 0; arg2 = get_or p 2 0; arg3 = get_or p 3 0 } ∷ instructions_of n (drop 4 p)

-- no program has more instructions than there can be constants, inputs, gates and outputs
abbrev pub max_instructions : ℕ
max_instructions = max_references + max_outputs
