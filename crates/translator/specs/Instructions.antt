-- The instructions as the code has them, and their numbers.
use Rattle.std.specs.Prelude.{ℕ, List, [], ◌∷◌}
use Rattle.circuit.specs.Circuit.{kind_number}
use Rattle.translator.specs.declared.writing.Instruction.{Instruction as Code}
use Rattle.translator.specs.declared.writing.Instruction.TheVariants.{Operate, Emit, Load}
use Rattle.translator.specs.Machine.{Instruction, loading, operating, emitting}

abbrev pub said_by : Code → Instruction
said_by (Operate kind register left right) = operating (kind_number kind) register left right
said_by (Emit register) = emitting register
said_by (Load register reference) = loading register reference

-- its four numbers
abbrev pub numbers_of : Instruction → List ℕ
numbers_of i = i.opcode ∷ i.arg1 ∷ i.arg2 ∷ i.arg3 ∷ []
