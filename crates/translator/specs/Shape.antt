-- What a program does and which registers it uses, each by itself: words for the theorems.
use Rattle.std.specs.Prelude.{ℕ, ◌+◌, List, [], ◌∷◌, ◌++◌, eqb}
use Rattle.lists.specs.First.{first}
use Rattle.translator.specs.Machine.{Instruction, loading, operating, emitting, is_load, is_operation, is_emit}
use Rattle.translator.specs.Actions.{Action, load, operate}

-- an instruction without its registers, which are written as 0
unfoldable pub without_registers : Instruction → Instruction
without_registers i =
    first (is_load i) (loading 0 i.arg2)
    (first (is_operation i) (operating i.opcode 0 0 0)
    (first (is_emit i) (emitting 0)
    i))

-- the instruction of an action, without registers
abbrev pub instruction_of : Action → Instruction
instruction_of (load v) = loading 0 v
instruction_of (operate v g) = operating g.kind 0 0 0

-- the registers that an instruction reads or writes; those of all
unfoldable pub registers_of : Instruction → List ℕ
registers_of i =
    first (is_load i) (i.arg1 ∷ [])
    (first (is_operation i) (i.arg1 ∷ i.arg2 ∷ i.arg3 ∷ [])
    (first (is_emit i) (i.arg1 ∷ [])
    []))

unfoldable pub registers_in : List Instruction → List ℕ
registers_in [] = []
registers_in (i ∷ is) = registers_of i ++ registers_in is

-- the kinds of the operations, in order
unfoldable pub operation_kinds : List Instruction → List ℕ
operation_kinds [] = []
operation_kinds (i ∷ is) = first (is_operation i) (i.opcode ∷ operation_kinds is) (operation_kinds is)

-- the references that are loaded, in order, each as often as it is
unfoldable pub loaded_by : List Instruction → List ℕ
loaded_by [] = []
loaded_by (i ∷ is) = first (is_load i) (i.arg2 ∷ loaded_by is) (loaded_by is)

-- how many times v is in a list
unfoldable pub occurrences : (v : ℕ) → List ℕ → ℕ
occurrences v [] = 0
occurrences v (x ∷ xs) = first (eqb v x) 1 0 + occurrences v xs
