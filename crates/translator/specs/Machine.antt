-- 01, Register program, 1 to 4 and 6: the machine, over any values A. `start` has the values of the constants and the inputs, and `op`
-- says what an operation gives, as in circuit's `fold_gates`. 01's values, a bit and a level each, with the mark of 02,
-- 2026-06, are in LeveledBit.antt.
use Rattle.std.specs.Prelude.{ℕ, Bool, ◌&&◌, ◌||◌, List, [], ◌∷◌, ◌++◌, eqb, ltb, length, get_or, set, replicate}
use Rattle.std.proofs.Math.Option.{Option, none, some, bind}
use Rattle.std.proofs.Math.ListN.{get_elem?}
use Rattle.lists.specs.First.{first}
use Rattle.circuit.specs.Circuit.{xor_kind, and_kind}

-- 01, Register program, 2: an instruction is four numbers.
pub record Instruction : Type 0 where
  pub opcode : ℕ
  pub arg1 : ℕ
  pub arg2 : ℕ
  pub arg3 : ℕ

-- the opcodes beside those of operations, which are the gates' kinds 1 and 2
abbrev pub emit_opcode : ℕ
emit_opcode = 3

abbrev pub load_opcode : ℕ
load_opcode = 4

-- the three shapes that an instruction can have, where a kind is 1 or 2; any other is a fault
abbrev pub loading : (d reference : ℕ) → Instruction
loading d reference = record { opcode = load_opcode; arg1 = d; arg2 = reference; arg3 = 0 }

abbrev pub operating : (kind d a b : ℕ) → Instruction
operating kind d a b = record { opcode = kind; arg1 = d; arg2 = a; arg3 = b }

abbrev pub emitting : (a : ℕ) → Instruction
emitting a = record { opcode = emit_opcode; arg1 = a; arg2 = 0; arg3 = 0 }

abbrev pub is_load : Instruction → Bool
is_load i = eqb i.opcode load_opcode && eqb i.arg3 0

abbrev pub is_operation : Instruction → Bool
is_operation i = eqb i.opcode xor_kind || eqb i.opcode and_kind

abbrev pub is_emit : Instruction → Bool
is_emit i = eqb i.opcode emit_opcode && (eqb i.arg2 0 && eqb i.arg3 0)

-- the registers, of which an empty one holds nothing, and the values emitted so far
pub record Machine (A : Type 0) : Type 0 where
  pub registers : List (Option A)
  pub emitted : List A

-- 01, Register program, 1: a limit is at most this
abbrev pub max_registers : ℕ
max_registers = 1024

-- before the first instruction: nothing is in any of the registers, of which there are `limit`
abbrev pub empty_machine : {A : Type 0} (limit : ℕ) → Machine A
empty_machine limit = record { registers = replicate limit none; emitted = [] }

-- 01, Register program, 4: there is nothing to read in an empty register, nor in one that is not below the limit
abbrev pub read_from : {A : Type 0} → Machine A → (a : ℕ) → Option A
read_from m a = get_or m.registers a none

-- and none that is not below the limit is written
abbrev pub write_to : {A : Type 0} → Machine A → (d : ℕ) → A → Option (Machine A)
write_to m d v =
    first (ltb d (length m.registers)) (some (record { registers = set m.registers d (some v); emitted = m.emitted }))
    none

abbrev pub emit : {A : Type 0} → Machine A → A → Machine A
emit m v = record { registers = m.registers; emitted = m.emitted ++ (v ∷ []) }

-- 01, Register program, 2 to 4: what an instruction does; `none` is a fault. Only constants and inputs are in `start`; both operands are
-- read before anything is written.
unfoldable pub execute : {A : Type 0} (start : List A) (op : ℕ → A → A → A) → Instruction → Machine A → Option (Machine A)
execute start op i m =
    first (is_load i) (bind (get_elem? start i.arg2) (write_to m i.arg1))
    (first (is_operation i) (bind (read_from m i.arg2) (λ a. bind (read_from m i.arg3) (λ b. write_to m i.arg1 (op i.opcode a b))))
    (first (is_emit i) (bind (read_from m i.arg1) (λ a. some (emit m a)))
    none))

-- 01, Register program, 4 and 6: one instruction after the other, up to the last or to a fault
unfoldable pub run_from : {A : Type 0} (start : List A) (op : ℕ → A → A → A) → List Instruction → Machine A → Option (Machine A)
run_from start op [] m = some m
run_from start op (i ∷ is) m = bind (execute start op i m) (run_from start op is)

-- what a run with `limit` registers emits, in order; none if it ends in a fault
unfoldable pub run : {A : Type 0} (start : List A) (op : ℕ → A → A → A) → (limit : ℕ) → List Instruction → Option (List A)
run start op limit program = bind (run_from start op program (empty_machine limit)) (λ m. some m.emitted)
