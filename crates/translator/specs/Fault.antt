-- 01, Register program, 4: the causes of a fault, each by itself, for the instruction of four numbers o, x, y, z. Words for the theorems
-- `InstructionDoes` and `InstructionFaults`, which hold the machine's `execute` to them.
use Rattle.std.specs.Prelude.{ℕ, ◌≤◌, ◌≡◌, ◌⊎◌, List, length}
use Rattle.std.proofs.Math.Option.{none, some}
use Rattle.std.proofs.Math.ListN.{get_elem?}
use Rattle.circuit.specs.Circuit.{xor_kind, and_kind}
use Rattle.translator.specs.Machine.{Instruction, Machine, emit_opcode, load_opcode}

abbrev pub numbers : (o x y z : ℕ) → Instruction
numbers o x y z = record { opcode = o; arg1 = x; arg2 = y; arg3 = z }

-- what it is: (4, d, reference, 0), (1, d, a, b) or (2, d, a, b), (3, a, 0, 0)
abbrev pub Loads : (o z : ℕ) → Type 0
Loads o z = (o ≡ load_opcode) × (z ≡ 0)

abbrev pub Operates : (o : ℕ) → Type 0
Operates o = (o ≡ xor_kind) ⊎ (o ≡ and_kind)

abbrev pub Emits : (o y z : ℕ) → Type 0
Emits o y z = (o ≡ emit_opcode) × (y ≡ 0) × (z ≡ 0)

-- it reads register r, or writes it
abbrev pub Reads : (o x y z r : ℕ) → Type 0
Reads o x y z r = (Operates o × ((r ≡ y) ⊎ (r ≡ z))) ⊎ (Emits o y z × (r ≡ x))

abbrev pub Writes : (o x z r : ℕ) → Type 0
Writes o x z r = (Loads o z ⊎ Operates o) × (r ≡ x)

-- register r holds v; it is there, but empty; it is not below the limit
abbrev pub Holds : {A : Type 0} → Machine A → (r : ℕ) → A → Type 0
Holds m r v = get_elem? m.registers r ≡ some (some v)

abbrev pub IsEmpty : {A : Type 0} → Machine A → (r : ℕ) → Type 0
IsEmpty m r = get_elem? m.registers r ≡ some none

abbrev pub NotBelowLimit : {A : Type 0} → Machine A → (r : ℕ) → Type 0
NotBelowLimit m r = length m.registers ≤ r

-- `start` has the constants and inputs
pub data Fault {A : Type 0} (start : List A) (m : Machine A) (o x y z : ℕ) : Type 0 where
  reads-empty : (r : ℕ) → Reads o x y z r → IsEmpty m r → Fault start m o x y z
  reads-beyond : (r : ℕ) → Reads o x y z r → NotBelowLimit m r → Fault start m o x y z
  writes-beyond : (r : ℕ) → Writes o x z r → NotBelowLimit m r → Fault start m o x y z
  loads-neither : Loads o z → length start ≤ y → Fault start m o x y z
  any-other : (Loads o z → ⊥) → (Operates o → ⊥) → (Emits o y z → ⊥) → Fault start m o x y z
