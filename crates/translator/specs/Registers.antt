-- An allocation as the loops keep it: the registers in arrays, the code in the lent buffer.
use Rattle.std.specs.Prelude.{ℕ, suc, ◌+◌, ◌*◌, ◌≤◌, ◌<◌, ◌≡◌, Bool, true, false, ◌||◌, List, eqb, length, take, drop}
use Rattle.circuit.specs.Circuit.{Gate}
use Rattle.circuit.specs.Path.{is_among}
use Rattle.translator.specs.declared.registers.Registers.{Registers}
use Rattle.translator.specs.declared.allocating.Allocator.{Allocator}
use Rattle.translator.specs.Machine.{Instruction, max_registers}
use Rattle.translator.specs.Allocation.{Allocation, next_register, release_left, release_operands}
use Rattle.translator.specs.Allocator.{ensure_loaded, ensure_operands}
use Rattle.translator.specs.Program.{instructions_of}
use Rattle.translator.specs.RegisterArrays.{stack_of}

-- the owners of the registers ever used, and the stack of those that are free again
abbrev pub owners_of : Registers → List ℕ
owners_of r = take r.fresh r.owner.now

abbrev pub freed_of : Registers → List ℕ
freed_of r = stack_of r.freed.now r.free

abbrev pub allocation_with : Registers → (code : List Instruction) → Allocation
allocation_with r code = record { owners = owners_of r; freed = freed_of r; code = code }

-- the instructions that are written
abbrev pub code_of : Allocator → List Instruction
code_of a = instructions_of a.written a.program.now

abbrev pub allocation_of : Allocator → Allocation
allocation_of a = allocation_with a.registers (code_of a)

-- where instruction n begins in the buffer
abbrev pub instruction_at : (n : ℕ) → ℕ
instruction_at n = 4 * n

-- a buffer that was `old` is as it was from instruction n on
pub record Beyond (old buffer : List ℕ) (n : ℕ) : Type 0 where
  pub beyond : drop (instruction_at n) buffer ≡ drop (instruction_at n) old
  pub long : length buffer ≡ length old

-- the registers and the code are the allocation s; beyond the code the buffer is as it was in `old`
pub record Represents (a old : Allocator) (s : Allocation) : Type 0 where
  pub allocation : allocation_of a ≡ s
  pub kept : Beyond old.program.now a.program.now a.written

-- there is a register for v, if it is to be loaded
abbrev pub Loadable : (v : ℕ) → Allocation → Type 0
Loadable v s = is_among (suc v) s.owners ≡ false → next_register s.owners s.freed < max_registers

-- gate g, of reference v, finds its operands in registers, and there is room for what it frees and for its result, which is in none, where
-- `wanted` says what is used after it
pub record Operable (wanted : ℕ → Bool) (v : ℕ) (g : Gate) (s : Allocation) : Type 0 where
  pub left_there : is_among (suc g.left) s.owners ≡ true
  pub right_there : is_among (suc g.right) s.owners ≡ true
  pub left-room : eqb g.left g.right || wanted g.left ≡ false → length s.freed < max_registers
  pub right-still : is_among (suc g.right) (release_left wanted g s).owners ≡ true
  pub right-room : wanted g.right ≡ false → length (release_left wanted g s).freed < max_registers
  pub result-new : is_among (suc v) (release_operands wanted g s).owners ≡ false
  pub result-next : next_register (release_operands wanted g s).owners (release_operands wanted g s).freed < max_registers

-- before its operands are loaded, where the buffer has `size` numbers
pub record Turnable (wanted : ℕ → Bool) (v : ℕ) (g : Gate) (s : Allocation) (size : ℕ) : Type 0 where
  pub left-next : Loadable g.left s
  pub right-next : Loadable g.right (ensure_loaded g.left s)
  pub operable : Operable wanted v g (ensure_operands g s)
  pub fits : instruction_at (length (ensure_operands g s).code + 1) ≤ size
