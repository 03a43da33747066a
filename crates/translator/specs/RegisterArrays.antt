-- The arrays that registers are kept in, and what is true of them.
use Rattle.std.specs.Prelude.{ℕ, zero, suc, ◌≤◌, ◌<◌, ◌≡◌, List, [], ◌∷◌, length, get_or}
use Rattle.circuit.specs.Circuit.{max_references}
use Rattle.translator.specs.Machine.{max_registers}

-- the first n elements of an array as a stack, the last of them on top
unfoldable pub stack_of : (freed : List ℕ) (n : ℕ) → List ℕ
stack_of freed zero = []
stack_of freed (suc n) = get_or freed n 0 ∷ stack_of freed n

-- The arrays are as long as they should be, the free registers are some that were used, nobody is in a register that was never used, and
-- who is in one is where its place says. Places of others say nothing.
pub record RegisterArrays (owner freed place : List ℕ) (free fresh : ℕ) : Type 0 where
  pub owner-long : length owner ≡ max_registers
  pub freed-long : length freed ≡ max_registers
  pub place-long : length place ≡ max_references
  pub free-limit : free ≤ max_registers
  pub fresh-limit : fresh ≤ max_registers
  pub freed-used : (i : ℕ) → i < free → get_or freed i 0 < fresh
  pub unused : (d : ℕ) → fresh ≤ d → get_or owner d 0 ≡ 0
  pub near : (v : ℕ) → get_or place v 0 < max_registers
  pub placed : (d v : ℕ) → get_or owner d 0 ≡ suc v → get_or place v 0 ≡ d
