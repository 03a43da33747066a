-- 02, 2026-03: the registers that a program writes. That the translator's program writes as many as the need, and all below it:
-- `ProgramWritesNeed` and `TranslationWritesNeed` in Theorems.antt.
use Rattle.std.specs.Prelude.{ℕ, ◌<◌, ◌≡◌, Bool, true, ◌||◌, List, [], ◌∷◌}
use Rattle.lists.specs.First.{first}
use Rattle.circuit.specs.Path.{is_among}
use Rattle.translator.specs.Machine.{Instruction, is_load, is_operation}
use Rattle.translator.specs.LastUse.{count_distinct}

-- 01, Register program, 2: a load and an operation write register d, their first number after the opcode; an emit writes none
abbrev pub is_write : Instruction → Bool
is_write i = is_load i || is_operation i

-- the registers that are written, in order, each as often as it is
unfoldable pub registers_written : List Instruction → List ℕ
registers_written [] = []
registers_written (i ∷ is) = first (is_write i) (i.arg1 ∷ registers_written is) (registers_written is)

-- The number of different registers written is exactly n, and their numbers are all below n.
pub record WritesExactly (n : ℕ) (is : List Instruction) : Type 0 where
  pub as_many : count_distinct (registers_written is) ≡ n
  pub all-below : (d : ℕ) → is_among d (registers_written is) ≡ true → d < n
