-- 02, 2026-06, of registers: which of them are public, by the instructions alone. That the machine's marks are these: `PublicUntilOverwritten` in
-- Theorems.antt.
use Rattle.std.specs.Prelude.{ℕ, Bool, ◌&&◌, List, [], ◌∷◌, eqb}
use Rattle.lists.specs.First.{first}
use Rattle.circuit.specs.Circuit.{is_constant}
use Rattle.translator.specs.Machine.{Instruction, is_load}
use Rattle.translator.specs.Written.{is_write}

abbrev pub is_constant_load : Instruction → Bool
is_constant_load i = is_load i && is_constant i.arg2

-- Whether register d is public after these instructions: what is written last into it decides, and `before` if nothing is.
unfoldable pub is_public_after : List Instruction → (d : ℕ) (before : Bool) → Bool
is_public_after [] d before = before
is_public_after (i ∷ is) d before = is_public_after is d (first (is_write i && eqb d i.arg1) (is_constant_load i) before)
