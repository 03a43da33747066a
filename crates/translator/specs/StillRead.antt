-- 02, 2026-08, 5: the full registers that are still to be read, at a moment of a run. A moment lies between the instructions before it and those
-- behind it.
use Rattle.std.specs.Prelude.{ℕ, Bool, true, false, not, ◌&&◌, ◌||◌, List, [], ◌∷◌, eqb, get_or}
use Rattle.std.proofs.Math.Option.{Option, none, some}
use Rattle.lists.specs.First.{first}
use Rattle.circuit.specs.Circuit.{Circuit}
use Rattle.translator.specs.Machine.{Instruction, is_operation, is_emit}
use Rattle.translator.specs.Need.{count_below}
use Rattle.translator.specs.Written.{is_write}
use Rattle.translator.specs.Known.{Known, known_of}

-- 01, Register program, 2: an operation reads registers a and b, an emit reads a, a load none
abbrev pub reads : Instruction → (d : ℕ) → Bool
reads x d = first (is_operation x) (eqb d x.arg2 || eqb d x.arg3) (is_emit x && eqb d x.arg1)

abbrev pub overwrites : Instruction → (d : ℕ) → Bool
overwrites x d = is_write x && eqb d x.arg1

-- Whether one of the instructions reads register d before one overwrites it; an operation reads before it writes. In words: `StillReadIsRead` in
-- Theorems.antt.
unfoldable pub is_still_read : (d : ℕ) → List Instruction → Bool
is_still_read d [] = false
is_still_read d (x ∷ xs) = reads x d || (not (overwrites x d) && is_still_read d xs)

abbrev pub is_some : Option ℕ → Bool
is_some none = false
is_some (some v) = true

-- a register that holds a reference is full
abbrev pub is_full : Known → (d : ℕ) → Bool
is_full s d = is_some (get_or s.registers d none)

-- how many of a machine's `limit` registers are full behind `before`, and still to be read by `behind`
unfoldable pub still_to_be_read : Circuit → (limit : ℕ) (before behind : List Instruction) → ℕ
still_to_be_read c limit before behind = count_below (λ d. is_full (known_of c limit before) d && is_still_read d behind) limit
