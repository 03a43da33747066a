-- 02, 2026-08, 2: which reference each register is known to hold while any instructions are run. It follows from the loads and operations alone, and
-- not from how the translator takes registers. That 01's machine holds these references' values then: `KnownIsHeld` in Theorems.antt.
use Rattle.std.specs.Prelude.{ℕ, suc, ◌+◌, ◌≡◌, List, [], ◌∷◌, get_or, set, replicate}
use Rattle.std.proofs.Math.Option.{Option, none, some}
use Rattle.lists.specs.First.{first}
use Rattle.circuit.specs.Circuit.{Circuit, first_gate}
use Rattle.translator.specs.Machine.{Instruction, is_load, is_operation}

-- the registers, of which an empty one holds nothing, as 01's machine has them with values; and how many operations are done
pub record Known : Type 0 where
  pub registers : List (Option ℕ)
  pub operations : ℕ

-- before the first instruction: as many registers as the machine has, and nothing in any
abbrev pub nothing_known : (limit : ℕ) → Known
nothing_known limit = record { registers = replicate limit none; operations = 0 }

-- register d holds reference v
abbrev pub HoldsReference : Known → (d v : ℕ) → Type 0
HoldsReference s d v = get_or s.registers d none ≡ some v

-- A load puts the reference that it names into its register, and an operation that of the next gate, whatever was there; an emit changes nothing.
unfoldable pub known_after : Circuit → Known → Instruction → Known
known_after c s x =
    first (is_load x) (record { registers = set s.registers x.arg1 (some x.arg2); operations = s.operations })
    (first (is_operation x)
    (record { registers = set s.registers x.arg1 (some (first_gate c.inputs + s.operations)); operations = suc s.operations })
    s)

unfoldable pub known_from : Circuit → Known → List Instruction → Known
known_from c s [] = s
known_from c s (x ∷ xs) = known_from c (known_after c s x) xs

-- after these instructions, on a machine with `limit` registers
abbrev pub known_of : Circuit → (limit : ℕ) → List Instruction → Known
known_of c limit xs = known_from c (nothing_known limit) xs
