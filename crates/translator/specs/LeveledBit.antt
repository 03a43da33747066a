-- 01, Register program, 1, 2 and 5, and 02, 2026-01 and 2026-06: the machine's values are a bit and a level, and public or not.
use Rattle.std.specs.Prelude.{ℕ, suc, ◌+◌, max, Bool, false, not, ◌&&◌, ◌||◌, List, [], ◌∷◌, eqb}
use Rattle.std.proofs.Math.Option.{Option}
use Rattle.lists.specs.First.{first}
use Rattle.circuit.specs.Circuit.{Circuit, and_kind, is_constant}
use Rattle.circuit.specs.Evaluation.{bit_op, start_bits}
use Rattle.circuit.specs.Depth.{start_levels}
use Rattle.translator.specs.Machine.{Instruction, run}

-- The mark is the value's, so that a register is public from the load of a constant until it is overwritten.
pub record LeveledBit : Type 0 where
  pub bit : ℕ
  pub level : ℕ
  pub public : Bool

-- 02, 2026-06: an AND adds a level where neither operand is public; an XOR adds none
abbrev pub adds_level : (kind : ℕ) → LeveledBit → LeveledBit → Bool
adds_level kind a b = eqb kind and_kind && not (a.public || b.public)

-- XOR or AND with the larger level, and 1 more if the operation adds one; a result is never public, whatever it is made of
abbrev pub leveled_op : (kind : ℕ) → LeveledBit → LeveledBit → LeveledBit
leveled_op kind a b =
    record {
      bit = bit_op kind a.bit b.bit;
      level = first (adds_level kind a b) (max a.level b.level + 1) (max a.level b.level);
      public = false;
    }

-- what is loaded from a reference, public if it is a constant
abbrev pub loaded_from : (reference bit level : ℕ) → LeveledBit
loaded_from r b l = record { bit = b; level = l; public = is_constant r }

-- bits and levels, side by side, of the references from r on
unfoldable pub at_levels : (r : ℕ) (bits levels : List ℕ) → List LeveledBit
at_levels r [] ls = []
at_levels r (b ∷ bs) [] = []
at_levels r (b ∷ bs) (l ∷ ls) = loaded_from r b l ∷ at_levels (suc r) bs ls

-- What is loaded is at its starting level, from the start list that depths have; its bit is the one that the plain evaluator starts from.
abbrev pub start_leveled : Circuit → (bytes : List ℕ) → List LeveledBit
start_leveled c bytes = at_levels 0 (start_bits bytes) (start_levels c)

-- a run on input bytes, where the inputs start at the levels that the circuit says
abbrev pub run_on : Circuit → (bytes : List ℕ) (limit : ℕ) → List Instruction → Option (List LeveledBit)
run_on c bytes limit program = run (start_leveled c bytes) leveled_op limit program
