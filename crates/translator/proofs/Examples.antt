-- Small programs, computed: they have every choice that 02, 2026-05, fixes.
use mathlib.Core.Path.{◌≡◌, refl}
use mathlib.Core.List.{[], ◌∷◌}
use Rattle.circuit.specs.Circuit.{Circuit, xor_kind, and_kind}
use Rattle.circuit.specs.Path.{is_among, is_used}
use Rattle.translator.specs.Machine.{loading, operating, emitting}
use Rattle.translator.specs.Actions.{output_loads, actions_from, actions, is_read}
use Rattle.translator.specs.Place.{place_in}
use Rattle.translator.specs.Allocation.{assign, release, release_operands, allocate}
use Rattle.translator.specs.Program.{program}

-- (2 . 3) . (4 . 5), the example of README. Each result takes the register that was freed last, the right operand's; input 4 the left one's, and
-- input 5 the lowest never used.
abbrev balanced : Circuit
balanced =
    record {
      inputs = 4;
      starts = [];
      gates = record { kind = and_kind; left = 2; right = 3 } ∷ record { kind = and_kind; left = 4; right = 5 }
          ∷ record { kind = and_kind; left = 6; right = 7 } ∷ [];
      outputs = 8 ∷ [];
    }

pub balanced-program : program balanced
    ≡ loading 0 2 ∷ loading 1 3 ∷ operating and_kind 1 0 1 ∷ loading 0 4 ∷ loading 2 5 ∷ operating and_kind 2 0 2 ∷ operating and_kind 2 1 2 ∷ emitting 2 ∷ []
unfolding program actions actions_from output_loads allocate assign release release_operands is_read is_used is_among place_in
balanced-program = refl

-- 4 = 3 . 2 and 5 = 4 + 3, and the outputs 5, 2, 0, 2: the left operand is loaded first, though it is the higher one; 2 is an output, so that nothing
-- is freed by gate 4; gate 5 frees 4's register and then 3's, which it takes; the constant has the other.
abbrev handed_on : Circuit
handed_on =
    record {
      inputs = 2;
      starts = [];
      gates = record { kind = and_kind; left = 3; right = 2 } ∷ record { kind = xor_kind; left = 4; right = 3 } ∷ [];
      outputs = 5 ∷ 2 ∷ 0 ∷ 2 ∷ [];
    }

pub handed_on-program : program handed_on
    ≡ loading 0 3 ∷ loading 1 2 ∷ operating and_kind 2 0 1 ∷ operating xor_kind 0 2 0 ∷ loading 2 0 ∷ emitting 0 ∷ emitting 1 ∷ emitting 2 ∷ emitting 1 ∷ []
unfolding program actions actions_from output_loads allocate assign release release_operands is_read is_used is_among place_in
handed_on-program = refl

-- inputs 2 to 4 as the outputs 4, 2, 4, 3: loads before the emits are in their order, each once
abbrev inputs_alone : Circuit
inputs_alone = record { inputs = 3; starts = []; gates = []; outputs = 4 ∷ 2 ∷ 4 ∷ 3 ∷ [] }

pub inputs-program : program inputs_alone
    ≡ loading 0 4 ∷ loading 1 2 ∷ loading 2 3 ∷ emitting 0 ∷ emitting 1 ∷ emitting 0 ∷ emitting 2 ∷ []
unfolding program actions actions_from output_loads allocate is_used is_among assign place_in
inputs-program = refl
