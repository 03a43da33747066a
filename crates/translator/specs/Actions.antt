-- 01, Register program, 8 and 11, and 02, 2026-05, 3: the program without registers, which is between the circuit and the program. It is a
-- list of loads and gate operations, each known by the reference whose value it makes; the emits of the outputs are not among them.
use Rattle.std.specs.Prelude.{ℕ, suc, ◌+◌, Bool, false, not, ◌&&◌, ◌||◌, List, [], ◌∷◌, ◌++◌, eqb, length, take}
use Rattle.lists.specs.First.{first}
use Rattle.circuit.specs.Circuit.{Gate, Circuit, first_gate}
use Rattle.circuit.specs.Path.{is_among, is_operand}
use Rattle.translator.specs.LiveRange.{is_used_before, is_constant_or_input}

pub data Action : Type 0 where
  load : (reference : ℕ) → Action
  operate : (reference : ℕ) → Gate → Action

-- the load of v, if it is wanted
abbrev pub load_if : Bool → (v : ℕ) → List Action
load_if wanted v = first wanted (load v ∷ []) []

-- a constant or input that no gate before gate i uses
abbrev pub is_unloaded : Circuit → (i v : ℕ) → Bool
is_unloaded c i v = is_constant_or_input c v && not (is_used_before c i v)

-- what gate i, which is g, is the first to use: the left operand, then the right one where it is another
abbrev pub operand_loads : Circuit → (i : ℕ) → Gate → List Action
operand_loads c i g = load_if (is_unloaded c i g.left) g.left ++ load_if (is_unloaded c i g.right && not (eqb g.right g.left)) g.right

-- what only outputs use, in output order, each once; the outputs from output j on
unfoldable pub output_loads : Circuit → (j : ℕ) → List ℕ → List Action
output_loads c j [] = []
output_loads c j (o ∷ os) =
    load_if (is_unloaded c (length c.gates) o && not (is_among o (take j c.outputs))) o ++ output_loads c (suc j) os

-- from gate i on, whose list this is
unfoldable pub actions_from : Circuit → (i : ℕ) → List Gate → List Action
actions_from c i [] = output_loads c 0 c.outputs
actions_from c i (g ∷ gs) = operand_loads c i g ++ (operate (first_gate c.inputs + i) g ∷ actions_from c (suc i) gs)

unfoldable pub actions : Circuit → List Action
actions c = actions_from c 0 c.gates

-- whether one of the actions reads v
unfoldable pub is_read : (v : ℕ) → List Action → Bool
is_read v [] = false
is_read v (load r ∷ ss) = is_read v ss
is_read v (operate r g ∷ ss) = is_operand v g || is_read v ss

-- the references that are loaded, and the gates whose operations are done, in order
unfoldable pub loads_of : List Action → List ℕ
loads_of [] = []
loads_of (load v ∷ ss) = v ∷ loads_of ss
loads_of (operate v g ∷ ss) = loads_of ss

unfoldable pub operations_of : List Action → List Gate
operations_of [] = []
operations_of (load v ∷ ss) = operations_of ss
operations_of (operate v g ∷ ss) = g ∷ operations_of ss
