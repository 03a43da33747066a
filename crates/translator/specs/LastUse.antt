-- The last use of each reference, as loops over the gates and outputs compute it. That `is_used_from` is a compare with it:
-- `LastUseDecides` in Theorems.antt.
use Rattle.std.specs.Prelude.{ℕ, zero, suc, ◌+◌, List, [], ◌∷◌, length, get_or}
use Rattle.lists.specs.First.{first}
use Rattle.circuit.specs.Circuit.{Gate, Circuit, no_gate}
use Rattle.circuit.specs.Path.{is_among, is_operand, is_output}

-- 1 more than the number of the last of the first k gates that uses v; 0 if none does
unfoldable pub last_gate : List Gate → (k v : ℕ) → ℕ
last_gate gs zero v = 0
last_gate gs (suc k) v = first (is_operand v (get_or gs k no_gate)) (suc k) (last_gate gs k v)

-- an output is used behind all gates
unfoldable pub last_use : Circuit → (v : ℕ) → ℕ
last_use c v = first (is_output c v) (suc (length c.gates)) (last_gate c.gates (length c.gates) v)

-- how many different numbers a list has, from the last to the first: references among the outputs, registers among those written
unfoldable pub count_distinct : List ℕ → ℕ
count_distinct [] = 0
count_distinct (o ∷ os) = first (is_among o os) (count_distinct os) (count_distinct os + 1)
