-- What is computed gate by gate, of a gate's kind and its operands' values: one fold over any carrier A, behind an explicit start list of the
-- values of the constants and the inputs. Depths look at the operands' references too, and have words of their own (Depth.antt).
use Rattle.std.specs.Prelude.{ℕ, List, map, get_or}
use Rattle.lists.specs.Each.{append_each}
use Rattle.circuit.specs.Circuit.{Gate, Circuit}

-- what `op` gives for a gate's kind and its operands' values; z stands for a value that is not there
abbrev pub gate_value : {A : Type 0} (op : ℕ → A → A → A) (z : A) → Gate → List A → A
gate_value op z g vs = op g.kind (get_or vs g.left z) (get_or vs g.right z)

-- the values of all references
abbrev pub fold_gates : {A : Type 0} (op : ℕ → A → A → A) (z : A) → List Gate → (start : List A) → List A
fold_gates op z = append_each (gate_value op z)

-- the outputs' values, in the order of the closing lines
abbrev pub at_outputs : {A : Type 0} (z : A) → Circuit → (values : List A) → List A
at_outputs z c vs = map (λ o. get_or vs o z) c.outputs
