-- The need as one loop over the gates counts it. That it is the need is `PressureIsNeed` in Theorems.antt.
use Rattle.std.specs.Prelude.{ℕ, zero, suc, ◌+◌, ◌-◌, max, Bool, not, ◌&&◌, ◌||◌, eqb, length, get_or}
use Rattle.lists.specs.First.{first}
use Rattle.circuit.specs.Circuit.{Gate, Circuit, no_gate}
use Rattle.translator.specs.LiveRange.{is_used_from}
use Rattle.translator.specs.Actions.{is_unloaded}
use Rattle.translator.specs.LastUse.{count_distinct}

-- how many values are held between two gates, and the most so far
pub record Pressure : Type 0 where
  pub held : ℕ
  pub most : ℕ

abbrev pub one_if : Bool → ℕ
one_if b = first b 1 0

-- how many values gate i, which is g, loads
unfoldable pub arrivals : Circuit → (i : ℕ) → Gate → ℕ
arrivals c i g = one_if (is_unloaded c i g.left) + one_if (is_unloaded c i g.right && not (eqb g.right g.left))

-- and how many it is the last to use
unfoldable pub departures : Circuit → (i : ℕ) → Gate → ℕ
departures c i g =
    one_if (not (eqb g.left g.right || is_used_from c (suc i) g.left)) + one_if (not (is_used_from c (suc i) g.right))

-- behind a gate with `arrive` loads and `depart` last uses, whose result is one value more
abbrev pub pressure_behind : (arrive depart : ℕ) → Pressure → Pressure
pressure_behind arrive depart p =
    record { held = p.held + arrive - depart + 1; most = max (max p.most (p.held + arrive)) (p.held + arrive - depart + 1) }

-- after the first i gates
unfoldable pub pressure_after : Circuit → (i : ℕ) → Pressure
pressure_after c zero = record { held = 0; most = 0 }
pressure_after c (suc i) =
    pressure_behind (arrivals c i (get_or c.gates i no_gate)) (departures c i (get_or c.gates i no_gate)) (pressure_after c i)

-- before the first emit, the outputs' values are held
unfoldable pub linear_need : Circuit → ℕ
linear_need c = max (pressure_after c (length c.gates)).most (count_distinct c.outputs)
