-- Well-formed tables: those that are not refused (`AcceptedIsWellFormed` in Theorems.antt), as facts for those who read them.
use Rattle.std.specs.Prelude.{ℕ, ◌≤◌, ◌≡◌, true, List, length}
use Rattle.circuit.specs.Circuit.{max_inputs, max_gates, max_outputs}
use Rattle.circuit.specs.Table.{inputs, gates, outputs, table_end}
use Rattle.circuit.specs.Refusal.{starts_ok, gate_kinds_ok, closing_kinds_ok, operands_ok, closing_references_ok}

-- the head is within its limits, and there are as many lines as it says
pub record Sized (t : List ℕ) : Type 0 where
  pub inputs-limit : inputs t ≤ max_inputs
  pub gates-limit : gates t ≤ max_gates
  pub outputs-some : 1 ≤ outputs t
  pub outputs-limit : outputs t ≤ max_outputs
  pub long : length t ≡ table_end t

pub record WellFormed (t : List ℕ) : Type 0 where
  pub sized : Sized t
  pub starts-right : starts_ok t ≡ true
  pub gate-kinds : gate_kinds_ok t ≡ true
  pub closing-kinds : closing_kinds_ok t ≡ true
  pub operands : operands_ok t ≡ true
  pub closing-references : closing_references_ok t ≡ true
