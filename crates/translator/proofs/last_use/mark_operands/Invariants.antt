use Prim.Native.Nat.{◌≤◌}
use mathlib.Core.Path.{◌≡◌}
use lib.ListN.{length}
use Rattle.circuit.specs.Circuit.{max_references}
use Rattle.circuit.specs.Table.{gate_lines}
use Rattle.translator.proofs.LastUseLaws.{LastTo}
use Rattle.translator.proofs.last_use.mark_operands.Given as goal

abbrev pub invariant-loop-i : goal.invariant-loop-i
invariant-loop-i l = (l.i ≤ l.i-end) × (length l.last ≡ max_references) × LastTo (gate_lines l.circuit) l.last l.i
