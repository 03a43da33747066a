-- What the gate lines leave goes on to the closing lines; the places where they begin are the definitions'.
use mathlib.Core.Path.{ap, ap₂, ◌∙◌}
use mathlib.Core.Bool.{◌&&◌}
use Prim.Native.Nat.{◌+◌}
use lib.ListN.{drop}
use Rattle.circuit.specs.Each.{all_gates}
use Rattle.circuit.specs.Table.{gates, outputs, lines_of}
use Rattle.circuit.specs.Refusal.{has_gate_kind, operands_below, is_closing, reference_below}
use Rattle.circuit.proofs.checking.test_lines.Goals as goal

pub returns : goal.returns
returns c = let t = c.args.t.now in
    let first = c.first_gate-first.ensures in
    let from = c.gates_from.ensures in
    let closings = c.closings_from.ensures in
    let before = c.test_gates-gates_tested.ensures in
    let all = c.test_closings.ensures in record {
      kinds_value = all.kinds_value
          ∙ ap₂ ◌&&◌ (before.kinds_value ∙ ap₂ (λ m p. all_gates has_gate_kind m (lines_of (gates t) (drop p t))) first from)
          (ap (λ p. all_gates is_closing 0 (lines_of (outputs t) (drop p t))) closings);
      references_value = all.references_value
          ∙ ap₂ ◌&&◌ (before.references_value ∙ ap₂ (λ m p. all_gates operands_below m (lines_of (gates t) (drop p t))) first from)
          (ap₂ (λ m p. all_gates (reference_below (m + gates t)) 0 (lines_of (outputs t) (drop p t))) first closings);
    }
