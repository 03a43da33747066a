-- By what its checks have found: the refusal, or that each was passed (CheckLaws), which is all that `evaluate_into` asks for.
use mathlib.Core.List.{[], ◌∷◌}
use mathlib.Core.Path.{ap, ◌∙◌}
use native.Mathlib.Nat.{le_trans}
use borrow.Author.Tests.{eqb-true, ltb-false, not-false}
use Rattle.lines.proofs.CheckLaws.{check-passed, all-passed, back-leaving, outcome-gives}
use Rattle.lines.specs.Refusal.{gives}
use Rattle.circuit.specs.Table.{outputs}
use Rattle.circuit.specs.EvaluateCall.{evaluating}
use Rattle.circuit.specs.WellFormed.{WellFormed}
use Rattle.circuit.proofs.RefusalLaws.{accepted-is-well-formed}
use Rattle.circuit.proofs.evaluate.Goals as goal

pub returns-in_err-circuit : goal.returns-in_err-circuit
unfolding evaluating
returns-in_err-circuit c = back-leaving _ _ c.from_residual.ensures _ c.in_err-circuit.ensures.refusal _ _ _ _

pub evaluate_into-requires : goal.evaluate_into-requires
evaluate_into-requires c =
    let p = all-passed _ c.in_ok-circuit.ensures.refusal in
    let w : WellFormed c.args.circuit.now = (accepted-is-well-formed _).0 p.1.1.0 in
    rw c.in_ok-circuit.ensures.accepted
    (record {
      bytes_len = eqb-true _ _ (not-false _ (check-passed _ 0 _ p.1.1.1.0));
      t_in_bounds = le_trans w.sized.outputs-limit (ltb-false _ _ (check-passed _ 1 _ p.1.0));
    })

pub returns : goal.returns
unfolding evaluating
returns c = let same = c.in_ok-circuit.ensures.accepted in
    outcome-gives _ _ _ _ (all-passed _ c.in_ok-circuit.ensures.refusal) _ _
    (ap (λ n. gives (n ∷ [])) (c.outputs.ensures.value ∙ ap outputs same)) (rw same at c.evaluate_into.ensures)
