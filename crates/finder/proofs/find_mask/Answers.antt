-- By what its checks have found: the refusal, or that each was passed (CheckLaws), and then what is found in the trimmed circuit.
use mathlib.Core.Path.{sym, ap, ap₂, ◌∙◌}
use borrow.Author.Tests.{not-false}
use Rattle.lines.specs.Refusal.{no_table, gives}
use Rattle.lines.proofs.CheckLaws.{all-passed, back-answer, check-passed, answer-gives}
use Rattle.circuit.proofs.RefusalLaws.{accepted-is-well-formed}
use Rattle.circuit.specs.Table.{decode}
use Rattle.circuit.specs.Trim.{old_number}
use Rattle.circuit.proofs.ValidLaws.{valid-decode}
use Rattle.finder.specs.FindCall.{is_limit, found_values, finding}
use Rattle.finder.proofs.TrimmedLaws.{found_alike}
use Rattle.finder.proofs.CallLaws.{limit-small}
use Rattle.finder.proofs.find_mask.Goals as goal

pub returns-in_err-circuit : goal.returns-in_err-circuit
unfolding finding
returns-in_err-circuit c = back-answer _ _ c.from_residual.ensures _ c.in_err-circuit.ensures.refusal _ _

pub found_at-requires : goal.found_at-requires
found_at-requires c =
    let p = all-passed _ c.in_ok-circuit.ensures.refusal in
    let limit = c.args.limit in
    limit-small limit (not-false (is_limit limit) (check-passed _ 11 no_table p.1.1.1.1.0))

pub returns : goal.returns
unfolding finding
returns c =
    let a = c.args in
    let t = a.circuit.now in
    let p = all-passed _ c.in_ok-circuit.ensures.refusal in
    let w = (accepted-is-well-formed t).0 p.1.1.0 in
    let same = c.in_ok-circuit.ensures.accepted in
    let alike = found_alike (decode t) (valid-decode t w) a.rules.now a.number a.limit a.gate in
    ap gives
    (c.found_at.ensures
    ∙ ap (λ r. found_values (decode c.in_ok-circuit.circuit) r a.number c.old_number-old.result a.limit) same.1
    ∙ ap₂ (λ d v. found_values (decode d) a.rules.now a.number v a.limit) {v = old_number (decode t) a.gate} same.0
    (rw same.0 at c.old_number-old.ensures)
    ∙ sym alike)
    ∙ sym (answer-gives _ _ p)
