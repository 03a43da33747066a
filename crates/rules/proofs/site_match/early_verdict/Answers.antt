-- Where the judge has passed the rule, what the kind of the reference asks for is by `kind-asks-for-gate`.
use mathlib.Core.Logic.{inl, inr}
use mathlib.Core.Path.{◌≡◌, sym, ap, ◌∙◌}
use Rattle.circuit.specs.Table.{decode}
use Rattle.rules.specs.declared.ReferenceKind.{ReferenceKind}
use Rattle.rules.specs.Verdict.{kind_verdict, number_of, early_verdict}
use Rattle.rules.proofs.VerdictLaws.{kind-asks-for-gate}
use Rattle.rules.proofs.site_match.early_verdict.Goals as goal

pub returns-in-Gate-clause-value : goal.returns-in-Gate-clause-value
returns-in-Gate-clause-value g c = let a = c.args in
    ap kind_verdict (sym c.in-Gate.is ∙ c.kind_of-kind.ensures.value)
    ∙ kind-asks-for-gate (decode a.c.now) a.gate
    ∙ ap (λ j. early_verdict (decode a.c.now) j a.gate) (sym (ap number_of c.in_ok-passed.was))

pub returns-in-Constant-clause-value : goal.returns-in-Constant-clause-value
returns-in-Constant-clause-value g c = let a = c.args in
    let of_kind = λ (k : ReferenceKind) (e : c.kind_of-kind.result ≡ k).
    ap kind_verdict (sym e ∙ c.kind_of-kind.ensures.value)
    ∙ kind-asks-for-gate (decode a.c.now) a.gate
    ∙ ap (λ j. early_verdict (decode a.c.now) j a.gate) (sym (ap number_of c.in_ok-passed.was)) in
    elim c.in-Constant.is [ inl e ↦ of_kind _ e | inr (inl e) ↦ of_kind _ e | inr (inr e) ↦ of_kind _ e ]
