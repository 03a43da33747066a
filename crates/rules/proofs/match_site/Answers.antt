-- By what its checks have found: the refusal, or that each was passed (CheckLaws), and then the verdict on the trimmed circuit.
use mathlib.Core.List.{[], ◌∷◌}
use mathlib.Core.Path.{◌≡◌, sym, ap, ap₂, ◌∙◌}
use Rattle.lines.specs.Refusal.{gives}
use Rattle.lines.proofs.CheckLaws.{all-passed, back-answer, answer-gives}
use Rattle.circuit.proofs.RefusalLaws.{accepted-is-well-formed}
use Rattle.circuit.proofs.TrimTheorems.{decode-trim}
use Rattle.circuit.specs.Table.{decode}
use Rattle.circuit.specs.Trim.{old_number}
use Rattle.rules.specs.Verdict.{SiteMatch, applied_number, match_of, match_site}
use Rattle.rules.proofs.TrimmedLaws.{trimmed-site}
use Rattle.rules.proofs.VerdictLaws.{err-verdict}
use Rattle.rules.specs.MatchCall.{matching}
use Rattle.rules.proofs.match_site.Goals as goal

pub returns-in_err-circuit : goal.returns-in_err-circuit
unfolding matching
returns-in_err-circuit c = back-answer _ _ c.from_residual.ensures _ c.in_err-circuit.ensures.refusal _ _

pub returns : goal.returns
unfolding matching
returns c =
    let a = c.args in
    let t = a.circuit.now in
    let p = all-passed _ c.in_ok-circuit.ensures.refusal in
    let w = (accepted-is-well-formed _).0 p.1.1.0 in
    let same = c.in_ok-circuit.ensures.accepted in
    let found : match_of c.match_numbered.result ≡ match_site (decode t) a.rules.now a.number (old_number (decode t) a.gate) a.mask =
    c.match_numbered.ensures
    ∙ ap (λ r. match_site (decode c.in_ok-circuit.circuit) r a.number c.old_number-old.result a.mask) same.1
    ∙ ap₂ (λ d v. match_site (decode d) a.rules.now a.number v a.mask) same.0 (rw same.0 at c.old_number-old.ensures) in
    ap (λ v. gives (v ∷ []))
    (ap applied_number c.err.ensures.value
    ∙ err-verdict c.match_numbered.result
    ∙ ap (λ (m : SiteMatch). m.verdict) found
    ∙ trimmed-site t w a.rules.now a.number a.gate a.mask
    ∙ ap (λ d. (match_site d a.rules.now a.number a.gate a.mask).verdict) (decode-trim t w))
    ∙ sym (answer-gives _ _ p)
