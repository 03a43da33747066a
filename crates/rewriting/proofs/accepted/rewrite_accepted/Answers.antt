-- The trimmed circuit is the run's first state; what the run leaves is handed back.
use mathlib.Core.Path.{sym, ap, ◌∙◌}
use Rattle.lines.specs.Calls.{over}
use Rattle.circuit.specs.Circuit.{line_count}
use Rattle.circuit.specs.Critical.{pair_of}
use Rattle.circuit.specs.Table.{decode, encode}
use Rattle.circuit.proofs.EncodingLaws.{encode-after-decode}
use Rattle.circuit.proofs.ValidLaws.{valid-decode}
use Rattle.rewriting.specs.Run.{State, after_all}
use Rattle.rewriting.proofs.CallLaws.{done-values}
use Rattle.rewriting.proofs.PairLaws.{trim-pair}
use Rattle.rewriting.proofs.accepted.rewrite_accepted.Goals as goal

pub returns-clause-result_value : goal.returns-clause-result_value
returns-clause-result_value c =
    let a = c.args in
    let start = c.start-start.ensures in
    let run = c.take_sites-run.ensures in
    let final = run.value ∙ ap (after_all a.rules.now.table.now a.sites.now.table.now) start.value in
    done-values a.circuit.now a.rules.now.table.now a.sites.now.table.now
    c.copy_table-lines.result c.start-start.result.pair c.take_sites-run.result.pair c.take_sites-run.result.kept
    (c.copy_table-lines.ensures.value ∙ ap line_count c.circuit.ensures.value ∙ ap (λ (s : State). line_count s.circuit) final)
    (start.held.pair-held ∙ ap (λ (s : State). pair_of s.circuit) start.value
    ∙ trim-pair (decode a.circuit.now) (valid-decode a.circuit.now start.well_formed))
    (run.held_after.pair-held ∙ ap (λ (s : State). pair_of s.circuit) final)
    (ap (λ (s : State). s.kept) final)

pub returns-clause-res_after : goal.returns-clause-res_after
returns-clause-res_after c =
    let a = c.args in
    let final = c.take_sites-run.ensures.value ∙ ap (after_all a.rules.now.table.now a.sites.now.table.now) c.start-start.ensures.value in
    c.copy_table-lines.ensures.res_after
    ∙ ap (λ x. over x a.res.now)
    (sym (encode-after-decode _ c.circuit.ensures.well_formed)
    ∙ ap encode c.circuit.ensures.value
    ∙ ap (λ (s : State). encode s.circuit) final)
