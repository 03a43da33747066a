-- A verdict that applies (`judged-failing-values`), else the search by the rule that the judge has passed (`judged-passed-values`).
use mathlib.Core.Path.{◌∙◌}
use Rattle.std.proofs.lemmas.Result.{err_from_is_err_and}
use Rattle.circuit.specs.Table.{decode}
use Rattle.rules.specs.Verdict.{number_of}
use Rattle.rules.proofs.MatchLaws.{gate-below}
use Rattle.rules.proofs.VerdictLaws.{early-gate}
use Rattle.finder.specs.Search.{searched_of}
use Rattle.finder.proofs.CallLaws.{judged-failing-values, judged-passed-values}
use Rattle.finder.proofs.answering.found_in.Goals as goal

pub returns-in_err-rule : goal.returns-in_err-rule
returns-in_err-rule c = let a = c.args in
    let p = err_from_is_err_and c.from_residual.result c.from_residual.ensures.1 in
    rw (p.1, p.2)
    (judged-failing-values (decode a.c.now) a.rules.now.table.now a.number a.gate a.limit c.judged.result c.judged.ensures.value
    c.in_err-rule.field-0.0 c.in_err-rule.ensures.value)

pub search_at-requires : goal.search_at-requires
search_at-requires c = let a = c.args in (
  (
    gate-below a.c.now a.gate (early-gate (decode a.c.now) a.gate (number_of c.judged.result) c.in_ok-rule.ensures.value),
    c.in_ok-rule.ensures.limit,
  ),
  c.requires,
)

pub returns : goal.returns
returns c = let a = c.args in
    c.found_by.ensures
    ∙ judged-passed-values (decode a.c.now) a.rules.now.table.now a.number a.gate a.limit c.judged.result c.judged.ensures.value
    c.in_ok-rule.rule c.in_ok-rule.ensures.passed c.in_ok-rule.ensures.value (searched_of c.search_at.result) c.search_at.ensures
