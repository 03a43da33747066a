-- That each number fits its 12 bits, and that a refusal is told from a success, is `rewrite-is-within`.
use mathlib.Core.Path.{ap}
use Rattle.rewriting.specs.RewriteCall.{paper_values}
use Rattle.napspruce.proofs.LimitLaws.{rewrite-is-within}
use Rattle.napspruce.proofs.ExportLaws.{known-within, rewriting-packed}
use Rattle.napspruce.proofs.exports.napspruce_rewrite.Goals as goal

pub map_or_else-requires-clause-f_callable : goal.map_or_else-requires-clause-f_callable
map_or_else-requires-clause-f_callable c x e =
    let a = c.args in
    let w = rewrite-is-within a.circuit.now a.rules.now a.sites.now a.res.now a.work.now a.verdicts.now in
    known-within _ _ _ _ w _ _ c.rewrite.ensures (ap paper_values e)

pub returns : goal.returns
returns c =
    let a = c.args in
    let w = rewrite-is-within a.circuit.now a.rules.now a.sites.now a.res.now a.work.now a.verdicts.now in
    rewriting-packed _ _ _ _ w _ c.rewrite.ensures _ c.map_or_else.ensures
