-- What is found fits its places: `find-is-within`.
use mathlib.Core.Path.{sym, ap, ◌∙◌, subst}
use Rattle.finder.specs.FindCall.{paper_values}
use Rattle.napspruce.specs.Limits.{Within, find_limits}
use Rattle.napspruce.proofs.LimitLaws.{find-is-within}
use Rattle.napspruce.proofs.exports.napspruce_find.Goals as goal

pub map_or_else-requires-clause-f_callable : goal.map_or_else-requires-clause-f_callable
map_or_else-requires-clause-f_callable c x e =
    let a = c.args in
    subst (Within find_limits) (sym c.find_mask.ensures ∙ ap paper_values e) (find-is-within a.circuit.now a.rules.now a.rule a.gate a.limit)
