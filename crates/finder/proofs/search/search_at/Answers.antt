-- Law `from_start`: all left gates to go, from the bindings of the start on.
use mathlib.Core.Bool.{true}
use mathlib.Core.Path.{ap, ◌∙◌}
use native.Mathlib.Omega.{arith}
use Rattle.circuit.specs.Table.{decode}
use Rattle.rules.specs.Match.{attempt}
use Rattle.rules.specs.Remembered.{said}
use Rattle.finder.specs.Search.{within, searched_of}
use Rattle.finder.proofs.LimitLaws.{found_after}
use Rattle.finder.proofs.CallLaws.{from_start}
use Rattle.finder.proofs.search.search_at.Goals as goal

pub follow-requires : goal.follow-requires
follow-requires c = (omega arith, c.requires.1)

pub returns : goal.returns
returns c = let a = c.args in
    let b = c.start_bindings-start in
    from_start (decode a.c.now) a.rule.now.table.now a.rule.now.from a.gate a.limit b.result (searched_of c.follow.result) b.ensures
    (c.follow.ensures ∙ ap (λ k. within a.limit (found_after (decode a.c.now) (said a.rule.now) k (attempt true b.result))) c.lefts.ensures)
