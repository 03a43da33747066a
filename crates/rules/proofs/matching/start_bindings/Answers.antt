-- Law `start-at`: what is written where nothing is bound.
use mathlib.Core.Path.{refl}
use native.Mathlib.Omega.{arith}
use Rattle.rules.specs.Match.{unbound}
use Rattle.rules.proofs.MatchLaws.{start-at}
use Rattle.rules.proofs.matching.start_bindings.Goals as goal

pub bounds-b-root : goal.bounds-b-root
bounds-b-root c = omega (arith, c.args.rule.now.well_formed.sized)

pub returns : goal.returns
returns c = rw c.root.ensures (start-at c.args.rule.now.table.now c.args.rule.now.from c.args.gate unbound refl)
