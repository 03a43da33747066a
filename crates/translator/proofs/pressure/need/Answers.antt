-- Nothing is marked in a new array but its front (`marked-front` in CountingLaws), and what is counted is the need (PressureLaws).
use mathlib.Core.Bool.{false}
use mathlib.Core.Path.{◌∙◌}
use native.Mathlib.Omega.{arith}
use lib.ListN.{replicate, length-replicate}
use Rattle.circuit.specs.Circuit.{max_references}
use Rattle.circuit.specs.Table.{decode}
use Rattle.translator.proofs.CountingLaws.{unmarked, marked-front, unloaded-none, need-read}
use Rattle.translator.proofs.PressureLaws.{linear-need}
use Rattle.translator.proofs.TrimmedLaws.{trimmed-fixed}
use Rattle.translator.proofs.pressure.need.Goals as goal

pub most_held-requires : goal.most_held-requires
most_held-requires c = let first = c.first_gate in
    unloaded-none (decode c.args.ranges.now.circuit) _ first.result first.ensures.value
    (marked-front (replicate max_references false) first.result c.fill.new.self
    (omega (arith, first.ensures.well_formed.sized, length-replicate max_references false))
    (c.fill.ensures.after (λ y e. e)) (unmarked max_references))

pub returns : goal.returns
returns c =
    let t = c.args.ranges.now.circuit in
    need-read t c.most_held.result c.args.ranges.now.distinct c.max.result c.most_held.ensures c.args.ranges.now.distinct_outputs c.max.ensures
    ∙ linear-need (decode t) (trimmed-fixed t c.first_gate.ensures.well_formed c.args.ranges.now.trimmed)
