-- Line by line: `set_levels` of the lines that are left, in what the loop has made of d, is that of all of them in d.
use mathlib.Core.Path.{ap, ◌∙◌}
use Rattle.circuit.proofs.DepthLaws.{levels-more, levels-end}
use borrow.Author.Rules.{rules}
use Rattle.circuit.proofs.depth.set_levels.Goals as goal

pub loop-i-preserved : goal.loop-i-preserved
loop-i-preserved c = let l = c.loop-i in
    let said = c.start-start.ensures.value in
    rw (ap (λ s. s.input) said, ap (λ s. s.level) said)
    (levels-more c.of-circuit.result c.args.d.now l.d c.starts-i-end.ensures.well_formed l.i l.invariant (search rules))

pub returns : goal.returns
returns c = let l = c.loop-i in
    let same = c.of-circuit.ensures ∙ c.table.ensures.value in
    rw (← same) (levels-end c.of-circuit.result c.args.d.now l.d c.starts-i-end.ensures.well_formed l.i l.invariant (search rules))
