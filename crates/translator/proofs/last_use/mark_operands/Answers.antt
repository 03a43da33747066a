-- The invariant: the last use by the gates so far (`LastTo` in LastUseLaws).
use mathlib.Core.Path.{sym}
use native.Mathlib.Omega.{arith}
use lib.ListN.{length-set}
use Rattle.circuit.specs.Table.{gate_lines}
use Rattle.translator.proofs.LastUseLaws.{last_none, last_more, last-all}
use borrow.Author.Rules.{rules}
use Rattle.translator.proofs.last_use.mark_operands.Goals as goal

pub loop-i-init : goal.loop-i-init
loop-i-init c = (search rules, c.told-last, last_none (gate_lines c.args.circuit.now) c.args.last.now c.requires)

pub loop-i-preserved : goal.loop-i-preserved
loop-i-preserved c = let g = c.gate-gate in
    let l = c.loop-i in
    let t = c.args.circuit.now in
    let read = sym g.ensures.value in
    (search rules, simp length-set l.invariant.1, last_more (gate_lines t) l.last l.i _ l.invariant.2 read (search rules) (search rules))

pub returns : goal.returns
returns c = let l = c.loop-i in last-all c.args.circuit.now l.last l.i (omega arith) l.invariant.2
