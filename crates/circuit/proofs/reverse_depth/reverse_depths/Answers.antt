-- Laws of `RaisedFrom`: the gates from gate i on have raised their operands.
use mathlib.Core.Path.{ap, ◌∙◌}
use Prim.Native.Nat.{◌+◌, ◌-◌}
use Rattle.circuit.proofs.BackwardLaws.{raised-none, raised-more, raised-limit, raised_all}
use borrow.Author.Rules.{rules}
use Rattle.circuit.specs.Circuit.{gate_of}
use Rattle.circuit.proofs.reverse_depth.reverse_depths.Goals as goal

pub loop-i-init : goal.loop-i-init
loop-i-init c =
    let same = c.of-circuit.ensures ∙ c.table.ensures.value in
    rw (c.gates-i.ensures.value, same) (search rules, raised-none c.args.circuit.now c.args.u.now _ c.mark_outputs.ensures)

pub raise_operands-requires : goal.raise_operands-requires
raise_operands-requires c = let l = c.loop-i in
    let t = c.of-circuit.result in
    let same = c.of-circuit.ensures ∙ c.table.ensures.value in
    let room = rw (← same) at c.requires in
    record {
      own_in_bounds = search rules;
      left_in_bounds = search rules;
      own_bound = raised-limit t _ l.u c.first_gate-first.ensures.well_formed l.i l.invariant.1 (c.first_gate-first.result + (l.i - 1))
          (search rules);
    }

pub loop-i-preserved : goal.loop-i-preserved
loop-i-preserved c = let l = c.loop-i in
    let same = c.of-circuit.ensures ∙ c.table.ensures.value in
    let room = rw (← same) at c.requires in
    let g = c.gate in (
      search rules,
      raised-more c.of-circuit.result _ l.u c.first_gate-first.ensures.well_formed l.i l.invariant.1 _ (l.i - 1) (search rules)
          (search rules) _ (ap (λ m. m + (l.i - 1)) c.first_gate-first.ensures.value) (gate_of g.result) g.ensures.value
          c.raise_operands.ensures,
    )

pub returns : goal.returns
returns c = let l = c.loop-i in
    let same = c.of-circuit.ensures ∙ c.table.ensures.value in
    rw (← same) (raised_all c.of-circuit.result c.args.u.now _ (rw same c.mark_outputs.ensures) l.u l.i l.invariant.1 (search rules))
