-- Laws of `RaisedFrom` and `CountedFrom`: the gates from gate i on have raised their operands, and the critical ones of them are counted.
use Prim.Native.Nat.{◌+◌, ◌-◌}
use native.Mathlib.Omega.{arith}
use mathlib.Core.Path.{ap, ◌∙◌}
use Rattle.circuit.proofs.BackwardLaws.{raised-none, raised-more, raised-limit, raised_all}
use Rattle.circuit.proofs.CriticalLaws.{counted_none, counted-more, counted-all, count-limit, depth-fits}
use borrow.Author.Rules.{rules}
use Rattle.circuit.specs.Circuit.{gate_of}
use Rattle.circuit.proofs.critical.critical_with_reverse_depths.Goals as goal

pub loop-i-init : goal.loop-i-init
loop-i-init c =
    let same = c.of-circuit.ensures ∙ c.table.ensures.value in
    rw (c.gates-i.ensures.value, same)
    (search rules, raised-none c.args.circuit.now c.args.u.now _ c.mark_outputs.ensures, counted_none c.args.circuit.now)

pub critical_here-count-requires : goal.critical_here-count-requires
critical_here-count-requires c = let l = c.loop-i in
    let t = c.of-circuit.result in
    let same = c.of-circuit.ensures ∙ c.table.ensures.value in
    let asked = rw (← same) at c.requires in
    let n = ap (λ m. m + (l.i - 1)) c.first_gate-first.ensures.value in
    record {
      depth_le_max_depth = depth-fits t l.count l.i l.invariant.2 c.args.d.now c.first_gate-first.ensures.well_formed asked.d_value
          (l.i - 1) (search rules) _ n;
      reverse_bound = raised-limit t _ l.u c.first_gate-first.ensures.well_formed l.i l.invariant.1 (c.first_gate-first.result + (l.i - 1))
          (search rules);
    }

pub overflow_add-count : goal.overflow_add-count
overflow_add-count c = let l = c.loop-i in
    omega (
      arith,
      count-limit c.of-circuit.result l.count l.i l.invariant.2 c.first_gate-first.ensures.well_formed,
      c.critical_here-count.ensures.upper_bound,
    )

pub raise_operands-requires : goal.raise_operands-requires
raise_operands-requires c = let l = c.loop-i in
    let t = c.of-circuit.result in
    let same = c.of-circuit.ensures ∙ c.table.ensures.value in
    let asked = rw (← same) at c.requires in
    record {
      own_in_bounds = search rules;
      left_in_bounds = search rules;
      own_bound = raised-limit t _ l.u c.first_gate-first.ensures.well_formed l.i l.invariant.1 (c.first_gate-first.result + (l.i - 1))
          (search rules);
    }

pub loop-i-preserved : goal.loop-i-preserved
loop-i-preserved c = let l = c.loop-i in
    let t = c.of-circuit.result in
    let same = c.of-circuit.ensures ∙ c.table.ensures.value in
    let asked = rw (← same) at c.requires in
    let g = c.gate-g in
    let n = ap (λ m. m + (l.i - 1)) c.first_gate-first.ensures.value in (
      search rules,
      raised-more t _ l.u c.first_gate-first.ensures.well_formed l.i l.invariant.1 _ (l.i - 1) (search rules) (search rules) _ n
          (gate_of g.result) g.ensures.value c.raise_operands.ensures,
      counted-more t l.count l.i l.invariant.2 c.args.d.now c.first_gate-first.ensures.well_formed asked.d_value (l.i - 1)
          (search rules) _ n _ l.u l.invariant.1 (search rules)
          (gate_of g.result) g.ensures.value c.args.deepest asked.deepest_value _ c.critical_here-count.ensures.value,
    )

pub returns : goal.returns
returns c = let l = c.loop-i in
    let same = c.of-circuit.ensures ∙ c.table.ensures.value in
    rw (← same)
    record {
      value = counted-all c.of-circuit.result l.count l.i l.invariant.2 (search rules);
      u_after = raised_all c.of-circuit.result c.args.u.now _ (rw same c.mark_outputs.ensures) l.u l.i l.invariant.1 (search rules);
    }
