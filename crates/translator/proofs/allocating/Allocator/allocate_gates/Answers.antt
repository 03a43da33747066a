-- The invariant: the registers and the buffer represent the allocation after the gates so far; a turn is `gate-ready` before it and
-- `gate-done` after it.
use mathlib.Core.Path.{◌≡◌, refl, sym, ap, ◌∙◌}
use native.Mathlib.Omega.{arith}
use Rattle.circuit.specs.Circuit.{gate_of}
use Rattle.circuit.specs.Table.{gates, decode}
use Rattle.translator.proofs.RepresentsLaws.{represents-same}
use Rattle.translator.proofs.AllocatingLaws.{gates-none, gate-ready, gate-done, gates-all}
use borrow.Author.Rules.{rules}
use Rattle.translator.proofs.allocating.Allocator.allocate_gates.Goals as goal

pub loop-i-init : goal.loop-i-init
loop-i-init c = record {
  below = omega arith;
  same_program = refl;
  allocation = record { allocation = c.requires.none ∙ gates-none (decode c.args.ranges.now.circuit); kept = record { beyond = refl; long = refl } };
}

pub gate_turn-requires-clause-turnable : goal.gate_turn-requires-clause-turnable
gate_turn-requires-clause-turnable c = let a = c.args in
    let l = c.loop-i in
    let g = c.gate in
    let b = l.invariant.allocation in
    let e : c.of-circuit.result ≡ a.ranges.now.circuit = c.of-circuit.ensures ∙ c.table.ensures.value in
    rw (c.first_gate-first.ensures.value, e)
    (gate-ready a.ranges.now.circuit c.table.ensures.well_formed a.ranges.now.trimmed l.i (omega (arith, ap gates e)) (gate_of g.result)
    (sym (rw e at g.ensures.value))
    c.requires.need_bound _ b.allocation _ (omega (arith, c.requires.max_instructions_in_bounds, b.kept.long)))

pub loop-i-preserved : goal.loop-i-preserved
loop-i-preserved c = let a = c.args in
    let l = c.loop-i in
    let g = c.gate in
    let e : c.of-circuit.result ≡ a.ranges.now.circuit = c.of-circuit.ensures ∙ c.table.ensures.value in
    record {
      below = search rules;
      same_program = c.gate_turn.ensures.same_program ∙ l.invariant.same_program;
      allocation = gate-done a.ranges.now.circuit c.table.ensures.well_formed a.ranges.now.trimmed l.i (omega (arith, ap gates e))
          (gate_of g.result) (sym (rw e at g.ensures.value)) _ _ _ l.invariant.allocation
          (rw (c.first_gate-first.ensures.value, e) at c.gate_turn.ensures.allocation);
    }

pub returns-clause-allocation : goal.returns-clause-allocation
returns-clause-allocation c = let l = c.loop-i in
    let e : c.of-circuit.result ≡ c.args.ranges.now.circuit = c.of-circuit.ensures ∙ c.table.ensures.value in
    represents-same (gates-all c.args.ranges.now.circuit l.i (omega (arith, ap gates e))) l.invariant.allocation
