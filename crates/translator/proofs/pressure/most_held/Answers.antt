-- The invariant: held and most are those of `pressure_after`, and what is marked as unloaded is what no gate so far uses (CountingLaws).
use native.Mathlib.Omega.{arith}
use Rattle.circuit.specs.Circuit.{gate_of}
use Rattle.translator.proofs.CountingLaws.{unloaded-next, arrivals-fit, kept-fit, held_none, held_more, held_all}
use borrow.Author.Rules.{rules}
use Rattle.translator.proofs.pressure.most_held.Goals as goal

pub loop-i-init : goal.loop-i-init
loop-i-init c =
    record { below = search rules; long = c.told-unloaded; unloaded = c.requires; held = held_none c.args.ranges.now.circuit }

pub arrivals-requires : goal.arrivals-requires
arrivals-requires c =
    (omega (arith, c.gates-i-end.ensures.well_formed.sized), omega (arith, c.gates-i-end.ensures.well_formed.sized))

pub overflow_add-before : goal.overflow_add-before
overflow_add-before c = let l = c.loop-i in
    let g = c.gate-gate in
    let w = c.gates-i-end.ensures.well_formed in
    omega (
      arith,
      arrivals-fit c.args.ranges.now.circuit w c.args.ranges.now.trimmed l.held l.most l.i l.invariant.held (omega arith)
          l.unloaded l.invariant.unloaded l.invariant.long (gate_of g.result) g.ensures.value g.ensures.operands_bound
          _ c.arrivals.ensures.value,
    )

pub overflow_add-held : goal.overflow_add-held
overflow_add-held c = let l = c.loop-i in
    let g = c.gate-gate in
    let w = c.gates-i-end.ensures.well_formed in
    omega (
      arith,
      arrivals-fit c.args.ranges.now.circuit w c.args.ranges.now.trimmed l.held l.most l.i l.invariant.held (omega arith)
          l.unloaded l.invariant.unloaded l.invariant.long (gate_of g.result) g.ensures.value g.ensures.operands_bound
          _ c.arrivals.ensures.value,
      kept-fit c.args.ranges.now.circuit w c.args.ranges.now.trimmed l.held l.most l.i l.invariant.held (omega arith)
          l.unloaded l.invariant.unloaded l.invariant.long (gate_of g.result) g.ensures.value g.ensures.operands_bound
          _ c.arrivals.ensures.value _ c.kept_operands.ensures,
    )

pub overflow_sub-held : goal.overflow_sub-held
overflow_sub-held c = let l = c.loop-i in
    let g = c.gate-gate in
    let w = c.gates-i-end.ensures.well_formed in
    omega (
      arith,
      kept-fit c.args.ranges.now.circuit w c.args.ranges.now.trimmed l.held l.most l.i l.invariant.held (omega arith)
          l.unloaded l.invariant.unloaded l.invariant.long (gate_of g.result) g.ensures.value g.ensures.operands_bound
          _ c.arrivals.ensures.value _ c.kept_operands.ensures,
    )

pub loop-i-preserved : goal.loop-i-preserved
loop-i-preserved c = let l = c.loop-i in
    let g = c.gate-gate in
    let w = c.gates-i-end.ensures.well_formed in
    record {
      below = search rules;
      long = c.arrivals.array_long;
      unloaded = rw c.arrivals.ensures.unmarked
          (unloaded-next c.args.ranges.now.circuit w c.args.ranges.now.trimmed l.held l.most l.i l.invariant.held (omega arith)
          l.unloaded l.invariant.unloaded l.invariant.long (gate_of g.result) g.ensures.value g.ensures.operands_bound);
      held = held_more c.args.ranges.now.circuit w c.args.ranges.now.trimmed l.held l.most l.i l.invariant.held (omega arith)
          l.unloaded l.invariant.unloaded l.invariant.long (gate_of g.result) g.ensures.value g.ensures.operands_bound
          _ c.arrivals.ensures.value _ c.kept_operands.ensures _ c.max-most.ensures;
    }

pub returns : goal.returns
returns c = let l = c.loop-i in
    held_all c.args.ranges.now.circuit l.held l.most l.i _ (omega arith) l.invariant.held c.max.ensures
