-- The invariant: the same with the outputs so far loaded; a turn is `output-ready` before and `output-done` after it.
use mathlib.Core.Path.{◌≡◌, refl, sym, ap, ◌∙◌}
use native.Mathlib.Omega.{arith}
use Rattle.circuit.specs.Table.{outputs, decode}
use Rattle.circuit.proofs.TableLaws.{outputs-length}
use Rattle.translator.specs.Allocator.{outputs_loaded}
use Rattle.translator.proofs.RepresentsLaws.{represents-same}
use Rattle.translator.proofs.AllocatingLaws.{output-ready, output-fits, output-done}
use borrow.Author.Rules.{rules}
use Rattle.translator.proofs.allocating.Allocator.load_outputs.Goals as goal

pub loop-j-init : goal.loop-j-init
loop-j-init c = record {
  below = omega arith;
  same_program = refl;
  allocation = record { allocation = c.requires.start_value; kept = record { beyond = refl; long = refl } };
}

pub ensure_loaded-requires-clause-loadable : goal.ensure_loaded-requires-clause-loadable
ensure_loaded-requires-clause-loadable c = let l = c.loop-j in
    let o = c.output in
    output-ready c.args.ranges.now.circuit c.outputs-j-end.ensures.well_formed c.args.ranges.now.trimmed l.j (omega arith)
    o.result (sym o.ensures.value) c.requires.need_bound _ l.invariant.allocation.allocation

pub ensure_loaded-requires-clause-code_in_bounds : goal.ensure_loaded-requires-clause-code_in_bounds
ensure_loaded-requires-clause-code_in_bounds c = let l = c.loop-j in
    let o = c.output in
    let b = l.invariant.allocation in
    omega (
      arith,
      output-fits c.args.ranges.now.circuit c.outputs-j-end.ensures.well_formed c.args.ranges.now.trimmed l.j (omega arith)
          o.result (sym o.ensures.value) _ b.allocation,
      c.requires.max_instructions_in_bounds,
      b.kept.long,
    )

pub loop-j-preserved : goal.loop-j-preserved
loop-j-preserved c = let l = c.loop-j in
    let o = c.output in
    record {
      below = search rules;
      same_program = c.ensure_loaded.ensures.same_program ∙ l.invariant.same_program;
      allocation = output-done c.args.ranges.now.circuit c.outputs-j-end.ensures.well_formed c.args.ranges.now.trimmed l.j (omega arith)
          o.result (sym o.ensures.value) _ _ _ l.invariant.allocation c.ensure_loaded.ensures.allocation;
    }

pub returns-clause-allocation : goal.returns-clause-allocation
returns-clause-allocation c = let t = c.args.ranges.now.circuit in
    let l = c.loop-j in
    let e : l.j ≡ outputs t = omega arith in
    represents-same (ap (outputs_loaded (decode t)) (e ∙ sym (outputs-length t))) l.invariant.allocation
