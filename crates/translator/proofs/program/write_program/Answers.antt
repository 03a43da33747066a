-- Three parts one after the other, each of which finds what the one before it promises; `program-written` reads the program off the last buffer.
use mathlib.Core.Path.{◌≡◌, ◌∙◌, ap}
use mathlib.Core.List.{[]}
use native.Mathlib.Omega.{arith}
use lib.ListN.{length}
use Rattle.lines.specs.Calls.{over}
use Rattle.circuit.specs.Table.{decode}
use Rattle.circuit.proofs.TableLaws.{outputs-length}
use Rattle.circuit.proofs.ValidLaws.{limited-decode}
use Rattle.translator.proofs.TrimmedLaws.{trimmed-fixed}
use Rattle.translator.proofs.ShapeLaws.{program-limit}
use Rattle.translator.proofs.ProgramLaws.{end-held, emits-fit, program-written}
use borrow.Author.Rules.{rules}
use Rattle.translator.proofs.program.write_program.Goals as goal

pub new-allocator-requires : goal.new-allocator-requires
new-allocator-requires c = c.new-registers.ensures []

pub write_emits-requires-clause-held : goal.write_emits-requires-clause-held
write_emits-requires-clause-held c = let t = c.args.ranges.now.circuit in
    end-held (decode t) (trimmed-fixed t c.allocate_gates.ensures.well_formed c.args.ranges.now.trimmed) _ _ _
    c.allocate_gates.ensures.allocation c.load_outputs.ensures.allocation

pub write_emits-requires-clause-emits_in_bounds : goal.write_emits-requires-clause-emits_in_bounds
write_emits-requires-clause-emits_in_bounds c = let t = c.args.ranges.now.circuit in
    let n : c.new-allocator.result.program.now ≡ c.args.buffer.now = c.new-allocator.ensures.same_numbers in
    let g = c.allocate_gates.ensures.allocation in
    let r = c.load_outputs.ensures.allocation in
    omega (
      arith,
      c.requires.max_instructions_in_bounds,
      g.kept.long,
      r.kept.long,
      ap length n,
      outputs-length t,
      emits-fit (decode t) (trimmed-fixed t c.allocate_gates.ensures.well_formed c.args.ranges.now.trimmed) _ _ _ g r
          (limited-decode t c.allocate_gates.ensures.well_formed.sized),
    )

pub returns : goal.returns
returns c = let t = c.args.ranges.now.circuit in
    let n : c.new-allocator.result.program.now ≡ c.args.buffer.now = c.new-allocator.ensures.same_numbers in
    let w = c.write_emits in
    let well = c.allocate_gates.ensures.well_formed in
    let trimmed = trimmed-fixed t well c.args.ranges.now.trimmed in
    let limited = limited-decode t well.sized in
    let all = program-written (decode t) trimmed _ _ _ c.allocate_gates.ensures.allocation c.load_outputs.ensures.allocation
    w.new.self w.ensures.code w.ensures.beyond (omega (arith, c.requires.max_instructions_in_bounds, ap length n)) limited in
    record {
      value = all.0;
      upper_bound = omega (arith, all.0, program-limit (decode t) trimmed limited);
      buffer_after = ◌∙◌ {b = w.new.self.program.now} (search rules) (all.1 ∙ ap (over _) n);
    }
