-- The three slices are the parts of the replaced circuit (`Parts`), from which each place and limit follows. Five stores make the table: laws
-- `replace-stores` and `replace-end`.
use mathlib.Core.Path.{ap, ◌∙◌}
use Prim.Native.Nat.{◌+◌, ◌*◌, ◌-◌}
use native.Mathlib.Omega.{arith}
use lib.ListN.{length, take, drop}
use Rattle.rules.specs.Remembered.{said}
use Rattle.rewriting.specs.Replacement.{rows_of}
use Rattle.rewriting.proofs.LineLaws.{Parts, parts-read, replace-stores, replace-end}
use Rattle.rewriting.proofs.replacing.replace.Goals as goal
use Rattle.rewriting.proofs.replacing.replace.Goals.{After-base}

-- the parts, which are known as soon as all has been read
parts : (c : After-base) → Parts c.args.c.now (said c.args.rule.now) c.args.gate c.base.result c.rights-count.result c.gates_from-lines.result
    (rows_of (take (c.gates_from-lines.result + 3 * (c.args.gate - c.first_gate-first.result) - c.gates_from-lines.result)
    (drop c.gates_from-lines.result c.table-table.result.now)))
    (rows_of (take (c.right_from-from.result + 3 * c.rights-count.result - c.right_from-from.result)
    (drop c.right_from-from.result c.args.rule.now.table.now)))
    (rows_of (take (c.gates_from-lines.result + 3 * c.gates-gates.result
    - (c.gates_from-lines.result + 3 * (c.args.gate - c.first_gate-first.result) + 3))
    (drop (c.gates_from-lines.result + 3 * (c.args.gate - c.first_gate-first.result) + 3) c.table-table.result.now)))
parts c =
    parts-read _ c.table-table.ensures.well_formed _ c.requires.gate_value _ _ c.args.rule.now.well_formed c.requires.within_size
    _ _ _ _ _ _ _ c.table-table.ensures.value c.gates_from-lines.ensures c.gates-gates.ensures.value c.first_gate-first.ensures.value
    c.right_from-from.ensures c.rights-count.ensures c.base.ensures

pub invariant_of-rights : goal.invariant_of-rights
invariant_of-rights c =
    let k = parts c in
    record { base_limit = k.base-limit; gate_limit = omega arith; all_bound = λ r h. (c.requires.bound_below r (omega (arith, h))).0 }

pub rename-requires : goal.rename-requires
rename-requires c = let k = parts (goal.at.rename-requires c).After-base in omega arith

pub slice_bounds-before-end : goal.slice_bounds-before-end
slice_bounds-before-end c = let k = parts (goal.at.slice_bounds-before-end c).After-base in omega (arith, ap length c.table-table.ensures.value)

pub slice_bounds-behind-count : goal.slice_bounds-behind-count
slice_bounds-behind-count c = let k = parts (goal.at.slice_bounds-behind-count c).After-base in omega arith

pub slice_bounds-behind-start : goal.slice_bounds-behind-start
slice_bounds-behind-start c = let k = parts (goal.at.slice_bounds-behind-start c).After-base in omega arith

pub overflow_sub-gates : goal.overflow_sub-gates
overflow_sub-gates c = let k = parts (goal.at.overflow_sub-gates c).After-base in omega arith

pub write_front-requires : goal.write_front-requires
write_front-requires c = let k = parts (goal.at.write_front-requires c).After-base in omega arith

pub write_gates-end-requires-clause-operands : goal.write_gates-end-requires-clause-operands
write_gates-end-requires-clause-operands c = (parts (goal.at.write_gates-end-requires-clause-operands c).After-base).before-below

pub write_gates-end-requires-clause-room : goal.write_gates-end-requires-clause-room
write_gates-end-requires-clause-room c = let k = parts (goal.at.write_gates-end-requires-clause-room c).After-base in omega arith

pub write_gates-end-requires-2-clause-operands : goal.write_gates-end-requires-2-clause-operands
write_gates-end-requires-2-clause-operands c = (parts (goal.at.write_gates-end-requires-2-clause-operands c).After-base).right-below

pub write_gates-end-requires-2-clause-room : goal.write_gates-end-requires-2-clause-room
write_gates-end-requires-2-clause-room c = let k = parts (goal.at.write_gates-end-requires-2-clause-room c).After-base in omega arith

pub write_gates-end-requires-3-clause-operands : goal.write_gates-end-requires-3-clause-operands
write_gates-end-requires-3-clause-operands c = (parts (goal.at.write_gates-end-requires-3-clause-operands c).After-base).behind-below

pub write_gates-end-requires-3-clause-room : goal.write_gates-end-requires-3-clause-room
write_gates-end-requires-3-clause-room c = let k = parts (goal.at.write_gates-end-requires-3-clause-room c).After-base in omega arith

pub write_closings-requires : goal.write_closings-requires
write_closings-requires c = let k = parts (goal.at.write_closings-requires c).After-base in omega arith

pub returns : goal.returns
returns c =
    let k = parts (goal.at.returns c).After-base in
    let well = c.table-table.ensures.well_formed in
    let e1 = c.write_gates-end.ensures in
    let e2 = c.write_gates-end-2.ensures in
    let e3 = c.write_gates-end-3.ensures in
    let e4 = c.write_closings.ensures in
    record {
      out_after = replace-stores _ well _ _ c.requires.gate_value _ _ _ _ _ _ k c.args.b.now _ _ _ c.gates-gates.ensures.value c.closing.ensures
          c.rename.ensures _ _ _ _ _ _ _ _ _ c.requires.max_table_in_bounds c.write_front.ensures e1.out_after e1.value e2.out_after e2.value
          e3.out_after e3.value e4.out_after;
      value = e4.value ∙ replace-end _ well _ _ c.requires.gate_value _ _ _ _ _ _ k c.args.b.now _ _ _ e1.value e2.value e3.value;
    }
