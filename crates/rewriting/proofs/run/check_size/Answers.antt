-- Laws `size-beyond` and `size-within`, by the counts in the tables' heads.
use native.Mathlib.Omega.{arith}
use Rattle.rewriting.proofs.RunStateLaws.{size-beyond, size-within}
use Rattle.rewriting.proofs.run.check_size.Goals as goal

pub overflow_add-gates : goal.overflow_add-gates
overflow_add-gates c = omega (arith, c.gates.ensures.well_formed.sized, c.args.rule.now.well_formed.sized, c.rights.ensures)

pub returns-then-gates-rights : goal.returns-then-gates-rights
returns-then-gates-rights c =
    size-beyond c.args.circuit.now c.args.rule.now.table.now c.args.rule.now.from (omega (arith, c.if-gates-rights.true, c.rights.ensures))

pub returns : goal.returns
returns c = size-within c.args.circuit.now c.args.rule.now.table.now c.args.rule.now.from (omega (arith, c.if-gates-rights.false, c.rights.ensures))
