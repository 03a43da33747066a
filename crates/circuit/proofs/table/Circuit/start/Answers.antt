-- The line is within the table, whose starting lines stand before its end; law `right-at`: it names an input.
use Prim.Native.Nat.{◌<◌}
use native.Mathlib.Omega.{arith}
use Rattle.circuit.specs.Circuit.{constants, first_gate}
use Rattle.circuit.specs.Table.{inputs, starts, decode}
use Rattle.circuit.proofs.StartLaws.{right-at}
use Rattle.circuit.proofs.TableLaws.{start-step}
use Rattle.circuit.proofs.table.Circuit.start.Goals as goal

pub overflow_mul-p : goal.overflow_mul-p
overflow_mul-p c = let h : c.args.i < starts c.self.inside.table.now = rw c.self.view_is c.requires in omega (arith, h, c.self.invariant.0.sized)

pub returns-clause-input_bound : goal.returns-clause-input_bound
returns-clause-input_bound c = let t = c.self.inside.table.now in
    let h : c.args.i < starts t = rw c.self.view_is c.requires in
    let right = right-at (first_gate (inputs t)) constants (decode t).starts _ c.args.i _ c.self.invariant.0.starts-right (start-step t c.args.i h) in
    rw (← c.self.view_is) right.below
