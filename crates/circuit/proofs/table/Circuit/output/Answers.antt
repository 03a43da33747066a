-- Law `output-at`: the output is the number that is read; `output-below` bounds it.
use mathlib.Core.Path.{◌≡◌, sym}
use Prim.Native.Nat.{◌+◌, ◌*◌, ◌<◌}
use native.Mathlib.Omega.{arith}
use lib.ListN.{get_or}
use Rattle.circuit.specs.Table.{outputs, decode}
use Rattle.circuit.proofs.RefusalLaws.{output-below}
use Rattle.circuit.proofs.TableLaws.{output-at}
use Rattle.circuit.proofs.table.Circuit.output.Goals as goal

pub overflow_cast-result : goal.overflow_cast-result
overflow_cast-result c = let t = c.self.inside.table.now in
    let h : c.args.i < outputs t = rw c.self.view_is c.requires in
    let e : get_or (decode t).outputs c.args.i 0 ≡ get_or t (c.self.inside.closings_at + 3 * c.args.i + 1) 0 =
    output-at t c.args.i _ c.self.invariant.1.1 h in
    omega (arith, e, output-below t c.self.invariant.0 c.args.i h)

pub returns : goal.returns
returns c = let t = c.self.inside.table.now in
    let h : c.args.i < outputs t = rw c.self.view_is c.requires in
    let e = output-at t c.args.i _ c.self.invariant.1.1 h in
    rw (sym c.self.view_is) (record { value = sym e; upper_bound = rw e at (output-below t c.self.invariant.0 c.args.i h) })
