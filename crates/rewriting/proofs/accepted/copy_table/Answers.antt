-- The table is copied over the front; its length is that of its lines.
use mathlib.Core.Path.{ap}
use native.Mathlib.Omega.{arith}
use lib.ListN.{length}
use Rattle.circuit.proofs.TableLaws.{starts-length, gates-length, outputs-length}
use Rattle.circuit.proofs.StartLaws.{starts-are-inputs}
use Rattle.rewriting.proofs.accepted.copy_table.Goals as goal

pub copy_over-requires : goal.copy_over-requires
copy_over-requires c = let t = c.table-table.ensures in
    omega (arith, ap length t.value, t.well_formed.sized, starts-are-inputs c.args.circuit.now t.well_formed, c.requires)

pub overflow_cast-result : goal.overflow_cast-result
overflow_cast-result c = let t = c.table-table.ensures in
    omega (arith, ap length t.value, t.well_formed.sized, starts-are-inputs c.args.circuit.now t.well_formed)

pub returns : goal.returns
returns c = let circuit = c.args.circuit.now in
    let t = c.table-table.ensures in
    record {
      value = omega (arith, ap length t.value, t.well_formed.sized, starts-length circuit, gates-length circuit, outputs-length circuit);
      res_after = rw t.value at c.copy_over.ensures;
    }
