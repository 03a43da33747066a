-- No table has more than `max_table` numbers (law `starts-are-inputs`).
use native.Mathlib.Omega.{arith}
use Rattle.circuit.proofs.StartLaws.{starts-are-inputs}
use Rattle.translator.proofs.program.translate_accepted.Goals as goal

pub translate_within-requires-else-table-le-SMALL_TABLE-clause-table_in_bounds
    : goal.translate_within-requires-else-table-le-SMALL_TABLE-clause-table_in_bounds
translate_within-requires-else-table-le-SMALL_TABLE-clause-table_in_bounds c = let w = c.table.ensures.well_formed in
    omega (arith, w.sized, starts-are-inputs c.args.circuit.now w)
