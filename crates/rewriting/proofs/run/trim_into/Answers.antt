-- There is room for the table, which is no longer than that of the circuit.
use native.Mathlib.Omega.{arith}
use Rattle.circuit.proofs.StartLaws.{starts-are-inputs}
use Rattle.rewriting.proofs.run.trim_into.Goals as goal

pub trim_by_reverse_depths-requires-clause-t_in_bounds_3 :
    goal.trim_by_reverse_depths-requires-clause-t_in_bounds_3
trim_by_reverse_depths-requires-clause-t_in_bounds_3 c =
    omega (arith, c.requires.well_formed.sized, starts-are-inputs c.args.kept.now c.requires.well_formed, c.requires.max_table_in_bounds)
