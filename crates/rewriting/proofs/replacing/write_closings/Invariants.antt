use mathlib.Core.List.{map}
use Rattle.circuit.specs.Table.{closing_line, decode}
use Rattle.rewriting.specs.Replacement.{renumber}
use Rattle.rewriting.proofs.LineLaws.{LinesTo}
use Rattle.rewriting.proofs.replacing.write_closings.Given as goal

abbrev pub invariant-loop-i : goal.invariant-loop-i
invariant-loop-i l = LinesTo closing_line (map (renumber l.s.gate l.s.closing l.s.count) (decode l.c).outputs) l.initial.out l.at l.out l.i
