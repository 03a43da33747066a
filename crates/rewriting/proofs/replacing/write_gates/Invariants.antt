use mathlib.Core.Path.{◌≡◌}
use Rattle.std.specs.Slice.Iter.{chunks_exact_rest, chunks_exact_size}
use Rattle.lists.proofs.Appended.{Appended}
use Rattle.rewriting.specs.Replacement.{rows_of, renamed_lines, OperandsBelow}
use Rattle.rewriting.proofs.replacing.write_gates.Given as goal

-- the rows that are left are still to be stored
abbrev pub invariant-loop-row : goal.invariant-loop-row
invariant-loop-row g l =
    let m = g.R.Renaming in
    let rest = rows_of (chunks_exact_rest l.row-iterator) in
    let total = renamed_lines (m.image l.renaming) (rows_of l.rows) in
    record {
      by-threes : chunks_exact_size l.row-iterator ≡ 3;
      below : OperandsBelow (m.limit l.renaming) rest;
      stored : Appended total l.initial.out l.at (renamed_lines (m.image l.renaming) rest) l.out l.end;
    }
