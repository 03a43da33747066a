use Rattle.std.proofs.Common.{◌≡◌, ◌/◌, ◌&&◌, length}
use Rattle.std.specs.Slice.Iter.{chunks_exact_rest, chunks_exact_size}
use Rattle.lists.specs.Records.{all_records}
use Rattle.lines.proofs.checking.are_right.Given as goal

-- `ok` and the records that are left say what all records say
abbrev pub invariant-loop-part : goal.invariant-loop-part
invariant-loop-part g l =
    let m = g.R.Record in
    let rest = chunks_exact_rest l.part-iterator in
    (chunks_exact_size l.part-iterator ≡ m.SIZE)
    × (all_records m.right m.SIZE (length l.source / m.SIZE) l.source ≡ l.ok && all_records m.right m.SIZE (length rest / m.SIZE) rest)
