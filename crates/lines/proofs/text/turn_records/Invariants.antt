use Rattle.lists.proofs.Records.{Mapped}
use Rattle.lines.proofs.text.turn_records.Given as goal

abbrev pub invariant-loop-i : goal.invariant-loop-i
invariant-loop-i g l = let m = g.R.Record in Mapped m.turned m.SIZE m.WIDTH l.source l.initial.buffer l.buffer l.i
