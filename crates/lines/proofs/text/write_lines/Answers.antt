-- A row needs to pass nothing to be written.
use Rattle.std.proofs.Common.{refl}
use Rattle.lists.proofs.Records.{all-of}
use Rattle.lines.proofs.text.write_lines.Goals as goal

pub turn_records-requires-clause-ready : goal.turn_records-requires-clause-ready
turn_records-requires-clause-ready c = all-of _ 3 (λ t. refl) c.args.rows c.args.table.now
