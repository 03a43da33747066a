-- Law `line-written`: three numbers and byte 10, stored one after the other, are the line.
use Rattle.lines.specs.Line.{write_line}
use Rattle.lines.specs.RecordLaws.{number-length}
use Rattle.lines.proofs.LineLaws.{line-written}
use Rattle.lines.proofs.line.write_line.Goals as goal

pub returns : goal.returns
unfolding write_line
returns c = rw (c.write_number.ensures, c.write_number-2.ensures, c.write_number-3.ensures)
    (line-written c.args.line.now _ _ _ c.requires.line_length (number-length _) (number-length _) (number-length _))
