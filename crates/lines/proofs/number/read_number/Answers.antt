-- Law `number-low`: in columns that are a number the low half of each byte is what it adds. So no sum is too large.
use Rattle.lines.proofs.NumberLaws.{number-low}
use Rattle.lines.proofs.number.read_number.Goals as goal

pub returns : goal.returns
returns c =
    rw (
      c.column_value-a.ensures,
      c.column_value-b.ensures,
      c.column_value-c.ensures,
      c.column_value-d.ensures,
      c.column_value-e.ensures,
      c.column_value-f.ensures,
    )
    (number-low c.args.columns.now c.requires.in_bounds c.requires.text_value)
