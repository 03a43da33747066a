-- Laws `six-stores` and `six-columns`: the writing of a number, column by column.
use Rattle.std.proofs.Common.{sym, ◌∙◌}
use Rattle.lines.proofs.NumberLaws.{six-columns, six-stores}
use Rattle.lines.proofs.number.write_number.Goals as goal

pub returns : goal.returns
returns c = six-stores c.args.columns.now _ _ _ _ _ _ c.requires
    ∙ rw (c.column.ensures, c.column-2.ensures, c.column-3.ensures, c.column-4.ensures, c.column-5.ensures) (sym (six-columns c.args.n))
