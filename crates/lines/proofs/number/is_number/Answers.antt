-- Law `number-test`: columns that follow each other, up to a last digit, are the writing of the number that they show.
use Rattle.lines.proofs.NumberLaws.{number-test}
use Rattle.lines.proofs.number.is_number.Goals as goal

pub returns : goal.returns
returns c = rw (c.follows.ensures, c.follows-2.ensures, c.follows-3.ensures, c.follows-4.ensures, c.follows-5.ensures)
    (number-test c.args.columns.now c.requires)
