-- The lines are there, and right (`behind-lines`); what `read_lines` leaves of them is what is there of the table (`behind-read` in TextLaws).
use native.Mathlib.Omega.{arith}
use Rattle.napspruce.proofs.TextLaws.{numbers-long, behind-lines, behind-lent, behind-count, behind-read}
use Rattle.napspruce.proofs.texts.read_from.Goals as goal

pub overflow_sub-text : goal.overflow_sub-text
overflow_sub-text c = omega (arith, numbers-long c.args.text.now c.requires.text_value, c.requires.from_in_bounds)

pub overflow_mul-from : goal.overflow_mul-from
overflow_mul-from c = omega (arith, (behind-lines _ c.requires.text_value c.args.from _ _ c.requires.from_in_bounds c.min-count.ensures).1)

pub slice_bounds-read_lines-count : goal.slice_bounds-read_lines-count
slice_bounds-read_lines-count c =
    omega (arith, (behind-lines _ c.requires.text_value c.args.from _ _ c.requires.from_in_bounds c.min-count.ensures).1)

pub slice_bounds-read_lines-start : goal.slice_bounds-read_lines-start
slice_bounds-read_lines-start c =
    omega (arith, (behind-lines _ c.requires.text_value c.args.from _ _ c.requires.from_in_bounds c.min-count.ensures).1)

pub read_lines-requires : goal.read_lines-requires
read_lines-requires c =
    let k = behind-lines _ c.requires.text_value c.args.from _ _ c.requires.from_in_bounds c.min-count.ensures in
    let lent = behind-lent _ c.requires.text_value c.args.from _ _ c.requires.from_in_bounds c.min-count.ensures in
    record {
      lines_in_bounds = rw lent k.2;
      text_value = rw lent k.3;
      lines_in_bounds_2 = omega (arith, k.0, c.requires.most_in_bounds);
    }

pub returns : goal.returns
returns c =
    record {
      value = behind-count _ c.requires.text_value c.args.from _ _ c.requires.from_in_bounds c.min-count.ensures;
      table_after = behind-read _ c.requires.text_value c.args.from _ _ c.requires.from_in_bounds c.min-count.ensures _ _ c.read_lines.ensures;
    }
