-- The line has three numbers (`line-numbers`); what they show is `read_line` by its definition.
use Rattle.std.proofs.Common.{◌∙◌}
use Rattle.std.proofs.lemmas.List.{take_rest}
use Rattle.lines.specs.Line.{read_line}
use Rattle.lines.proofs.LineLaws.{line-numbers}
use Rattle.lines.proofs.line.read_line.Goals as goal

pub read_number-a-requires-clause-text_value : goal.read_number-a-requires-clause-text_value
read_number-a-requires-clause-text_value c = let k = line-numbers c.args.line.now c.requires.in_bounds c.requires.text_value in cc

pub read_number-b-requires-clause-text_value : goal.read_number-b-requires-clause-text_value
read_number-b-requires-clause-text_value c = let k = line-numbers c.args.line.now c.requires.in_bounds c.requires.text_value in simp take_rest (cc)

pub read_number-c-requires-clause-text_value : goal.read_number-c-requires-clause-text_value
read_number-c-requires-clause-text_value c = let k = line-numbers c.args.line.now c.requires.in_bounds c.requires.text_value in simp take_rest (cc)

pub returns : goal.returns
unfolding read_line
returns c = c.copy_from_slice.ensures.after ∙ rw (c.read_number-a.ensures, c.read_number-b.ensures, c.read_number-c.ensures) (simp take_rest)
