-- Law `line-test`: three numbers and byte 10 are a line.
use Rattle.std.proofs.lemmas.List.{take_rest}
use Rattle.lines.proofs.LineLaws.{line-test}
use Rattle.lines.proofs.line.is_line.Goals as goal

pub returns : goal.returns
returns c = rw (c.is_number-a.ensures, c.is_number-b.ensures, c.is_number-c.ensures) (simp take_rest (line-test c.args.line.now c.requires))
