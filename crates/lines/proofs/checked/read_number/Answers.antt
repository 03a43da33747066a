use Rattle.std.proofs.lemmas.List.{take_rest}
use Rattle.lines.proofs.checked.read_number.Goals as goal

pub read_number-requires-clause-text_value : goal.read_number-requires-clause-text_value
read_number-requires-clause-text_value c = simp take_rest c.requires.text_value

pub returns : goal.returns
returns c = simp take_rest at c.read_number.ensures
