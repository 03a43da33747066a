-- The code of no instructions is empty.
use Rattle.translator.specs.Program.{instructions_of}
use Rattle.translator.proofs.allocating.Allocator.new.Goals as goal

pub returns-clause-none : goal.returns-clause-none
unfolding instructions_of
returns-clause-none c = c.requires
