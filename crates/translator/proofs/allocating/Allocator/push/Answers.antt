-- Copied over the buffer, its four numbers are one instruction more.
use mathlib.Core.Path.{◌∙◌}
use native.Mathlib.Omega.{arith}
use Rattle.translator.specs.Instructions.{said_by}
use Rattle.translator.proofs.WritingLaws.{push-code, push-beyond}
use Rattle.translator.proofs.allocating.Allocator.push.Goals as goal

pub returns-clause-code : goal.returns-clause-code
returns-clause-code c =
    push-code c.args.self.now.program.now c.args.self.now.written (said_by c.args.instruction) c.requires _ (omega arith) _
    (c.copy_from_slice.ensures.after ∙ c.numbers.ensures)

pub returns-clause-beyond : goal.returns-clause-beyond
returns-clause-beyond c =
    push-beyond c.args.self.now.program.now c.args.self.now.written (said_by c.args.instruction) c.requires _ (omega arith) _
    (c.copy_from_slice.ensures.after ∙ c.numbers.ensures)
