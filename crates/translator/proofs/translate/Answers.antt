-- By what its checks have found: the refusal, or that each was passed (CheckLaws), and then the last test and the work.
use mathlib.Core.Path.{◌∙◌}
use lib.Dec.{leb}
use borrow.Author.Tests.{leb-true, ltb-false, not-false}
use Rattle.lists.proofs.Tests.{right_of}
use Rattle.lines.proofs.CheckLaws.{check-passed, all-passed, refused_at, back-leaving}
use Rattle.translator.specs.Machine.{max_registers}
use Rattle.translator.specs.TranslateCall.{translating}
use Rattle.translator.proofs.CallLaws.{translation-accepted}
use Rattle.translator.proofs.translate.Goals as goal

pub returns-in_err-circuit : goal.returns-in_err-circuit
unfolding translating
returns-in_err-circuit c = back-leaving _ _ c.from_residual.ensures _ (refused_at _ _ c.in_err-circuit.ensures.refusal _) _ _ _ _

pub translate_accepted-requires : goal.translate_accepted-requires
translate_accepted-requires c =
    let p = all-passed _ c.in_ok-circuit.ensures.refusal in
    let limit = c.args.limit in
    record {
      limit_le_max_registers = leb-true limit max_registers (right_of (leb 1 limit) _ (not-false _ (check-passed _ 8 _ p.1.1.1.0)));
      program_numbers_in_bounds = ltb-false _ _ (check-passed _ 1 _ p.1.0);
    }

pub returns : goal.returns
returns c =
    (rw c.in_ok-circuit.ensures.accepted at c.translate_accepted.ensures)
    ∙ translation-accepted _ _ _ (all-passed _ c.in_ok-circuit.ensures.refusal)
