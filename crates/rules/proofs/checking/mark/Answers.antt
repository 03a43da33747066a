-- A bit below the word's width is not shifted out: law `shift_one`.
use mathlib.Core.Path.{sym, ◌∙◌}
use borrow.Author.Tests.{lt-ltb, le-ltb}
use Rattle.lists.proofs.First.{first-true, first-false}
use Rattle.rules.proofs.UseWordLaws.{shift_one}
use Rattle.rules.proofs.checking.mark.Goals as goal

pub returns-then-r-lt-WORD_BITS : goal.returns-then-r-lt-WORD_BITS
returns-then-r-lt-WORD_BITS c = shift_one _ c.if-r-lt-WORD_BITS.true ∙ sym (first-true _ _ (lt-ltb _ _ c.if-r-lt-WORD_BITS.true))

pub returns-else-r-lt-WORD_BITS : goal.returns-else-r-lt-WORD_BITS
returns-else-r-lt-WORD_BITS c = sym (first-false _ _ (le-ltb _ _ c.if-r-lt-WORD_BITS.false))
