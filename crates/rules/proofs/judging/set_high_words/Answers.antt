-- The front with the words of j holes, from the masks on: laws `masked-words`, `next_word`, `fewer-words`.
use mathlib.Core.Path.{◌∙◌}
use Prim.Native.Nat.{◌*◌}
use native.Mathlib.Omega.{arith}
use borrow.Author.Rules.{rules}
use Rattle.rules.specs.Words.{assignments_per_word}
use Rattle.rules.proofs.HoleWordLaws.{masked-words, next_word, fewer-words}
use Rattle.rules.proofs.judging.set_high_words.Goals as goal

pub loop-j-init : goal.loop-j-init
loop-j-init c = (c.requires.holes_le_max_holes.1, c.requires.words_value ∙ masked-words c.args.w)

pub loop-j-preserved : goal.loop-j-preserved
loop-j-preserved c = let l = c.loop-j in (
  search rules,
  next_word assignments_per_word (c.args.w * assignments_per_word) l.j c.high_word.result l.words (omega arith) l.invariant.1
      c.high_word.ensures,
)

pub returns : goal.returns
returns c = let l = c.loop-j in
    record {
      words_len = l.invariant.0;
      words_after = fewer-words assignments_per_word (c.args.w * assignments_per_word) c.args.holes l.j l.words (omega arith) l.invariant.1;
    }
