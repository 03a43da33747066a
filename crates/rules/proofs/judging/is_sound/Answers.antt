-- The words so far are equal; all of them say that the rule is sound, and one that differs that it is not: laws `words-judge-at-each-size`,
-- `word-differs`.
use mathlib.Core.Path.{◌≡◌, sym, ap, ◌∙◌}
use Prim.Native.Nat.{◌*◌}
use native.Mathlib.Omega.{arith}
use Rattle.lists.proofs.Below.{below_none, below_more}
use Rattle.rules.specs.Remembered.{said}
use Rattle.rules.specs.Words.{same_words, all_same_words, assignments_per_word, words_for}
use Rattle.rules.proofs.SoundnessLaws.{words-judge-at-each-size, word-differs}
use Rattle.rules.proofs.judging.is_sound.Goals as goal

pub loop-w-init : goal.loop-w-init
loop-w-init c = below_none (λ w. same_words assignments_per_word (w * assignments_per_word) (said c.args.rule.now))

pub returns-then-not-same_words : goal.returns-then-not-same_words
returns-then-not-same_words c = word-differs (said c.args.rule.now) assignments_per_word _ (sym c.same_words.ensures ∙ c.if-not-same_words.true)

pub loop-w-preserved : goal.loop-w-preserved
loop-w-preserved c =
    below_more (λ w. same_words assignments_per_word (w * assignments_per_word) (said c.args.rule.now)) c.loop-w.w c.loop-w.invariant
    (sym c.same_words.ensures ∙ c.if-not-same_words.false)

pub returns : goal.returns
returns c = let u = said c.args.rule.now in
    let e : c.loop-w.w ≡ c.words_for-w-end.result = omega arith in
    sym c.loop-w.invariant
    ∙ ap (λ w. all_same_words assignments_per_word w u) (e ∙ c.words_for-w-end.ensures ∙ ap words_for c.holes.ensures)
    ∙ words-judge-at-each-size u
