-- The two sides' words, from the same words of the constants and holes, and their compare: law `side-compare`.
use mathlib.Core.Path.{refl, ◌∙◌}
use Prim.Native.Nat.{◌*◌}
use native.Mathlib.Omega.{arith}
use Rattle.rules.specs.Words.{assignments_per_word}
use Rattle.rules.proofs.SideLaws.{side-compare}
use Rattle.rules.proofs.HoleWordLaws.{masks-take}
use Rattle.rules.proofs.RefusalLaws.{closing-below, left-references-ok, right-references-ok}
use Rattle.rules.proofs.judging.same_words.Goals as goal

pub overflow_cast-closing : goal.overflow_cast-closing
overflow_cast-closing c = let r = c.args.rule.now in omega (arith, closing-below r.table.now r.from r.well_formed, r.well_formed.sized)

pub set_high_words-requires : goal.set_high_words-requires
set_high_words-requires c = record { holes_le_max_holes = (omega (arith, c.args.rule.now.well_formed.sized), refl); words_value = masks-take }

pub side_word-left-requires : goal.side_word-left-requires
side_word-left-requires c = let r = c.args.rule.now in
    let s = r.well_formed.sized in
    record {
      holes_le_max_holes = (omega (arith, s), (omega (arith, s), omega (arith, s)));
      r_bound = omega (arith, s);
      t_value = rw (c.holes-holes.ensures, c.lefts-lefts.ensures, c.left_from.ensures) (left-references-ok r.table.now r.from r.well_formed);
      words_len = c.set_high_words.ensures.words_len;
    }

pub side_word-right-requires : goal.side_word-right-requires
side_word-right-requires c = let r = c.args.rule.now in
    let s = r.well_formed.sized in
    record {
      holes_le_max_holes = (omega (arith, s), (omega (arith, s), omega (arith, s)));
      r_bound = omega (arith, s, closing-below r.table.now r.from r.well_formed);
      t_value = rw (c.holes-holes.ensures, c.rights-rights.ensures, c.right_from.ensures) (right-references-ok r.table.now r.from r.well_formed);
      words_len = c.side_word-left.ensures.words_len_2;
    }

pub returns : goal.returns
returns c = let r = c.args.rule.now in
    let l = c.side_word-left.ensures in
    let h = c.set_high_words.ensures.words_after in
    side-compare r.table.now r.from assignments_per_word (c.args.w * assignments_per_word) _ _
    (l.value ∙ rw (h, c.holes-holes.ensures, c.lefts-lefts.ensures, c.left_from.ensures, c.root-root.ensures) refl)
    (c.side_word-right.ensures.value
    ∙ rw (l.words_unchanged, h, c.holes-holes.ensures, c.rights-rights.ensures, c.right_from.ensures, c.closing-closing.ensures) refl)
