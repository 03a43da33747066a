-- The words so far are the values of the side's references (`SideTo`), from those of the constants and holes on.
use mathlib.Core.Path.{refl, ◌∙◌}
use native.Mathlib.Omega.{arith}
use lib.ListN.{take}
use lib.Seq.{length-take-le}
use Rattle.circuit.specs.Circuit.{first_gate}
use Rattle.circuit.proofs.KindLaws.{bit-applied, decoded-op}
use Rattle.rules.specs.Rule.{max_left_references}
use Rattle.rules.proofs.SideLaws.{side-none, side-more, side-all, side-kept}
use Rattle.rules.proofs.LineLaws.{operands-at}
use Rattle.rules.proofs.judging.side_word.Goals as goal

pub loop-i-init : goal.loop-i-init
loop-i-init c =
    side-none c.args.t.now c.args.q c.args.n (first_gate c.args.holes) max_left_references (take (first_gate c.args.holes) c.args.words.now)
    _ refl c.requires.words_len

pub overflow_cast-left : goal.overflow_cast-left
overflow_cast-left c =
    omega (arith, operands-at c.args.n c.args.q c.args.t.now (first_gate c.args.holes) c.requires.t_value c.loop-i.i c.loop-i-test.true)

pub overflow_cast-right : goal.overflow_cast-right
overflow_cast-right c =
    omega (arith, operands-at c.args.n c.args.q c.args.t.now (first_gate c.args.holes) c.requires.t_value c.loop-i.i c.loop-i-test.true)

pub offset_bounds-words-left : goal.offset_bounds-words-left
offset_bounds-words-left c =
    omega (arith, operands-at c.args.n c.args.q c.args.t.now (first_gate c.args.holes) c.requires.t_value c.loop-i.i c.loop-i-test.true)

pub bounds-words-left : goal.bounds-words-left
bounds-words-left c =
    omega (arith, operands-at c.args.n c.args.q c.args.t.now (first_gate c.args.holes) c.requires.t_value c.loop-i.i c.loop-i-test.true)

pub offset_bounds-words-right : goal.offset_bounds-words-right
offset_bounds-words-right c =
    omega (arith, operands-at c.args.n c.args.q c.args.t.now (first_gate c.args.holes) c.requires.t_value c.loop-i.i c.loop-i-test.true)

pub bounds-words-right : goal.bounds-words-right
bounds-words-right c =
    omega (arith, operands-at c.args.n c.args.q c.args.t.now (first_gate c.args.holes) c.requires.t_value c.loop-i.i c.loop-i-test.true)

pub loop-i-preserved : goal.loop-i-preserved
loop-i-preserved c = let l = c.loop-i in
    let side = take (first_gate c.args.holes) c.args.words.now in
    let op = decoded-op _ c.try_from.result c.try_from.ensures _ _ in
    side-more c.args.t.now c.args.q c.args.n (first_gate c.args.holes) max_left_references side l.words l.i _ l.invariant c.requires.t_value
    c.loop-i-test.true (omega arith) (bit-applied _ _ _ _ (rw c.unwrap_or-kind.ensures at c.apply.ensures) ∙ op)

pub returns : goal.returns
returns c = let l = c.loop-i in record {
  value = side-all c.args.t.now c.args.q c.args.n (first_gate c.args.holes) max_left_references
      (take (first_gate c.args.holes) c.args.words.now) l.words l.i l.invariant (omega arith) c.args.r (omega arith);
  words_len_2 = l.invariant.long;
  words_unchanged = side-kept c.args.t.now c.args.q c.args.n (first_gate c.args.holes) max_left_references
      (take (first_gate c.args.holes) c.args.words.now) l.words l.i l.invariant (omega arith)
      (length-take-le (first_gate c.args.holes) c.args.words.now (omega (arith, c.requires.words_len, c.requires.holes_le_max_holes)));
}
