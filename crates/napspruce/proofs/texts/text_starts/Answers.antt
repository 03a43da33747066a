-- Line by line, by laws `starts-..`: what is left of the run lies behind the lines that were counted.
use mathlib.Core.Path.{◌≡◌, sym, ap, ◌∙◌}
use Prim.Native.Nat.{◌-◌, ◌/◌}
use lib.ListN.{length}
use native.Mathlib.Omega.{arith}
use Rattle.napspruce.proofs.TextLaws.{starts_none, line-there, starts_more, starts-stop, starts-end}
use Rattle.napspruce.proofs.texts.text_starts.Goals as goal

pub loop-i-init : goal.loop-i-init
loop-i-init c = starts_none c.args.text.now c.requires

pub overflow_mul-i : goal.overflow_mul-i
overflow_mul-i c = omega (arith, (line-there c.args.text.now c.requires c.loop-i.i c.loop-i.invariant c.loop-i-test.true).0)

pub read_number-requires : goal.read_number-requires
read_number-requires c =
    let there = line-there c.args.text.now c.requires c.loop-i.i c.loop-i.invariant c.loop-i-test.true in
    record { at_in_bounds = there.0; text_value = there.1 }

pub returns-then-read_number-ne-START : goal.returns-then-read_number-ne-START
returns-then-read_number-ne-START c = let l = c.loop-i in
    starts-stop c.args.text.now c.requires l.i l.invariant c.loop-i-test.true (λ e. c.if-read_number-ne-START.true (c.read_number.ensures ∙ e))

pub loop-i-preserved : goal.loop-i-preserved
loop-i-preserved c = let l = c.loop-i in
    starts_more c.args.text.now c.requires l.i l.invariant c.loop-i-test.true (sym c.read_number.ensures ∙ c.if-read_number-ne-START.false)

pub returns : goal.returns
returns c = let l = c.loop-i in
    let end : l.i ≡ length c.args.text.now / 19 = omega (arith, l.invariant.1, c.loop-i-test.false) in
    ap (λ i. i - 1) (sym end) ∙ starts-end c.args.text.now c.requires l.i l.invariant c.loop-i-test.false
