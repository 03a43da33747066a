-- The loop runs backward; the invariant: the last uses and the count of different references from output i on (`UsesFrom` in LastUseLaws).
use Prim.Native.Nat.{◌-◌}
use native.Mathlib.Omega.{arith}
use lib.ListN.{length-set}
use Rattle.translator.proofs.LastUseLaws.{uses-none, uses-old, uses-new, uses-all}
use borrow.Author.Rules.{rules}
use Rattle.translator.proofs.last_use.mark_outputs.Goals as goal

pub loop-i-init : goal.loop-i-init
loop-i-init c =
    record { long = c.told-last; few = search rules; uses = rw c.outputs-i.ensures.value (uses-none c.args.circuit.now c.args.last.now c.requires) }

pub loop-i-preserved-then-last-reference : goal.loop-i-preserved-then-last-reference
loop-i-preserved-then-last-reference c = let l = c.loop-i in
    let o = c.output-reference.ensures in
    record {
      long = simp length-set l.invariant.long;
      few = search rules;
      uses = rw c.gates.ensures.value
          (uses-new c.args.circuit.now l.last l.distinct l.i (l.i - 1) _ l.invariant.uses (omega arith) (omega arith) o.value
          (rw c.gates.ensures.value at c.if-last-reference.true) (omega (arith, o.upper_bound, c.gates.ensures.well_formed.sized, l.invariant.long)));
    }

pub loop-i-preserved : goal.loop-i-preserved
loop-i-preserved c = let l = c.loop-i in
    let o = c.output-reference.ensures.value in
    record {
      long = l.invariant.long;
      few = search rules;
      uses = uses-old c.args.circuit.now l.last l.distinct l.i (l.i - 1) _ l.invariant.uses (omega arith) (omega arith) o
          (rw c.gates.ensures.value at c.if-last-reference.false);
    }

pub returns : goal.returns
returns c = let l = c.loop-i in
    let all = uses-all c.args.circuit.now l.last l.distinct l.i (omega arith) l.invariant.uses in
    record { value = all.0; last_uses = all.1 }
