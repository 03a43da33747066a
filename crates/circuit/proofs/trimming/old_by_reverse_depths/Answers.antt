-- Laws of `SoughtTo`: no reference so far has the number, and that of the next one is known.
use mathlib.Core.Path.{◌≡◌, ◌∙◌}
use Prim.Native.Nat.{◌<◌}
use native.Mathlib.Omega.{arith}
use lib.Dec.{ltb}
use lib.ListN.{get_or}
use Rattle.circuit.specs.Table.{refs}
use Rattle.circuit.proofs.OldNumberLaws.{sought-low, sought-none, sought-here, sought-more, sought-fits, sought-all}
use Rattle.circuit.proofs.trimming.old_by_reverse_depths.Goals as goal

pub returns-then-v-first : goal.returns-then-v-first
returns-then-v-first c = sought-low c.args.circuit.now c.args.v (omega arith)

pub loop-w-init : goal.loop-w-init
loop-w-init c = sought-none c.args.circuit.now c.args.v _ c.first_gate-first.ensures.value (omega arith)

pub overflow_add-next : goal.overflow_add-next
overflow_add-next c = let l = c.loop-w in
    omega (arith, sought-fits c.args.circuit.now c.args.v l.next l.w l.invariant (ltb 0 (get_or c.args.u.now l.w 0)), c.references-refs.ensures.limit)

pub returns-then-v-next : goal.returns-then-v-next
returns-then-v-next c = let l = c.loop-w in
    let inside : l.w < refs c.args.circuit.now = omega arith in
    sought-here c.args.circuit.now c.args.v l.next l.w l.invariant c.args.u.now c.requires.u_value inside (omega arith)

pub loop-w-preserved : goal.loop-w-preserved
loop-w-preserved c = let l = c.loop-w in
    let inside : l.w < refs c.args.circuit.now = omega arith in
    sought-more c.args.circuit.now c.args.v l.next l.w l.invariant c.args.u.now c.requires.u_value inside (omega arith)

pub returns : goal.returns
returns c = let l = c.loop-w in
    let e : c.references-refs.result ≡ l.w = omega arith in
    e ∙ sought-all c.args.circuit.now c.args.v l.next l.w l.invariant (omega arith)
