-- Laws of `MovedTo`: the depths of the references kept so far are there, and the next place is known.
use mathlib.Core.Path.{◌≡◌, refl}
use native.Mathlib.Omega.{arith}
use lib.ListN.{length}
use Rattle.circuit.specs.Table.{refs}
use Rattle.circuit.proofs.KeptDepthLaws.{moved_none, moved-kept, moved-gone, moved_all}
use Rattle.circuit.proofs.trimming.trim_depths.Goals as goal
use Rattle.circuit.proofs.trimming.trim_depths.Goals.{then-v-first, else-v-first}

pub loop-v-init : goal.loop-v-init
loop-v-init c = moved_none c.args.circuit.now c.args.out.now _ refl

pub loop-v-preserved : goal.loop-v-preserved
loop-v-preserved c = let t = c.args.circuit.now in
    let l = c.loop-v in
    let first = c.first_gate-first.ensures in
    let r = c.requires in
    let size = length c.args.out.now in
    elim c.if-v-first.branch [
      | then-v-first w ↦
          rw w.next-is
          (moved-kept t size l.out l.next l.v l.invariant first.well_formed c.args.u.now c.args.d.now r.u_value r.d_value (omega arith)
          r.t_in_bounds_3 _ first.value w.if-v-first.true)
      | else-v-first w ↦
          rw w.next-is
          (moved-gone t size l.out l.next l.v l.invariant first.well_formed c.args.u.now c.args.d.now r.u_value r.d_value (omega arith)
          r.t_in_bounds_3 _ first.value w.if-v-first.false)
    ]

pub returns : goal.returns
returns c = let l = c.loop-v in
    let e : refs c.args.circuit.now ≡ l.v = omega arith in
    moved_all c.args.circuit.now (length c.args.out.now) l.out l.next l.v l.invariant c.first_gate-first.ensures.well_formed e
    c.requires.t_in_bounds_3
