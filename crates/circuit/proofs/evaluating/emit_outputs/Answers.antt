-- Laws of `Written`: the bits of the first i outputs are there.
use mathlib.Core.Path.{◌≡◌, sym, ap, ◌∙◌}
use Prim.Native.Nat.{ℕ, ◌<◌}
use native.Mathlib.Omega.{arith}
use lib.Seq.{get_or-take}
use lib.ListN.{take, get_or, length-map}
use Rattle.lists.proofs.Maps.{map-step}
use Rattle.lists.proofs.Written.{written-more}
use Rattle.circuit.specs.Fold.{at_outputs}
use Rattle.circuit.specs.Table.{outputs, refs, decode}
use Rattle.circuit.proofs.BufferLaws.{written_over}
use Rattle.circuit.proofs.TableLaws.{outputs-length, output-next}
use Rattle.circuit.proofs.evaluating.emit_outputs.Goals as goal

pub loop-i-preserved : goal.loop-i-preserved
loop-i-preserved c = let t = c.args.circuit.now in
    let bits = c.args.bits.now in
    let l = c.loop-i in
    let o = c.output in
    let h : l.i < outputs t = omega arith in
    let read = λ (v : ℕ). get_or (take (refs t) bits) v 0 in
    written-more 0 (at_outputs 0 (decode t) (take (refs t) bits)) c.args.out.now l.out l.i _ l.invariant (rw (length-map, outputs-length) h)
    (omega arith)
    (sym
    (map-step read l.i (decode t).outputs _ _ 0 (output-next t l.i h)
    ∙ ap read (sym o.ensures.value)
    ∙ get_or-take (refs t) bits o.result 0 o.ensures.upper_bound))

pub returns : goal.returns
returns c = let l = c.loop-i in
    let t = c.args.circuit.now in
    let xs = at_outputs 0 (decode t) (take (refs t) c.args.bits.now) in
    let n : l.i ≡ outputs t = omega arith in
    written_over xs c.args.out.now l.out l.i l.invariant (n ∙ sym (rw (length-map, outputs-length)))
