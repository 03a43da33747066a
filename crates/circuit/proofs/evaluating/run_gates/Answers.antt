-- Laws of `Filled`: the bits of the first i gates are there, each by its gate's operation.
use mathlib.Core.Path.{◌≡◌, sym, ap, ap₂, ◌∙◌}
use Prim.Native.Nat.{◌+◌, ◌<◌}
use native.Mathlib.Omega.{arith}
use lib.ListN.{take}
use Rattle.lists.proofs.Each.{filled_more, filled-all}
use Rattle.circuit.specs.Circuit.{gate_of}
use Rattle.circuit.specs.Evaluation.{bit_op}
use Rattle.circuit.specs.Fold.{gate_value, fold_gates}
use Rattle.circuit.specs.Table.{gates, gate_lines}
use Rattle.circuit.proofs.LoopLaws.{value_read}
use Rattle.circuit.proofs.KindLaws.{bit-applied}
use Rattle.circuit.proofs.TableLaws.{gates-length, gate-next}
use Rattle.circuit.proofs.evaluating.run_gates.Goals as goal

pub loop-i-preserved : goal.loop-i-preserved
loop-i-preserved c = let t = c.args.circuit.now in
    let l = c.loop-i in
    let g = c.gate-g in
    let m = c.first_gate-first.result in
    let h : l.i < gates t = omega arith in
    filled_more (gate_value bit_op 0) (gate_lines t) _ m _ l.bits l.i _ _ l.invariant (gate-next t l.i h) (omega arith)
    (bit-applied _ _ _ _ c.apply.ensures
    ∙ value_read bit_op 0 (gate_of g.result) (m + l.i) l.bits (omega arith) (omega arith)
    ∙ ap (λ x. gate_value bit_op 0 x (take (m + l.i) l.bits)) g.ensures.value)

pub returns : goal.returns
returns c = let l = c.loop-i in
    let t = c.args.circuit.now in
    let m = c.first_gate-first.result in
    let e : l.i ≡ gates t = omega arith in
    let first = c.first_gate-first.ensures.value in
    ap₂ (λ n k. take (n + k) l.bits) (sym first) (sym e)
    ∙ filled-all (gate_value bit_op 0) (gate_lines t) _ m _ l.bits l.i l.invariant (rw gates-length (omega arith))
    ∙ ap (λ n. fold_gates bit_op 0 (gate_lines t) (take n c.args.bits.now)) first
