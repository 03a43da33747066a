-- Laws of `Written`: the constants' bits and those of the first i inputs are there.
use mathlib.Core.Path.{◌≡◌, sym, ◌∙◌}
use Prim.Native.Nat.{◌+◌, ◌<◌}
use native.Mathlib.Numerals.{add-two}
use native.Mathlib.Omega.{arith}
use lib.ListN.{length, set, length-set, length-map, get_or-map}
use Rattle.lists.proofs.Written.{written-more}
use Rattle.circuit.specs.Circuit.{first_gate}
use Rattle.circuit.specs.Evaluation.{bit_of, start_bits}
use Rattle.circuit.proofs.evaluating.load_inputs.Goals as goal

pub loop-i-preserved : goal.loop-i-preserved
loop-i-preserved c = let l = c.loop-i in
    let a = c.args in
    let bytes = a.bytes.now in
    let i = l.i in
    let e : first_gate (i + 1) ≡ first_gate i + 1 = omega arith in
    let h : i < length bytes = omega arith in
    rw e (written-more 0 (start_bits bytes) (set (set a.bits.now 0 0) 1 1) l.bits (first_gate i) _ l.invariant
    (omega (arith, length-map bytes bit_of)) (simp length-set (omega arith)) (c.bit_of.ensures ∙ sym (rw add-two (get_or-map bit_of bytes i 0))))
