-- Laws of `GatesTo`: the lines of the gates before gate i that are kept are there, and the new numbers up to its own.
use mathlib.Core.Path.{ap, ◌∙◌}
use Prim.Native.Nat.{◌+◌}
use native.Mathlib.Omega.{arith}
use native.Mathlib.Nat.{add-zero}
use lib.ListN.{get_or}
use borrow.Author.Tests.{lt-ltb, le-ltb}
use Rattle.circuit.proofs.TrimmingLaws.{gates-none, gates-kept, gates-gone, gates-all}
use Rattle.circuit.proofs.trimming.write_gates.Goals as goal
use Rattle.circuit.proofs.trimming.write_gates.Goals.{then-live, else-live}

pub loop-i-init : goal.loop-i-init
loop-i-init c =
    let same = c.of-circuit.ensures ∙ c.table.ensures.value in
    rw same (gates-none c.args.circuit.now _ c.args.out.now c.name_inputs.ensures)

pub loop-i-preserved : goal.loop-i-preserved
loop-i-preserved c = let l = c.loop-i in
    let same = c.of-circuit.ensures ∙ c.table.ensures.value in
    let asked = rw (← same) at c.requires in
    let first = c.first_gate-first.ensures.value in
    let here = get_or c.args.u.now (c.first_gate-first.result + l.i) 0 in
    elim c.if-live.branch [
      | then-live w ↦
          rw (w.out-is, lt-ltb 0 here w.if-live.true)
          (gates-kept c.of-circuit.result c.name_inputs.new.names c.args.out.now l.names l.out l.kept l.i l.invariant c.args.u.now
          asked.u_value (omega (arith, asked.t_in_bounds_2)) (omega arith)
          _ (ap (λ m. m + l.i) first) _ (ap (λ m. m + l.kept) first) w.if-live.true _ c.gates_from-from.ensures _ w.write_gate.ensures)
      | else-live w ↦
          rw (w.out-is, le-ltb 0 here w.if-live.false, add-zero l.kept)
          (gates-gone c.of-circuit.result c.name_inputs.new.names c.args.out.now l.names l.out l.kept l.i l.invariant c.args.u.now
          asked.u_value (omega (arith, asked.t_in_bounds_2)) (omega arith)
          _ (ap (λ m. m + l.i) first) _ (ap (λ m. m + l.kept) first) w.if-live.false)
    ]

pub returns : goal.returns
returns c = let l = c.loop-i in
    let same = c.of-circuit.ensures ∙ c.table.ensures.value in
    let made = gates-all c.of-circuit.result _ c.args.out.now l.names l.out l.kept l.i l.invariant (omega arith) (omega arith) in
    rw (← same) record { value = made.0; by_index = made.1; out_after = made.2 }
