-- The four parts make the table: laws `trim-stores` and `trim_end`.
use mathlib.Core.Path.{◌≡◌, refl, sym, ap, ◌∙◌}
use native.Mathlib.Omega.{arith}
use lib.ListN.{length, take}
use Rattle.std.proofs.lemmas.List.{length-take}
use Rattle.lines.specs.Calls.{over}
use Rattle.circuit.proofs.TrimmingLaws.{closings-room, trim-stores, trim_end}
use Rattle.circuit.proofs.trimming.trim_by_reverse_depths.Goals as goal

pub write_closings-end-requires-clause-t_in_bounds_2 : goal.write_closings-end-requires-clause-t_in_bounds_2
write_closings-end-requires-clause-t_in_bounds_2 c = let front = c.front-front in
    let w = c.write_gates-kept in
    omega (
      arith,
      closings-room c.args.circuit.now (length front.result.now) w.result front.ensures.whole w.ensures.value
          (length c.args.out.now) c.requires.t_in_bounds_3,
    )

pub returns : goal.returns
returns c = let t = c.args.circuit.now in
    let front = c.front-front in
    let n = length front.result.now in
    let w = c.write_gates-kept in
    let closed = c.write_closings-end.ensures in
    let lines : front.result.now ≡ take n t = front.ensures.value ∙ ap (λ k. take k t) (sym front.ensures.whole) in
    record {
      out_after = trim-stores t n w.result front.ensures.whole w.ensures.value
          (omega (arith, length-take (length front.result.now) t, ap length lines)) c.args.out.now _ _ _ _ c.requires.t_in_bounds_3
          (c.copy_front.ensures ∙ ap (λ l. over l c.args.out.now) lines) w.ensures.out_after closed.out_after refl;
      value = closed.value ∙ trim_end t n w.result front.ensures.whole w.ensures.value;
    }
