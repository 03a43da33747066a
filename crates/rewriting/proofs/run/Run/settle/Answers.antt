-- By the pairs: laws `settled-kept` and `settled-left`. One that is deeper is not lower.
use mathlib.Core.Path.{refl, sym, ap, ap₂, ◌∙◌}
use Prim.Native.Nat.{◌<◌}
use native.Mathlib.Omega.{arith}
use Rattle.circuit.specs.Critical.{pair_of}
use Rattle.circuit.specs.Depth.{circuit_depth}
use Rattle.circuit.specs.Table.{decode}
use Rattle.circuit.specs.declared.critical.DepthPair.{DepthPair}
use Rattle.circuit.proofs.BackwardLaws.{reverse-front}
use Rattle.rewriting.specs.RunState.{state_of}
use Rattle.rewriting.proofs.PairLaws.{less-is-lower, not-lower}
use Rattle.rewriting.proofs.RunStateLaws.{settled-kept, settled-left}
use Rattle.rewriting.proofs.run.Run.settle.Goals as goal

pub returns-then-self-depth-clause-value : goal.returns-then-self-depth-clause-value
returns-then-self-depth-clause-value c =
    let a = c.args in
    let new = decode a.candidate.now in
    let deeper : a.self.pair.depth < circuit_depth new = omega (arith, c.if-self-depth.true, c.output_depth-depth.ensures) in
    settled-left (state_of a.self a.current.now) new _ _ refl c.requires.held.pair-held (not-lower (pair_of new) a.self.pair deeper)

pub keep-requires-clause-measured : goal.keep-requires-clause-measured
keep-requires-clause-measured c =
    record {
      depths-are = c.measure.ensures.depths_after;
      reverse-are = reverse-front c.args.candidate.now _ _ c.critical_with_reverse_depths-critical.ensures.u_after;
    }

pub returns-then-is_lower-clause-value : goal.returns-then-is_lower-clause-value
returns-then-is_lower-clause-value c =
    let a = c.args in
    let new = ap₂ {C = DepthPair} (λ u v. record { depth = u; critical = v })
    c.output_depth-depth.ensures c.critical_with_reverse_depths-critical.ensures.value in
    ap (λ s. record { next = s; verdict = 0 }) c.keep.ensures.value
    ∙ settled-kept (state_of a.self a.current.now) (decode a.candidate.now) _ _ new c.requires.held.pair-held
    (sym (c.if-is_lower.ensures ∙ less-is-lower _ _))

pub returns-clause-value : goal.returns-clause-value
returns-clause-value c =
    let a = c.args in
    let new = ap₂ {C = DepthPair} (λ u v. record { depth = u; critical = v })
    c.output_depth-depth.ensures c.critical_with_reverse_depths-critical.ensures.value in
    settled-left (state_of a.self a.current.now) (decode a.candidate.now) _ _ new c.requires.held.pair-held
    (sym (c.if-is_lower.ensures ∙ less-is-lower _ _))
