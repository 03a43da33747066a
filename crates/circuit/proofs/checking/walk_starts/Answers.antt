-- The walk is the run's own recursion, by laws `walked-..`: what is left of the run lies behind the place that was come to.
use mathlib.Core.Path.{◌≡◌, sym, ap, ◌∙◌}
use mathlib.Core.Bool.{Bool}
use Prim.Native.Nat.{ℕ}
use mathlib.Core.List.{List}
use Rattle.circuit.specs.Circuit.{constants, first_gate}
use Rattle.circuit.specs.Table.{inputs, decode}
use Rattle.circuit.specs.Refusal.{starts_ascend, starts_ok}
use Rattle.circuit.proofs.StartRunLaws.{run-stop, run_end}
use Rattle.circuit.proofs.StartLaws.{walked_more, walked-wrong, walked_all}
use borrow.Author.Rules.{rules}
use Rattle.circuit.proofs.checking.walk_starts.Goals as goal

-- what is found is the definition's, whose inputs are those below the first gate
found : (t : List ℕ) (top : ℕ) → top ≡ first_gate (inputs t) → (right : Bool) → right ≡ starts_ascend top constants (decode t).starts →
    right ≡ starts_ok t
found t top e right q = q ∙ ap (λ k. starts_ascend k constants (decode t).starts) e

pub returns-then-t-p-ne-START : goal.returns-then-t-p-ne-START
returns-then-t-p-ne-START c =
    let all =
    walked_all c.args.t.now _ c.loop-p.before c.loop-p.p c.loop-p.invariant.1
    (run-stop _ c.loop-p.p c.loop-p-test.true c.if-t-p-ne-START.true) in
    record { end_value = all.0; right_value = found c.args.t.now _ c.first_gate-top.ensures _ all.1 }

pub returns-then-not-is_start : goal.returns-then-not-is_start
returns-then-not-is_start c =
    let wrong =
    walked-wrong c.args.t.now _ c.loop-p.before c.loop-p.p c.loop-p.invariant.1 c.loop-p-test.true c.if-t-p-ne-START.false
    (sym c.is_start.ensures ∙ c.if-not-is_start.true) in
    record { end_value = c.run_end.ensures ∙ c.loop-p.invariant.1.0; right_value = found c.args.t.now _ c.first_gate-top.ensures _ wrong }

pub loop-p-preserved : goal.loop-p-preserved
loop-p-preserved c = (
  search rules,
  walked_more c.args.t.now _ c.loop-p.before c.loop-p.p c.loop-p.invariant.1 c.loop-p-test.true c.if-t-p-ne-START.false
      (sym c.is_start.ensures ∙ c.if-not-is_start.false),
)

pub returns : goal.returns
returns c =
    let all = walked_all c.args.t.now _ c.loop-p.before c.loop-p.p c.loop-p.invariant.1 (run_end _ c.loop-p.p c.loop-p-test.false) in
    record { end_value = all.0; right_value = found c.args.t.now _ c.first_gate-top.ensures _ all.1 }
