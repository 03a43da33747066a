-- The loop's invariant is what the walk finds from where it stands, `tested_from`; each way out is a case of it.
use mathlib.Core.Bool.{true}
use mathlib.Core.Path.{◌≡◌, sym, ap, ◌∙◌}
use Prim.Native.Nat.{◌+◌, ◌-◌}
use native.Mathlib.Omega.{arith}
use Rattle.rules.specs.RuleTable.{rule_count}
use Rattle.rules.proofs.RefusalLaws.{whole-lines, rules-walk, tested_from, tested-top, tested-found, tested-more, tested-end}
use Rattle.rules.proofs.WalkLaws.{limited-of, sized_of, walk-short, walk-limits, walk-long, walk-over, walk-head}
use Rattle.rules.proofs.checking.walk_rules.Goals as goal

pub rules_head_in_limits-requires : goal.rules_head_in_limits-requires
rules_head_in_limits-requires c = (whole-lines _ c.requires).0

pub returns-then-not-rules_head_in_limits : goal.returns-then-not-rules_head_in_limits
returns-then-not-rules_head_in_limits c = let e = walk-head _ (sym c.rules_head_in_limits.ensures ∙ c.if-not-rules_head_in_limits.true) in
    sym e ∙ rules-walk _ c.requires (λ z. omega (arith, e, z))

pub bounds-t-0 : goal.bounds-t-0
bounds-t-0 c = omega (arith, whole-lines _ c.requires)

pub loop-init : goal.loop-init
loop-init c =
    let t = c.args.t.now in
    let w = c.requires in
    let all : rule_count t - 0 ≡ rule_count t = omega arith in (
      omega (arith, whole-lines t w),
      ap (λ n. tested_from t n 3 true true true) all
          ∙ tested-top t w (sym c.rules_head_in_limits.ensures ∙ c.if-not-rules_head_in_limits.false),
    )

pub returns-then-t-p-lt3 : goal.returns-then-t-p-lt3
returns-then-t-p-lt3 c =
    let t = c.args.t.now in
    let l = c.loop in
    let n = rule_count t - l.counter in
    tested-found t n l.p l.tested.kinds l.tested.references l.tested.uses 5 (omega arith)
    (walk-short t n l.p (omega (arith, c.loop-test.true)) (omega arith))
    ∙ l.invariant.1

pub returns-then-not-rule_in_limits : goal.returns-then-not-rule_in_limits
returns-then-not-rule_in_limits c =
    let t = c.args.t.now in
    let l = c.loop in
    let n = rule_count t - l.counter in
    let outside = sym c.rule_in_limits.ensures ∙ c.if-not-rule_in_limits.true in
    tested-found t n l.p l.tested.kinds l.tested.references l.tested.uses 4 (omega arith)
    (walk-limits t n l.p (omega (arith, c.loop-test.true)) (omega arith) outside)
    ∙ l.invariant.1

pub next_rule-next-requires : goal.next_rule-next-requires
next_rule-next-requires c =
    let within = sym c.rule_in_limits.ensures ∙ c.if-not-rule_in_limits.false in
    let k = limited-of c.args.t.now c.loop.p within in
    record { p_in_bounds = omega arith; p_bound = (k.lefts-limit, k.rights-limit) }

pub returns-then-t-next : goal.returns-then-t-next
returns-then-t-next c =
    let t = c.args.t.now in
    let l = c.loop in
    let n = rule_count t - l.counter in
    let within = sym c.rule_in_limits.ensures ∙ c.if-not-rule_in_limits.false in
    let long = walk-long t n l.p (omega (arith, c.loop-test.true)) (omega arith) within (omega (arith, c.next_rule-next.ensures)) in
    tested-found t n l.p l.tested.kinds l.tested.references l.tested.uses 5 (omega arith) long ∙ l.invariant.1

pub test_rule-tested-requires : goal.test_rule-tested-requires
test_rule-tested-requires c =
    let within = sym c.rule_in_limits.ensures ∙ c.if-not-rule_in_limits.false in
    sized_of c.args.t.now c.loop.p within (omega (arith, c.next_rule-next.ensures))

pub loop-preserved : goal.loop-preserved
loop-preserved c =
    let t = c.args.t.now in
    let l = c.loop in
    let n = rule_count t - l.counter in
    let within = sym c.rule_in_limits.ensures ∙ c.if-not-rule_in_limits.false in
    let next = c.next_rule-next in
    let u = c.test_rule-tested.result in
    let r = c.test_rule-tested.ensures in
    let fewer : rule_count t - (l.counter + 1) ≡ n - 1 = omega arith in (
      omega arith,
      ap (λ k. tested_from t k next.result u.kinds u.references u.uses) fewer
          ∙ tested-more t n l.p l.tested.kinds l.tested.references l.tested.uses (omega (arith, c.loop-test.true)) within
          (omega (arith, next.ensures)) _ next.ensures _ _ _ r.kinds_value r.references_value r.uses_value
          ∙ l.invariant.1,
    )

pub returns-then-p-t : goal.returns-then-p-t
returns-then-p-t c =
    let t = c.args.t.now in
    let l = c.loop in
    let n = rule_count t - l.counter in
    tested-found t n l.p l.tested.kinds l.tested.references l.tested.uses 5 (omega arith)
    (walk-over t n l.p (omega (arith, c.loop-test.false)) c.if-p-t.true)
    ∙ l.invariant.1

pub returns : goal.returns
returns c =
    let t = c.args.t.now in
    let l = c.loop in
    let n = rule_count t - l.counter in
    c.lowest.ensures
    ∙ tested-end t n l.p l.tested.kinds l.tested.references l.tested.uses (omega (arith, c.loop-test.false)) c.if-p-t.false ∙ l.invariant.1
