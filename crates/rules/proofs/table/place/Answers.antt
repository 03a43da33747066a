-- The loop steps from rule to rule as `place_from` does; the walk found each of them whole.
use mathlib.Core.Path.{◌≡◌, sym, ap, ◌∙◌}
use Prim.Native.Nat.{◌-◌, ◌+◌}
use native.Mathlib.Omega.{arith}
use Rattle.rules.specs.WellFormed.{RuleSized}
use Rattle.rules.specs.RuleTable.{rule_count, rules_from, next_rule, place_from}
use Rattle.rules.proofs.WalkLaws.{walk_at, place_none, place-more, rule-from, rule-to}
use Rattle.rules.proofs.table.place.Goals as goal

pub loop-init : goal.loop-init
loop-init c = record {
  in_range = (omega arith, omega (arith, rule-from c.args.t.now c.args.rule c.requires.rule_value));
  at = sym (place_none _ _);
}

pub next_rule-p-requires : goal.next_rule-p-requires
next_rule-p-requires c = let t = c.args.t.now in
    let r : RuleSized t c.loop.p =
    rw c.loop.invariant.at
    (walk_at t (rule_count t) (rules_from t) (c.loop.counter - 1) (omega (arith, rule-to t c.args.rule c.requires.rule_value))
    c.requires.rules_sized.walked) in
    omega (arith, r)

pub loop-preserved : goal.loop-preserved
loop-preserved c = let t = c.args.t.now in
    let e : c.loop.counter - 1 + 1 ≡ c.loop.counter + 1 - 1 = omega (arith, c.loop.invariant.in_range) in
    record {
      in_range = (omega arith, omega arith);
      at = c.next_rule-p.ensures ∙ ap (next_rule t) c.loop.invariant.at ∙ sym (place-more t (rules_from t) (c.loop.counter - 1))
          ∙ ap (place_from t (rules_from t)) e;
    }

pub returns : goal.returns
returns c = let t = c.args.t.now in
    let e : c.loop.counter ≡ c.args.rule = omega (arith, c.loop.invariant.in_range) in
    c.loop.invariant.at ∙ ap (λ k. place_from t (rules_from t) (k - 1)) e
