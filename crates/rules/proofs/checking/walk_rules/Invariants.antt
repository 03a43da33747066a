use mathlib.Core.Path.{◌≡◌}
use Prim.Native.Nat.{◌-◌, ◌≤◌}
use lib.ListN.{length}
use Rattle.rules.specs.RuleRefusal.{rules_refusal}
use Rattle.rules.specs.RuleTable.{rule_count}
use Rattle.rules.proofs.RefusalLaws.{tested_from}
use Rattle.rules.proofs.checking.walk_rules.Given as goal

abbrev pub invariant-loop : goal.invariant-loop
invariant-loop l = (l.p ≤ length l.t) × (tested_from l.t (rule_count l.t - l.counter) l.p l.tested.kinds l.tested.references l.tested.uses ≡ rules_refusal l.t)
