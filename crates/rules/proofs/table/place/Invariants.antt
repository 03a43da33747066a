use mathlib.Core.Path.{◌≡◌}
use Prim.Native.Nat.{◌-◌, ◌≤◌}
use Rattle.rules.specs.RuleTable.{rules_from, place_from}
use Rattle.rules.proofs.table.place.Given as goal

abbrev pub invariant-loop : goal.invariant-loop
invariant-loop l = record {
  in_range : (1 ≤ l.counter) × (l.counter ≤ l.rule);
  at : l.p ≡ place_from l.t (rules_from l.t) (l.counter - 1);
}
