-- What is kept of the rules while a list of sites is gone over, so that a rule is judged once, however many sites name it.
use Rattle.std.specs.Prelude.{ℕ, ◌+◌, ◌≡◌, not, List, length, slice_index_or, Result, Ok, Err, IfOk, Option, Some, None}
use Rattle.lists.specs.First.{first}
use Rattle.rules.specs.declared.Verdict.{Verdict}
use Rattle.rules.specs.declared.Verdict.TheVariants.{NoRule, NotSound}
use Rattle.rules.specs.declared.rule.Rule.{Rule as TableRule}
use Rattle.rules.specs.Rule.{Rule, max_rules}
use Rattle.rules.specs.RuleTable.{rule_at, place_of, rule_of}
use Rattle.rules.specs.Soundness.{is_sound}
use Rattle.rules.specs.Verdict.{has_rule}

-- what a rule's table says of it
abbrev pub said : TableRule → Rule
said u = rule_at u.table.now u.from

abbrev pub said_or : Result TableRule Verdict → Result Rule Verdict
said_or (Ok u) = Ok (said u)
said_or (Err v) = Err v

-- u stands in the rules' table, where the rule of that number begins
pub record Placed (rules : List ℕ) (rule : ℕ) (u : TableRule) : Type 0 where
  pub table : u.table.now ≡ rules
  pub from : u.from ≡ place_of rules rule

-- the rule of a number, or the judge's verdict on it, whose number is `judgement` (`judged-number` in proofs/JudgedLaws.antt)
unfoldable pub judged_rule : (rules : List ℕ) (rule : ℕ) → Result Rule Verdict
judged_rule t rule =
    first (not (has_rule t rule)) (Err NoRule)
    (first (not (is_sound (rule_of t rule))) (Err NotSound)
    (Ok (rule_of t rule)))

-- an entry for each rule number: what is kept there is right
pub record Remembered (rules : List ℕ) (known : List (Option (Result TableRule Verdict))) : Type 0 where
  pub long : length known ≡ max_rules + 1
  pub right : (rule : ℕ) (judged : Result TableRule Verdict) → slice_index_or known rule None ≡ Some judged → said_or judged ≡ judged_rule rules rule
  pub placed : (rule : ℕ) (judged : Result TableRule Verdict) → slice_index_or known rule None ≡ Some judged → IfOk judged (Placed rules rule)
