-- The call `judge` (01, Sites, 20): what it gives back, for every input.
use Rattle.std.specs.Prelude.{ℕ, List, [], ◌∷◌, Option, Result as Returned}
use Rattle.lines.specs.declared.refusing.Refusal.{Refusal as GivenRefusal}
use Rattle.lines.specs.Refusal.{Result, answer_of}
use Rattle.lines.specs.Checks.{found, answering}
use Rattle.rules.specs.RuleRefusal.{rules_refusal, rules_table}
use Rattle.rules.specs.Verdict.{applied_number, judgement}
use Rattle.rules.specs.declared.Verdict.{Verdict}

-- the answer: a success gives the verdict, 0 if none applies
abbrev pub paper_values : Returned (Option Verdict) GivenRefusal → Result
paper_values = answer_of (λ v. applied_number v ∷ [])

-- the rules' refusals, 1 and 4 to 8; else the verdict 1 or 2, or 0
unfoldable pub judging : (rules : List ℕ) (rule : ℕ) → Result
judging rules rule = answering (found (rules_refusal rules) rules_table ∷ []) (judgement rules rule ∷ [])
