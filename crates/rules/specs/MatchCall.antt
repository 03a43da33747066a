-- The call `match_site` (01, Sites, 20): what it gives back, for every input.
use Rattle.std.specs.Prelude.{ℕ, List, [], ◌∷◌, Option, Result as Returned}
use Rattle.lines.specs.Text.{is_partial}
use Rattle.lines.specs.declared.refusing.Refusal.{Refusal as GivenRefusal}
use Rattle.lines.specs.Refusal.{Refusal, Result, answer_of}
use Rattle.lines.specs.Checks.{found, check, answering}
use Rattle.circuit.specs.Table.{decode}
use Rattle.circuit.specs.Refusal.{refusal, circuit_table}
use Rattle.circuit.specs.Trim.{trim}
use Rattle.rules.specs.RuleRefusal.{rules_refusal, rules_table}
use Rattle.rules.specs.Verdict.{applied_number, match_site}
use Rattle.rules.specs.declared.Verdict.{Verdict}

-- the answer: a success gives the verdict, 0 if none applies
abbrev pub paper_values : Returned (Option Verdict) GivenRefusal → Result
paper_values = answer_of (λ v. applied_number v ∷ [])

-- 01, Refusals, 2, and 02, 2026-01: 1 for each table; 4, 5, 11, 6, 7 of the circuit; 4 to 8 of the rules.
abbrev pub match_checks : (circuit rules : List ℕ) → List Refusal
match_checks circuit rules =
    check (is_partial 3 circuit) 1 circuit_table
    ∷ check (is_partial 3 rules) 1 rules_table
    ∷ found (refusal circuit) circuit_table
    ∷ found (rules_refusal rules) rules_table ∷ []

-- Where none applies, the circuit is trimmed, and the verdict is the first of 1 to 4 that applies there, or 0.
unfoldable pub matching : (circuit rules : List ℕ) (rule gate mask : ℕ) → Result
matching circuit rules rule gate mask =
    answering (match_checks circuit rules) ((match_site (trim (decode circuit)) rules rule gate mask).verdict ∷ [])
