-- 01, Sites, 13: the verdicts 1 to 4 of a site, the first that applies.
use Rattle.std.specs.Prelude.{ℕ, ◌/◌, ◌^◌, Bool, not, ◌&&◌, List, eqb, leb, ltb, length, Result, Ok, Err, Some, None, Option as Optional}
use Rattle.std.proofs.Math.Option.{Option, none, some}
use Rattle.lists.specs.First.{first}
use Rattle.circuit.specs.Circuit.{Circuit, constants, first_gate, references}
use Rattle.circuit.specs.Path.{is_gate}
use Rattle.rules.specs.declared.Verdict.{Verdict}
use Rattle.rules.specs.declared.Verdict.TheVariants.{NoRule, NotSound, NotAGate, NoMatch, TooLarge, NotLower}
use Rattle.rules.specs.declared.ReferenceKind.{ReferenceKind}
use Rattle.rules.specs.declared.ReferenceKind.TheVariants.{Constant, Input, Gate, Beyond}
use Rattle.rules.specs.Rule.{Rule}
use Rattle.rules.specs.RuleTable.{rule_count, rule_of}
use Rattle.rules.specs.Soundness.{is_sound}
use Rattle.rules.specs.Match.{unbound, match_rule}

-- the verdicts by their numbers, and 0 where none of them applies
abbrev pub passes : ℕ
passes = 0

abbrev pub no_rule : ℕ
no_rule = 1

abbrev pub not_sound : ℕ
not_sound = 2

abbrev pub not_a_gate : ℕ
not_a_gate = 3

abbrev pub no_match : ℕ
no_match = 4

-- the code's verdicts, those of crate rewriting too, by the same numbers
abbrev pub verdict_number : Verdict → ℕ
verdict_number NoRule = no_rule
verdict_number NotSound = not_sound
verdict_number NotAGate = not_a_gate
verdict_number NoMatch = no_match
verdict_number TooLarge = 5
verdict_number NotLower = 6

-- the one that applies, if one does
abbrev pub applied_number : Optional Verdict → ℕ
applied_number None = passes
applied_number (Some v) = verdict_number v

abbrev pub number_of : {A : Type 0} → Result A Verdict → ℕ
number_of (Ok a) = passes
number_of (Err v) = verdict_number v

-- 1 does not apply: there is such a rule.
abbrev pub has_rule : List ℕ → (rule : ℕ) → Bool
has_rule t rule = leb 1 rule && leb rule (rule_count t)

-- the judge's: 1 or 2, else 0
unfoldable pub judgement : (rules : List ℕ) (rule : ℕ) → ℕ
judgement t rule =
    first (not (has_rule t rule)) no_rule
    (first (not (is_sound (rule_of t rule))) not_sound
    passes)

-- what a reference is: a constant, an input, a gate, or beyond the circuit
unfoldable pub kind_of : Circuit → (v : ℕ) → ReferenceKind
kind_of c v =
    first (ltb v constants) Constant
    (first (ltb v (first_gate c.inputs)) Input
    (first (ltb v (references c)) Gate
    Beyond))

-- the verdict that it asks for: 3 if it is not a gate, else 0
abbrev pub kind_verdict : ReferenceKind → ℕ
kind_verdict Constant = not_a_gate
kind_verdict Input = not_a_gate
kind_verdict Gate = passes
kind_verdict Beyond = not_a_gate

-- the first of 1 to 3 that applies, else 0, of a rule of which the judge said `judged`: the verdicts before the match
abbrev pub early_verdict : Circuit → (judged gate : ℕ) → ℕ
early_verdict c judged gate = first (eqb judged passes) (first (not (is_gate c gate)) not_a_gate passes) judged

-- a verdict from 0 to 4, and the bindings of the match if it is 0; else zeros
pub record SiteMatch : Type 0 where
  pub verdict : ℕ
  pub bindings : List ℕ

-- a verdict that applies, and the one by the bindings of a match, or by none
abbrev pub failing : (verdict : ℕ) → SiteMatch
failing v = record { verdict = v; bindings = unbound }

abbrev pub verdict_by : Option (List ℕ) → SiteMatch
verdict_by none = failing no_match
verdict_by (some b) = record { verdict = passes; bindings = b }

-- what the code says of a match: its bindings, or the verdict that applies
abbrev pub match_of : Result (List ℕ) Verdict → SiteMatch
match_of (Ok b) = record { verdict = passes; bindings = b }
match_of (Err v) = failing (verdict_number v)

-- 4 or 0, of a sound rule at a gate: 4 also for a mask bit beyond the left gates
unfoldable pub match_at : Circuit → Rule → (gate mask : ℕ) → SiteMatch
match_at c u gate mask = first (not (eqb (mask / 2 ^ length u.lefts) 0)) (failing no_match) (verdict_by (match_rule c u gate mask))

-- the first of 1 to 4 that applies, else 0 and the bindings, for a trimmed circuit, a well-formed rules table and any three numbers
unfoldable pub match_site : Circuit → (rules : List ℕ) (rule gate mask : ℕ) → SiteMatch
match_site c t rule gate mask =
    first (not (has_rule t rule)) (failing no_rule)
    (first (not (is_sound (rule_of t rule))) (failing not_sound)
    (first (not (is_gate c gate)) (failing not_a_gate)
    (match_at c (rule_of t rule) gate mask)))

-- the same of a rule u of which the judge said `judged`
abbrev pub match_judged : Circuit → Rule → (judged gate mask : ℕ) → SiteMatch
match_judged c u judged gate mask =
    first (not (eqb judged passes)) (failing judged)
    (first (not (is_gate c gate)) (failing not_a_gate)
    (match_at c u gate mask))
