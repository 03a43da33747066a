-- The theorems about rewriting, as statements; each is proved under its name in proofs/.
use Rattle.std.specs.Prelude.{ℕ, ◌+◌, ◌*◌, ◌≤◌, ◌≡◌, ◌↔◌, true, false, List, [], ◌∷◌, length}
use Rattle.std.proofs.Math.Option.{some}
use Rattle.lines.specs.Refusal.{refused, gives}
use Rattle.lines.specs.Calls.{over}
use Rattle.circuit.specs.Critical.{pair_of}
use Rattle.circuit.specs.Circuit.{Circuit, max_gates}
use Rattle.circuit.specs.Table.{encode}
use Rattle.circuit.specs.WellFormed.{WellFormed}
use Rattle.circuit.specs.Evaluation.{evaluate}
use Rattle.circuit.specs.EvaluateCall.{evaluating}
use Rattle.circuit.specs.Path.{is_gate}
use Rattle.circuit.specs.declared.critical.DepthPair.{DepthPair}
use Rattle.rules.specs.Rule.{Rule}
use Rattle.rules.specs.RuleTable.{rule_of}
use Rattle.rules.specs.SiteTable.{Site}
use Rattle.rules.specs.Soundness.{is_sound}
use Rattle.rules.specs.Substitution.{Substitution}
use Rattle.rules.specs.Verdict.{passes}
use Rattle.rules.specs.WellFormed.{ValidRule, WellFormedRules, WellFormedSites}
use Rattle.rewriting.specs.Replacement.{replace}
use Rattle.rewriting.specs.Pair.{is_lower, weight}
use Rattle.rewriting.specs.Verdict.{site_match, is_too_large, replaced, rewritten, verdict_of}
use Rattle.rewriting.specs.Run.{State, keeping, step, final_state, all_verdicts}
use Rattle.rewriting.specs.SafeRun.{SafeRun}
use Rattle.rewriting.specs.RewriteCall.{done_values, rewriting}

-- ---- replacement

-- The replaced circuit has as many inputs and outputs, the same starting lines, and the right gates in place of one gate.
abbrev pub ReplacementCounts : Type 0
ReplacementCounts =
    (c : Circuit) (u : Rule) (gate : ℕ) (b : List ℕ) → is_gate c gate ≡ true
    → ((replace c u gate b).inputs ≡ c.inputs)
    × ((replace c u gate b).starts ≡ c.starts)
    × (length (replace c u gate b).outputs ≡ length c.outputs)
    × (length (replace c u gate b).gates + 1 ≡ length c.gates + length u.rights)

-- Where verdict 5 does not apply, its table is well formed.
abbrev pub ReplacementIsWellFormed : Type 0
ReplacementIsWellFormed =
    (c : Circuit) → WellFormed (encode c) → (u : Rule) → ValidRule u → (gate mask : ℕ) (b : List ℕ) → Substitution c u gate mask b
    → is_too_large c u ≡ false → WellFormed (encode (replace c u gate b))

-- If the rule is sound, it gives the same outputs on every input.
abbrev pub ReplacementKeepsOutputs : Type 0
ReplacementKeepsOutputs =
    (c : Circuit) → WellFormed (encode c) → (u : Rule) → ValidRule u → (gate mask : ℕ) (b : List ℕ) → Substitution c u gate mask b
    → is_sound u ≡ true → (bytes : List ℕ) → length bytes ≡ c.inputs → evaluate (replace c u gate b) bytes ≡ evaluate c bytes

-- ---- the pair

-- A lower pair weighs less, if its N is that of a circuit within the limits.
abbrev pub LowerWeighsLess : Type 0
LowerWeighsLess = (new old : DepthPair) → new.critical ≤ max_gates → is_lower new old ≡ true → 1 + weight new ≤ weight old

-- The pair after replacement and trimming is that after replacement alone.
abbrev pub PairBeforeTrim : Type 0
PairBeforeTrim =
    (c : Circuit) → WellFormed (encode c) → (rules : List ℕ) → WellFormedRules rules → (site : Site) → (site_match c rules site).verdict ≡ passes
    → pair_of (rewritten c rules site) ≡ pair_of (replaced c rules site)

-- ---- a site

-- A site is kept exactly if it matches, verdict 5 does not apply, and the pair becomes lower.
abbrev pub KeptIsLower : Type 0
KeptIsLower =
    (c : Circuit) (rules : List ℕ) (site : Site)
    → (verdict_of c rules site ≡ passes)
    ↔ (((site_match c rules site).verdict ≡ passes) × (is_too_large c (rule_of rules site.rule) ≡ false)
    × (is_lower (pair_of (rewritten c rules site)) (pair_of c) ≡ true))

-- A kept site leaves the rewritten circuit, whose pair is lower.
abbrev pub KeptSiteLowers : Type 0
KeptSiteLowers =
    (rules : List ℕ) (s : State) (site : Site) → (step rules s site).verdict ≡ passes
    → ((step rules s site).next ≡ keeping rules s site)
    × (is_lower (pair_of (step rules s site).next.circuit) (pair_of s.circuit) ≡ true)

-- Any other site leaves what it was given.
abbrev pub OtherSiteLeaves : Type 0
OtherSiteLeaves = (rules : List ℕ) (s : State) (site : Site) → ((step rules s site).verdict ≡ passes → ⊥) → (step rules s site).next ≡ s

-- ---- the run

-- The whole list is safe, for every circuit and rules that are not refused; what stands in the sites' table does not matter.
abbrev pub RunIsSafe : Type 0
RunIsSafe = (circuit rules sites : List ℕ) → WellFormed circuit → WellFormedRules rules → SafeRun circuit rules sites

-- ---- the call

-- 01, Refusals, 1: a refusal leaves every lent buffer as it was.
abbrev pub RefusalKeepsBuffers : Type 0
RefusalKeepsBuffers =
    (circuit rules sites result work verdicts : List ℕ) (number table : ℕ)
    → (rewriting circuit rules sites result work verdicts).answer ≡ refused number table
    → ((rewriting circuit rules sites result work verdicts).buffers.result ≡ result)
    × ((rewriting circuit rules sites result work verdicts).buffers.work ≡ some work)
    × ((rewriting circuit rules sites result work verdicts).buffers.verdicts ≡ verdicts)

-- A success means that no table was refused; its numbers are the defined ones, and the run was safe.
abbrev pub SuccessIsSafe : Type 0
SuccessIsSafe =
    (circuit rules sites result work verdicts values : List ℕ) → (rewriting circuit rules sites result work verdicts).answer ≡ gives values
    → WellFormed circuit × WellFormedRules rules × WellFormedSites sites × (values ≡ done_values circuit rules sites) × SafeRun circuit rules sites

-- The table of the circuit handed back is then in `result`, and a verdict a site in `verdicts`, each with the old contents beyond.
abbrev pub SuccessLeavesTable : Type 0
SuccessLeavesTable =
    (circuit rules sites result work verdicts values : List ℕ) → (rewriting circuit rules sites result work verdicts).answer ≡ gives values
    → ((rewriting circuit rules sites result work verdicts).buffers.result ≡ over (encode (final_state circuit rules sites).circuit) result)
    × ((rewriting circuit rules sites result work verdicts).buffers.verdicts ≡ over (all_verdicts circuit rules sites) verdicts)

-- The plain evaluator answers for that table as for the circuit first read, whatever bytes it is given.
abbrev pub SuccessKeepsEvaluation : Type 0
SuccessKeepsEvaluation =
    (circuit rules sites result work verdicts values : List ℕ) → (rewriting circuit rules sites result work verdicts).answer ≡ gives values
    → (input_bytes output_bytes : List ℕ)
    → evaluating (encode (final_state circuit rules sites).circuit) input_bytes output_bytes ≡ evaluating circuit input_bytes output_bytes

-- In the numbers of the result, kept and the new pair are within the old pair.
abbrev pub SuccessIsBounded : Type 0
SuccessIsBounded =
    (circuit rules sites result work verdicts : List ℕ) (lines old_depth old_critical new_depth new_critical kept : ℕ)
    → (rewriting circuit rules sites result work verdicts).answer ≡ gives (lines ∷ old_depth ∷ old_critical ∷ new_depth ∷ new_critical ∷ kept ∷ [])
    → kept + 2049 * new_depth + new_critical ≤ 2049 * old_depth + old_critical
