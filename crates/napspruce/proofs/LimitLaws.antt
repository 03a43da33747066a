-- What each call gives is within its limits. Assumes nothing.
use mathlib.Core.Path.{◌≡◌}
use mathlib.Core.Bool.{Bool, true}
use mathlib.Core.List.{List, [], ◌∷◌, ◌++◌}
use Prim.Native.Nat.{ℕ, ◌/◌, ◌≤◌}
use native.Mathlib.Nat.{le_refl}
use native.Mathlib.Omega.{arith}
use lib.Dec.{leb}
use lib.ListN.{length}
use lib.Pow.{pow_mono}
use borrow.Author.Tests.{leb-true, ltb-false, not-false}
use Rattle.lists.proofs.Tests.{right_of}
use Rattle.lines.specs.Line.{is_row, is_line, read_line, write_line}
use Rattle.lines.specs.Refusal.{gives, no_table}
use Rattle.lines.specs.Checks.{found}
use Rattle.lines.specs.Calls.{conversion_checks, conversion}
use Rattle.lines.proofs.CheckLaws.{check-passed, answer-given, answer-either}
use Rattle.circuit.specs.Circuit.{Circuit, max_depth}
use Rattle.circuit.specs.Table.{decode}
use Rattle.circuit.specs.Refusal.{starts_right, refusal, circuit_table}
use Rattle.circuit.specs.Depth.{circuit_depth}
use Rattle.circuit.specs.Trim.{trim}
use Rattle.circuit.specs.EvaluateCall.{evaluate_checks, evaluating}
use Rattle.circuit.specs.MeasureCall.{measuring}
use Rattle.circuit.proofs.BoundLaws.{circuit-depth-le}
use Rattle.circuit.proofs.RefusalLaws.{accepted-is-well-formed}
use Rattle.circuit.proofs.ValidLaws.{Limited, limited-decode}
use Rattle.rules.specs.RuleRefusal.{rules_refusal, rules_table}
use Rattle.rules.specs.Rule.{max_lefts}
use Rattle.rules.specs.RuleTable.{rule_of}
use Rattle.rules.specs.WellFormed.{WellFormedRules}
use Rattle.rules.specs.SiteTable.{site_count, sites_refusal, sites_table}
use Rattle.rules.specs.JudgeCall.{judging}
use Rattle.rules.specs.MatchCall.{match_checks, matching}
use Rattle.rules.proofs.RefusalLaws.{accepted-rules-are-well-formed, each-rule-is-well-formed}
use Rattle.rules.proofs.SiteLaws.{accepted-sites-are-well-formed}
use Rattle.rules.proofs.JudgedLaws.{early-limit, early-none}
use Rattle.rules.proofs.VerdictTheorems.{verdicts-are-small}
use Rattle.finder.specs.Search.{max_ways}
use Rattle.finder.specs.FindCall.{found_values, find_checks, finding, is_limit as is_ways}
use Rattle.finder.proofs.SearchTheorems.{first_matches}
use Rattle.finder.proofs.CallLaws.{found-either, limit-small}
use Rattle.rewriting.specs.Run.{start_state, final_state}
use Rattle.rewriting.specs.RewriteCall.{done_values, rewrite_checks, rewriting}
use Rattle.rewriting.proofs.PairLaws.{critical-limit}
use Rattle.rewriting.proofs.RunLaws.{kept-limit}
use Rattle.rewriting.proofs.Theorems.{valid-encoded, limited-encoded, run-is-safe}
use Rattle.translator.specs.Machine.{max_registers}
use Rattle.translator.specs.Need.{need}
use Rattle.translator.specs.TranslateCall.{is_limit, translate_checks, need_checks, translating}
use Rattle.translator.proofs.Theorems.{program-count}
use Rattle.napspruce.specs.ListingCall.{listing_outcome}
use Rattle.napspruce.proofs.ListingLaws.{lines-limit}
use Rattle.napspruce.proofs.KnownLaws.{length-within}
use Rattle.napspruce.proofs.RefusalLaws.{check-within, circuit-within, rules-within, tables-within}
use Rattle.napspruce.specs.Limits.{EachWithin, Within, evaluate_limits, measure_limits, judge_limits, match_limits, find_limits, rewrite_limits, translate_limits}
use Rattle.napspruce.specs.Theorems.{ReadIsWithin, WriteIsWithin, EvaluateIsWithin, MeasureIsWithin, JudgeIsWithin, MatchIsWithin, FindIsWithin, RewriteIsWithin, TranslateIsWithin, ListingIsWithin}

-- ---- D of a circuit

depth-limit : (c : Circuit) → starts_right c ≡ true → Limited c → circuit_depth c ≤ max_depth
depth-limit c e l = omega (arith, circuit-depth-le c e, l.gates-limit)

-- ---- the calls

module _ (size width : ℕ) (test : List ℕ → Bool) (make : List ℕ → List ℕ) (source buffer : List ℕ) where
  conversion-within : Within (length source / size ∷ []) (conversion size width test make source buffer).answer
  unfolding conversion
  conversion-within =
      answer-either (conversion_checks size width test source buffer) _ (Within (length source / size ∷ [])) (
        check-within no_table (omega arith) _ 1 (omega arith),
        (check-within no_table (omega arith) _ 3 (omega arith), (check-within no_table (omega arith) _ 2 (omega arith), tt)),
      )
      (λ p. (le_refl (length source / size), tt))

  -- and its number of lines is the source's
  pub conversion-lines : (values : List ℕ) → (conversion size width test make source buffer).answer ≡ gives values → values ≡ length source / size ∷ []
  unfolding conversion
  conversion-lines values e = (answer-given (conversion_checks size width test source buffer) _ values e).1

pub read-is-within : ReadIsWithin
read-is-within = conversion-within 19 3 is_line read_line

pub write-is-within : WriteIsWithin
write-is-within = conversion-within 3 19 is_row write_line

pub evaluate-is-within : EvaluateIsWithin
unfolding evaluating
evaluate-is-within circuit input_bytes output_bytes =
    answer-either (evaluate_checks circuit input_bytes output_bytes) _ (Within evaluate_limits) (
      check-within circuit_table (omega arith) _ 1 (omega arith),
      (check-within no_table (omega arith) _ 2 (omega arith), (circuit-within circuit, (check-within no_table (omega arith) _ 1 (omega arith), tt))),
    )
    (λ p. (((accepted-is-well-formed circuit).0 p.1.1.0).sized.outputs-limit, tt))

pub measure-is-within : MeasureIsWithin
unfolding measuring
measure-is-within circuit =
    answer-either (found (refusal circuit) circuit_table ∷ []) _ (Within measure_limits) (circuit-within circuit, tt)
    (λ p.
    let w = (accepted-is-well-formed circuit).0 p.0 in
    let l = limited-decode circuit w.sized in
    (depth-limit (decode circuit) w.starts-right l, (critical-limit (decode circuit) l, tt)))

pub judge-is-within : JudgeIsWithin
unfolding judging
judge-is-within rules rule =
    answer-either (found (rules_refusal rules) rules_table ∷ []) _ (Within judge_limits) (rules-within rules, tt) (λ p. ((verdicts-are-small (decode []) rules rule 0 0).0, tt))

pub match-is-within : MatchIsWithin
unfolding matching
match-is-within circuit rules rule gate mask =
    answer-either (match_checks circuit rules) _ (Within match_limits) (
      check-within circuit_table (omega arith) _ 1 (omega arith),
      (check-within rules_table (omega arith) _ 1 (omega arith), (circuit-within circuit, (rules-within rules, tt))),
    )
    (λ p. ((verdicts-are-small (trim (decode circuit)) rules rule gate mask).1, tt))

-- the numbers of a search for a mask
found_within : (c : Circuit) (rules : List ℕ) (rule gate limit : ℕ) → WellFormedRules rules → limit ≤ max_ways
    → EachWithin find_limits (found_values c rules rule gate limit)
found_within c rules rule gate limit w most =
    found-either c rules rule gate limit (EachWithin find_limits) (λ no. (omega (arith, early-limit c rules rule gate), (omega arith, (omega arith, tt))))
    (λ e l. (omega arith, (omega arith, (most, tt))))
    (λ e l m.
    let u = (each-rule-is-well-formed rules w rule (early-none c rules rule gate e).0).1 in
    let few = pow_mono {i = length (rule_of rules rule).lefts} {j = max_lefts} u.lefts-limit in
    (omega arith, (omega (arith, (first_matches c (rule_of rules rule) gate m).0, few), (omega arith, tt))))
    (λ e l m. (omega arith, (omega arith, (omega arith, tt))))

pub find-is-within : FindIsWithin
unfolding finding
find-is-within circuit rules rule gate limit =
    answer-either (find_checks circuit rules limit) _ (Within find_limits) (
      check-within circuit_table (omega arith) _ 1 (omega arith),
      (
        check-within rules_table (omega arith) _ 1 (omega arith),
        (circuit-within circuit, (rules-within rules, (check-within no_table (omega arith) _ 12 (omega arith), tt))),
      ),
    )
    (λ p.
    found_within (trim (decode circuit)) rules rule gate limit ((accepted-rules-are-well-formed rules).0 p.1.1.1.0)
    (limit-small limit (not-false (is_ways limit) (check-passed _ 11 no_table p.1.1.1.1.0))))

-- the numbers of a rewriting
done-within : (circuit rules sites : List ℕ) → refusal circuit ≡ 0 → rules_refusal rules ≡ 0 → sites_refusal sites ≡ 0
    → EachWithin rewrite_limits (done_values circuit rules sites)
unfolding done_values
done-within circuit rules sites okc okr oks =
    let w = (accepted-is-well-formed circuit).0 okc in
    let safe = run-is-safe circuit rules sites w ((accepted-rules-are-well-formed rules).0 okr) in
    let old = limited-decode circuit w.sized in
    let c = (final_state circuit rules sites).circuit in
    let new = limited-encoded c safe.well-formed in
    let few = ((accepted-sites-are-well-formed sites).0 oks).count-limit in (
      lines-limit c safe.well-formed,
      (
        depth-limit (decode circuit) w.starts-right old,
        (
          critical-limit (decode circuit) old,
          (depth-limit c (valid-encoded c safe.well-formed).starts-right new, (critical-limit c new, (omega (arith, few, kept-limit rules sites (start_state (decode circuit)) (site_count sites)), tt))),
        ),
      ),
    )

pub rewrite-is-within : RewriteIsWithin
unfolding rewriting
rewrite-is-within circuit rules sites result work verdicts =
    answer-either (rewrite_checks circuit rules sites result work verdicts) _ (Within rewrite_limits) (
      check-within circuit_table (omega arith) _ 1 (omega arith),
      (
        check-within rules_table (omega arith) _ 1 (omega arith),
        (check-within sites_table (omega arith) _ 1 (omega arith), (check-within no_table (omega arith) _ 2 (omega arith), tables-within circuit rules sites)),
      ),
    )
    (λ p. let q = p.1.1.1.1 in done-within circuit rules sites q.0 q.1.0 q.1.1.0)

pub translate-is-within : TranslateIsWithin
unfolding translating
translate-is-within circuit limit program =
    let c = trim (decode circuit) in
    answer-either (translate_checks circuit limit program ++ need_checks limit c) _ (Within translate_limits) (
      check-within circuit_table (omega arith) _ 1 (omega arith),
      (
        check-within no_table (omega arith) _ 2 (omega arith),
        (circuit-within circuit, (check-within no_table (omega arith) _ 9 (omega arith), (check-within no_table (omega arith) _ 10 (omega arith), tt))),
      ),
    )
    (λ p.
    let most : limit ≤ max_registers = leb-true limit max_registers (right_of (leb 1 limit) _ (not-false (is_limit limit) (check-passed _ 8 no_table p.1.1.1.0))) in
    let enough : need c ≤ limit = ltb-false limit (need c) (check-passed _ 9 no_table p.1.1.1.1.0) in
    ((program-count circuit ((accepted-is-well-formed circuit).0 p.1.1.0)).1, (omega arith, tt)))

pub listing-is-within : ListingIsWithin
unfolding listing_outcome
listing-is-within circuit rules sites listing = length-within circuit rules sites (length listing)
