-- The theorems on replacement, on the run over a whole list of sites, and on the call. Assumes nothing.
use mathlib.Core.Path.{◌≡◌, refl, sym, ap, ◌∙◌}
use Prim.Native.Nat.{ℕ, ◌≤◌, ◌<◌}
use native.Mathlib.Omega.{arith}
use lib.ListN.{length, get_or, length-map}
use borrow.Author.Tests.{ltb-false}
use Rattle.lists.proofs.Below.{below_length, below-element, below_each}
use Rattle.circuit.specs.Circuit.{Circuit}
use Rattle.circuit.specs.Table.{inputs, outputs, decode, encode}
use Rattle.circuit.specs.WellFormed.{WellFormed}
use Rattle.circuit.specs.Evaluation.{evaluate}
use Rattle.circuit.specs.Depth.{circuit_depth}
use Rattle.circuit.specs.Critical.{critical_count, pair_of}
use Rattle.circuit.proofs.TableLaws.{outputs-length}
use Rattle.circuit.proofs.GateLaws.{gate-from, gate-to}
use Rattle.circuit.proofs.RefusalLaws.{accepted-is-well-formed}
use Rattle.circuit.proofs.EncodingLaws.{decode-long}
use Rattle.circuit.proofs.ValidLaws.{Valid, Limited, valid-decode, limited-decode, well-formed-encode}
use Rattle.rules.specs.SiteTable.{site_count, site_at}
use Rattle.rules.proofs.RefusalLaws.{accepted-rules-are-well-formed}
use Rattle.rules.proofs.SiteLaws.{accepted-sites-are-well-formed}
use Rattle.rewriting.specs.Replacement.{renaming, replace}
use Rattle.rewriting.specs.Pair.{is_lower}
use Rattle.rewriting.specs.Run.{State, start_state, step, verdict_at, state_at, final_state, all_verdicts}
use Rattle.rewriting.specs.RewriteCall.{Lent, done_values}
use Rattle.rewriting.specs.Theorems.{ReplacementCounts, ReplacementIsWellFormed, ReplacementKeepsOutputs, PairBeforeTrim, RunIsSafe, SuccessIsSafe, SuccessLeavesTable, SuccessKeepsEvaluation, SuccessIsBounded}
use Rattle.rewriting.proofs.ReplacementLaws.{replace-length, replace-valid, replace-limited, replace-evaluate}
use Rattle.rewriting.proofs.StepLaws.{verdict-limit, replaced-pair, kept-site-lowers, other-site-leaves}
use Rattle.rewriting.proofs.RunLaws.{after_none, after_more, kept-zeros, running-after, running-well-formed}
use Rattle.circuit.proofs.FrontLaws.{trim-encode}
use Rattle.circuit.proofs.TrimTheorems.{same-evaluation}
use Rattle.rewriting.proofs.CallLaws.{rewriting-given}

-- a circuit whose table is well formed
module _ (c : Circuit) (w : WellFormed (encode c)) where
  pub decode-encoded : decode (encode c) ≡ c
  decode-encoded = decode-long c w.sized.long

  pub valid-encoded : Valid c
  valid-encoded = rw decode-encoded at (valid-decode (encode c) w)

  pub limited-encoded : Limited c
  limited-encoded = rw decode-encoded at (limited-decode (encode c) w.sized)

-- ---- replacement

pub replacement-counts : ReplacementCounts
unfolding replace
replacement-counts c u gate b g = (
  refl,
  refl,
  length-map c.outputs (renaming u gate b),
  replace-length c gate (gate-from c gate g) (gate-to c gate g) u b,
)

pub replacement-is-well-formed : ReplacementIsWellFormed
replacement-is-well-formed c w u v gate mask b s h =
    let ok = valid-encoded c w in
    well-formed-encode (replace c u gate b) (replace-valid c ok u v gate mask b s)
    (replace-limited c ok u v gate mask b s (limited-encoded c w) (ltb-false _ _ h))

pub replacement-keeps-outputs : ReplacementKeepsOutputs
replacement-keeps-outputs c w u v gate mask b s = replace-evaluate c (valid-encoded c w) u v gate mask b s

pub pair-before-trim : PairBeforeTrim
pair-before-trim c w rules r site m = replaced-pair c (valid-encoded c w) rules r site m

-- ---- the run

pub run-is-safe : RunIsSafe
unfolding step
run-is-safe circuit rules sites w r =
    let c = decode circuit in
    let n = site_count sites in
    let start = start_state c in
    let run = running-after c rules r (valid-decode circuit w) (limited-decode circuit w.sized) sites n in
    record {
      first-gets-trimmed = after_none rules sites start;
      next-gets-left = after_more rules sites start;
      verdict-defined = λ i h. element i h;
      verdict-each = below_length (verdict_at rules sites start) n;
      verdict-limit = below_each (verdict_at rules sites start) (λ v. v ≤ 6) 0 (omega arith) n (λ i h. verdict-limit (state_at circuit rules sites i).circuit rules (site_at sites i));
      kept-lowers = λ i h e.
          ap (λ (s : State). is_lower (pair_of s.circuit) (pair_of (state_at circuit rules sites i).circuit)) (after_more rules sites start i)
          ∙ (kept-site-lowers rules (state_at circuit rules sites i) (site_at sites i) (sym (element i h) ∙ e)).1;
      other-leaves = λ i h e.
          after_more rules sites start i ∙ other-site-leaves rules (state_at circuit rules sites i) (site_at sites i) (λ z. e (element i h ∙ z));
      same-outputs = run.same-outputs;
      trimmed = trim-encode (final_state circuit rules sites).circuit run.valid.kinds ∙ ap encode run.trimmed;
      well-formed = running-well-formed c (final_state circuit rules sites) run;
      same_inputs = run.same_inputs;
      same-starts = run.same-starts;
      output-count = run.output-count ∙ outputs-length circuit;
      kept-counts = kept-zeros rules sites start n ∙ omega arith;
      kept-bound = run.kept-bound;
      empty-trims = λ e. ap (λ k. (state_at circuit rules sites k).circuit) e ∙ ap (λ (s : State). s.circuit) (after_none rules sites start);
    }
  where
    element : (i : ℕ) → i < site_count sites → get_or (all_verdicts circuit rules sites) i 0 ≡ (step rules (state_at circuit rules sites i) (site_at sites i)).verdict
    element i h = below-element (verdict_at rules sites (start_state (decode circuit))) (site_count sites) i 0 h

-- ---- the call

pub success-is-safe : SuccessIsSafe
success-is-safe circuit rules sites result work verdicts values e =
    let (a, b, d, v, o) = rewriting-given circuit rules sites result work verdicts values e in
    let w = (accepted-is-well-formed circuit).0 a in
    let r = (accepted-rules-are-well-formed rules).0 b in
    (w, r, (accepted-sites-are-well-formed sites).0 d, v, run-is-safe circuit rules sites w r)

pub success-leaves-table : SuccessLeavesTable
success-leaves-table circuit rules sites result work verdicts values e =
    let (a, b, d, v, q) = rewriting-given circuit rules sites result work verdicts values e in
    (ap (λ (x : Lent). x.result) q, ap (λ (x : Lent). x.verdicts) q)

pub success-keeps-evaluation : SuccessKeepsEvaluation
success-keeps-evaluation circuit rules sites result work verdicts values e =
    let (w, r, s, v, safe) = success-is-safe circuit rules sites result work verdicts values e in
    let c = (final_state circuit rules sites).circuit in
    let d = decode-encoded c safe.well-formed in
    let m : inputs (encode c) ≡ inputs circuit = ap (λ (x : Circuit). x.inputs) d ∙ safe.same_inputs in
    let n : outputs (encode c) ≡ outputs circuit = sym (outputs-length (encode c)) ∙ ap (λ (x : Circuit). length x.outputs) d ∙ safe.output-count in
    same-evaluation circuit (encode c) w safe.well-formed m n (λ bytes h. ap (λ x. evaluate x bytes) d ∙ safe.same-outputs bytes h)

pub success-is-bounded : SuccessIsBounded
unfolding done_values
success-is-bounded circuit rules sites result work verdicts lines old_depth old_critical new_depth new_critical kept e =
    let (w, r, s, v, safe) = success-is-safe circuit rules sites result work verdicts _ e in
    let c = (final_state circuit rules sites).circuit in
    let od : old_depth ≡ circuit_depth (decode circuit) = ap (λ l. get_or l 1 0) v in
    let on : old_critical ≡ critical_count (decode circuit) = ap (λ l. get_or l 2 0) v in
    let nd : new_depth ≡ circuit_depth c = ap (λ l. get_or l 3 0) v in
    let nn : new_critical ≡ critical_count c = ap (λ l. get_or l 4 0) v in
    let k : kept ≡ (final_state circuit rules sites).kept = ap (λ l. get_or l 5 0) v in
    omega (arith, safe.kept-bound)
