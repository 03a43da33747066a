-- The packing of what each call gives loses nothing. Assumes nothing.
use mathlib.Core.Path.{◌≡◌, refl, sym, ap, ◌∙◌}
use mathlib.Core.List.{List, [], ◌∷◌}
use Prim.Native.Nat.{ℕ, ◌/◌}
use native.Mathlib.Omega.{arith}
use lib.ListN.{length, get_or}
use Rattle.lines.specs.Refusal.{gives}
use Rattle.lines.specs.Calls.{reading, writing}
use Rattle.circuit.specs.Circuit.{max_outputs, line_count}
use Rattle.circuit.specs.Table.{decode}
use Rattle.circuit.specs.EvaluateCall.{evaluating}
use Rattle.circuit.specs.MeasureCall.{measuring}
use Rattle.circuit.proofs.FrontLaws.{decode-over}
use Rattle.rules.specs.JudgeCall.{judging}
use Rattle.rules.specs.MatchCall.{matching}
use Rattle.finder.specs.FindCall.{finding}
use Rattle.rewriting.specs.Run.{final_state}
use Rattle.rewriting.specs.RewriteCall.{done_values, rewriting}
use Rattle.rewriting.proofs.Theorems.{valid-encoded, limited-encoded, success-is-safe, success-leaves-table}
use Rattle.translator.specs.TranslateCall.{translating}
use Rattle.napspruce.specs.ListingCall.{max_listing, listing_outcome}
use Rattle.napspruce.specs.Packing.{pack_lines, unpack_lines, pack_one, unpack_one, pack_pair, unpack_pair, pack_finding, unpack_finding, pack_translation, unpack_translation, pack_rewriting, unpack_rewriting}
use Rattle.napspruce.specs.Limits.{evaluate_limits, measure_limits, judge_limits, match_limits, find_limits, rewrite_limits, translate_limits, listing_limits}
use Rattle.napspruce.specs.Theorems.{ReadUnpacks, WriteUnpacks, EvaluateUnpacks, MeasureUnpacks, JudgeUnpacks, MatchUnpacks, FindUnpacks, RewriteUnpacks, TranslateUnpacks, ListingUnpacks}
use Rattle.napspruce.proofs.PackingLaws.{unpacks, one_value, pair_values, finding-values, translation-values, rewriting-values}
use Rattle.napspruce.proofs.LimitLaws.{read-is-within, write-is-within, evaluate-is-within, measure-is-within, judge-is-within, match-is-within, find-is-within, rewrite-is-within, translate-is-within, listing-is-within, conversion-lines}

pub read-unpacks : ReadUnpacks
read-unpacks text table =
    unpacks pack_lines (unpack_lines 19 text) (length text / 19 ∷ []) (reading text table).answer (read-is-within text table)
    (λ values e w. record { told = refl; same = sym (conversion-lines 19 3 _ _ text table values e) })

pub write-unpacks : WriteUnpacks
write-unpacks table text =
    unpacks pack_lines (unpack_lines 3 table) (length table / 3 ∷ []) (writing table text).answer (write-is-within table text)
    (λ values e w. record { told = refl; same = sym (conversion-lines 3 19 _ _ table text values e) })

pub evaluate-unpacks : EvaluateUnpacks
evaluate-unpacks circuit input_bytes output_bytes =
    unpacks pack_one unpack_one evaluate_limits (evaluating circuit input_bytes output_bytes).answer (evaluate-is-within circuit input_bytes output_bytes)
    (λ values e w. one_value max_outputs (omega arith) values w)

pub measure-unpacks : MeasureUnpacks
measure-unpacks circuit =
    unpacks pack_pair unpack_pair measure_limits (measuring circuit) (measure-is-within circuit) (λ values e w. pair_values values w)

pub judge-unpacks : JudgeUnpacks
judge-unpacks rules rule =
    unpacks pack_one unpack_one judge_limits (judging rules rule) (judge-is-within rules rule) (λ values e w. one_value 2 (omega arith) values w)

pub match-unpacks : MatchUnpacks
match-unpacks circuit rules rule gate mask =
    unpacks pack_one unpack_one match_limits (matching circuit rules rule gate mask) (match-is-within circuit rules rule gate mask)
    (λ values e w. one_value 4 (omega arith) values w)

pub find-unpacks : FindUnpacks
find-unpacks circuit rules rule gate limit =
    unpacks pack_finding unpack_finding find_limits (finding circuit rules rule gate limit) (find-is-within circuit rules rule gate limit)
    (λ values e w. finding-values values w)

-- the table that a rewriting leaves in the result table has as many lines as it says
head-lines : (circuit rules sites result work verdicts values : List ℕ) → (rewriting circuit rules sites result work verdicts).answer ≡ gives values
    → line_count (decode (rewriting circuit rules sites result work verdicts).buffers.result) ≡ get_or values 0 0
unfolding done_values
head-lines circuit rules sites result work verdicts values e =
    let d = (rewriting circuit rules sites result work verdicts).buffers.result in
    let c = (final_state circuit rules sites).circuit in
    let left = (success-leaves-table circuit rules sites result work verdicts values e).0 in
    let (w, r, s, v, safe) = success-is-safe circuit rules sites result work verdicts values e in
    ap line_count (decode-over c (valid-encoded c safe.well-formed).kinds (limited-encoded c safe.well-formed).outputs-some result d left) ∙ ap (λ (x : List ℕ). get_or x 0 0) (sym v)

pub rewrite-unpacks : RewriteUnpacks
rewrite-unpacks circuit rules sites result work verdicts =
    let o = rewriting circuit rules sites result work verdicts in
    unpacks pack_rewriting (unpack_rewriting o.buffers.result) rewrite_limits o.answer (rewrite-is-within circuit rules sites result work verdicts)
    (λ values e w. rewriting-values o.buffers.result values (head-lines circuit rules sites result work verdicts values e) w)

pub translate-unpacks : TranslateUnpacks
translate-unpacks circuit limit program =
    unpacks pack_translation unpack_translation translate_limits (translating circuit limit program).answer (translate-is-within circuit limit program)
    (λ values e w. translation-values values w)

pub listing-unpacks : ListingUnpacks
listing-unpacks circuit rules sites listing =
    unpacks pack_one unpack_one listing_limits (listing_outcome circuit rules sites listing).answer (listing-is-within circuit rules sites listing)
    (λ values e w. one_value max_listing (omega arith) values w)
