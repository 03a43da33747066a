-- Demand 3: the rewriter and the translator together. Assumes nothing.
use mathlib.Core.Path.{◌≡◌, refl, sym, ap, ap₂, subst, ◌∙◌}
use mathlib.Core.List.{List}
use Prim.Native.Nat.{ℕ, ◌*◌}
use lib.ListN.{length, take, get_or, drop, replicate}
use Rattle.lines.specs.Refusal.{gives, no_table}
use Rattle.lines.specs.Checks.{found}
use Rattle.lines.specs.Calls.{over}
use lib.Seq.{take-append_seam}
use Rattle.rewriting.specs.Run.{final_state, handed_back, all_verdicts}
use Rattle.circuit.specs.Circuit.{Circuit, first_gate, line_count}
use Rattle.circuit.specs.Table.{inputs, decode, encode}
use Rattle.circuit.specs.Evaluation.{start_bits, evaluate}
use Rattle.circuit.specs.Depth.{set_levels, start_levels, circuit_depth}
use Rattle.circuit.specs.Trim.{trim}
use Rattle.circuit.proofs.RefusalLaws.{accepted-is-well-formed}
use Rattle.circuit.proofs.EncodingLaws.{encode-lines-length}
use Rattle.circuit.proofs.FrontLaws.{front-is}
use Rattle.circuit.proofs.TrimTheorems.{decode-trim}
use Rattle.rules.proofs.RefusalLaws.{accepted-rules-are-well-formed}
use Rattle.rules.proofs.SiteLaws.{accepted-sites-are-well-formed}
use Rattle.rewriting.specs.RewriteCall.{done_values, rewriting}
use Rattle.rewriting.specs.SafeRun.{SafeRun}
use Rattle.rewriting.proofs.Theorems.{decode-encoded, run-is-safe, success-is-safe, success-leaves-table, success-is-bounded}
use Rattle.translator.specs.Machine.{run}
use Rattle.translator.specs.LeveledBit.{leveled_op, at_levels, start_leveled, run_on}
use Rattle.translator.specs.Need.{need}
use Rattle.translator.specs.Program.{program, encode_program, instructions_of}
use Rattle.translator.specs.Discipline.{Disciplined}
use Rattle.translator.specs.SafeDelivery.{SafeDelivery}
use Rattle.translator.specs.Theorems.{DeliveryIsSafe, CallsDeliver}
use Rattle.translator.proofs.CallLaws.{needs-more, needs-no-more, translation-accepted, checks-pass}
use Rattle.translator.proofs.Theorems.{program-emits-outputs, instructions-after-encode, translation-writes-need, translation-is-disciplined}

-- ---- a run that is safe, and the table of the circuit that it hands back

module _ (circuit rules sites : List ℕ) (safe : SafeRun circuit rules sites) where
  abbrev back : Circuit
  back = handed_back circuit rules sites

  -- trimming leaves it as it is
  fixed : trim (decode (encode back)) ≡ back
  fixed = sym (decode-trim (encode back) safe.well-formed) ∙ ap decode safe.trimmed ∙ decode-encoded back safe.well-formed

  back-inputs : inputs (encode back) ≡ inputs circuit
  back-inputs = ap (λ (x : Circuit). x.inputs) (decode-encoded back safe.well-formed) ∙ safe.same_inputs

  -- inputs are loaded at the levels of the circuit first read
  same-loads : (bytes : List ℕ) → start_leveled (decode circuit) bytes ≡ start_leveled back bytes
  unfolding start_levels
  same-loads bytes =
      ap₂ (λ n ss. at_levels 0 (start_bits bytes) (set_levels ss (replicate (first_gate n) 0))) (sym safe.same_inputs) (sym safe.same-starts)

  delivered : (bytes : List ℕ) → length bytes ≡ inputs circuit → SafeDelivery circuit rules sites bytes
  delivered bytes h =
      record {
        run = safe;
        program_runs = λ limit low high enough.
            let (es, run, bits, levels, top) = program-emits-outputs (encode back) safe.well-formed bytes (h ∙ sym back-inputs) limit (rw fixed enough) in (
              es,
              ap₂ (λ c d. run_on c bytes limit (program d)) (sym (decode-encoded back safe.well-formed)) (sym fixed) ∙ run,
              bits ∙ ap (λ c. evaluate c bytes) (decode-encoded back safe.well-formed) ∙ safe.same-outputs bytes h,
              top ∙ ap circuit_depth (decode-encoded back safe.well-formed),
            );
      }

pub delivery-is-safe : DeliveryIsSafe
delivery-is-safe circuit rules sites a b c bytes h =
    delivered circuit rules sites (run-is-safe circuit rules sites ((accepted-is-well-formed circuit).0 a) ((accepted-rules-are-well-formed rules).0 b)) bytes h

-- ---- the calls

-- a table has three numbers a line
lines_long : (c : Circuit) → 3 * line_count c ≡ length (encode c)
lines_long c = sym (encode-lines-length c)

pub calls-deliver : CallsDeliver
unfolding done_values
calls-deliver circuit rules sites result work verdicts values e bytes h =
    let (w, r, s, v, _) = success-is-safe circuit rules sites result work verdicts values e in
    let delivery = delivery-is-safe circuit rules sites ((accepted-is-well-formed circuit).1 w) ((accepted-rules-are-well-formed rules).1 r)
    ((accepted-sites-are-well-formed sites).1 s) bytes h in
    let safe = delivery.run in
    let c = handed_back circuit rules sites in
    let t = encode c in
    let lines : get_or values 0 0 ≡ line_count c = ap (λ l. get_or l 0 0) v in
    let depth : get_or values 3 0 ≡ circuit_depth c = ap (λ l. get_or l 3 0) v in
    let kept : get_or values 5 0 ≡ (final_state circuit rules sites).kept = ap (λ l. get_or l 5 0) v in
    let marked : (rewriting circuit rules sites result work verdicts).buffers.verdicts ≡ over (all_verdicts circuit rules sites) verdicts = (success-leaves-table circuit rules sites result work verdicts values e).1 in
    let left : (rewriting circuit rules sites result work verdicts).buffers.result ≡ over t result = (success-leaves-table circuit rules sites result work verdicts values e).0 in
    let same : trim (decode t) ≡ c = fixed circuit rules sites safe in
    let loads : start_leveled (decode circuit) bytes ≡ start_leveled c bytes = same-loads circuit rules sites safe bytes in
    let p = program (trim (decode t)) in (
      delivery,
      ap (λ n. take (3 * n) (rewriting circuit rules sites result work verdicts).buffers.result) lines
          ∙ ap (λ n. take n (rewriting circuit rules sites result work verdicts).buffers.result) (lines_long c)
          ∙ front-is t result _ left (length t) refl,
      ap (λ n. take n (rewriting circuit rules sites result work verdicts).buffers.verdicts) (sym safe.verdict-each) ∙ ap (take (length (all_verdicts circuit rules sites))) marked
          ∙ take-append_seam (all_verdicts circuit rules sites) (drop (length (all_verdicts circuit rules sites)) verdicts),
      kept ∙ safe.kept-counts,
      rw v (success-is-bounded circuit rules sites result work verdicts _ _ _ _ _ _ (e ∙ ap gives v)),
      λ limit buffer room low high.
          let passed = checks-pass t limit buffer safe.well-formed room low high in (
            λ more.
                sym (needs-more (trim (decode t)) limit buffer (need c) (ap need (sym same)) more (found 10 no_table) refl ∙ translation-accepted t limit buffer passed),
            λ enough.
                let done = needs-no-more (trim (decode t)) limit buffer (need c) (ap need (sym same)) enough _ _ refl refl ∙ translation-accepted t limit buffer passed in
                let read = instructions-after-encode p (drop (length (encode_program p)) buffer) ∙ ap program same in
                let (es, runs, bits, top) = delivery.program_runs limit low high enough in
                let (one, _) = translation-is-disciplined t limit buffer _ _ _ (sym done) in (
                  _,
                  _,
                  es,
                  sym done,
                  ap₂ (λ d is. run d leveled_op limit is) loads read ∙ runs,
                  bits,
                  top ∙ sym depth,
                  translation-writes-need t limit buffer _ _ _ (sym done),
                  subst (λ d. Disciplined d (instructions_of (length p) (over (encode_program p) buffer))) same one,
                ),
          ),
    )
