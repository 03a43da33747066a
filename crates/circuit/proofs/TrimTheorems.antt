-- The theorems on trimming, of tables. Assumes nothing.
use mathlib.Core.Path.{◌≡◌, refl, sym, ap, ap₂, ◌∙◌}
use mathlib.Core.Bool.{true}
use mathlib.Core.List.{List, [], ◌∷◌}
use Prim.Native.Nat.{ℕ, ◌+◌, ◌-◌}
use native.Mathlib.Omega.{arith}
use lib.Dec.{ltb}
use lib.ListN.{length, length-map}
use borrow.Author.Tests.{eqb-true, not-false}
use Rattle.lines.specs.Refusal.{gives, no_table}
use Rattle.lines.specs.Checks.{answering, afterwards}
use Rattle.lines.specs.Calls.{over}
use Rattle.lines.proofs.CheckLaws.{check-passed, outcome-same}
use Rattle.circuit.specs.Circuit.{Circuit, first_gate, references, gate_at}
use Rattle.circuit.specs.Table.{inputs, outputs, gate_lines, decode, encode}
use Rattle.circuit.specs.WellFormed.{WellFormed}
use Rattle.circuit.specs.Evaluation.{evaluate}
use Rattle.circuit.specs.Depth.{depth, circuit_depth}
use Rattle.circuit.specs.ReverseDepth.{is_live, above}
use Rattle.circuit.specs.Critical.{critical_count}
use Rattle.circuit.specs.Trim.{rank, is_kept, new_number, trim, trim_of}
use Rattle.circuit.specs.EvaluateCall.{evaluate_checks, evaluating}
use Rattle.circuit.specs.Theorems.{TrimmedIsWellFormed, TrimKeepsCounts, TrimKeepsStarts, TrimKeepsGates, OldNumberLeadsBack, TrimKeepsOutputs, TrimKeepsDepth, TrimKeepsCriticalCount, TrimKeepsDepths, TrimmedIsLive, TrimOfTrim, TrimKeepsCalls}
use Rattle.circuit.proofs.TableLaws.{gates-length, outputs-length, refs-decode}
use Rattle.circuit.proofs.EachLaws.{each_at}
use Rattle.circuit.proofs.RefusalLaws.{whole, well-formed-accepted}
use Rattle.circuit.proofs.EncodingLaws.{decode-after-encode, encode-inputs, encode-gates, encode-outputs}
use Rattle.circuit.proofs.ValidLaws.{valid-decode, limited-decode, well-formed-encode}
use Rattle.circuit.proofs.MeasureLaws.{measurement-well-formed}
use Rattle.circuit.proofs.RankLaws.{keep-length}
use Rattle.circuit.proofs.ReverseDepthLaws.{kept-live}
use Rattle.circuit.proofs.KeptLaws.{live-count}
use Rattle.circuit.proofs.OldNumberLaws.{old-is, old-none}
use Rattle.circuit.proofs.TrimLaws.{trim-references, trim-gate, trim-valid, trim-limited, trim-evaluate, trim-depth, trim-circuit-depth, trim-reverse-depth, trim-critical-count, trim-live, trim-trim}

-- the trimmed table says the trimmed circuit
pub decode-trim : (t : List ℕ) → WellFormed t → decode (trim_of t) ≡ trim (decode t)
decode-trim t w = decode-after-encode (trim (decode t)) (trim-valid (decode t) (valid-decode t w)).kinds

pub trimmed-is-well-formed : TrimmedIsWellFormed
trimmed-is-well-formed t w =
    let ok = valid-decode t w in
    well-formed-encode (trim (decode t)) (trim-valid (decode t) ok) (trim-limited (decode t) ok (limited-decode t w.sized))

pub trim-keeps-counts : TrimKeepsCounts
unfolding trim
trim-keeps-counts t w =
    let c = decode t in (
      encode-inputs (trim c),
      encode-outputs (trim c) ∙ length-map c.outputs (rank (is_kept c)) ∙ outputs-length t,
      omega (arith, encode-gates (trim c), keep-length (is_kept c) (first_gate (inputs t)) (gate_lines t), gates-length t),
    )

pub trim-keeps-starts : TrimKeepsStarts
unfolding trim
trim-keeps-starts t w = ap (λ (c : Circuit). c.starts) (decode-trim t w)

pub trim-keeps-gates : TrimKeepsGates
unfolding trim
trim-keeps-gates t w = (
  encode-gates (trim (decode t)) ∙ live-count (decode t) (first_gate (inputs t)) (gate_lines t) (omega arith),
  λ v g l. ap (λ d. gate_at d (rank (is_kept (decode t)) v)) (decode-trim t w) ∙ trim-gate (decode t) (valid-decode t w) v g (kept-live (decode t) v l),
)

pub old-number-leads-back : OldNumberLeadsBack
old-number-leads-back t w =
    let d = decode t in
    let counted = refs-decode t in
    let trimmed = sym (refs-decode (trim_of t)) ∙ ap references (decode-trim t w) ∙ trim-references d (valid-decode t w) in (
      λ v h k. old-is (is_kept d) (references d) (new_number d v) v (references d) k refl (omega arith),
      λ v h. old-none (is_kept d) (references d) v (references d) (omega (arith, trimmed)) ∙ counted,
    )

pub trim-keeps-outputs : TrimKeepsOutputs
trim-keeps-outputs t w bytes e = ap (λ c. evaluate c bytes) (decode-trim t w) ∙ trim-evaluate (decode t) (valid-decode t w) bytes e

pub trim-keeps-depth : TrimKeepsDepth
trim-keeps-depth t w = ap circuit_depth (decode-trim t w) ∙ trim-circuit-depth (decode t) (valid-decode t w)

pub trim-keeps-critical-count : TrimKeepsCriticalCount
trim-keeps-critical-count t w = ap critical_count (decode-trim t w) ∙ trim-critical-count (decode t) (valid-decode t w)

pub trim-keeps-depths : TrimKeepsDepths
trim-keeps-depths t w v h e =
    let c = decode t in
    let ok = valid-decode t w in (
      ap (λ d. depth d (rank (is_kept c) v)) (decode-trim t w) ∙ trim-depth c ok v (rw (refs-decode t) h) e,
      ap (λ d. above d (rank (is_kept c) v)) (decode-trim t w) ∙ ap (λ x. x - 1) (trim-reverse-depth c ok v e),
      ap (λ d. is_live d (rank (is_kept c) v)) (decode-trim t w) ∙ ap (λ x. ltb 0 x) (trim-reverse-depth c ok v e),
    )

pub trimmed-is-live : TrimmedIsLive
trimmed-is-live t w i h =
    let c = decode t in
    let n = encode-inputs (trim c) in
    ap₂ (λ d k. is_live d (first_gate k + i)) (decode-trim t w) n
    ∙ each_at (λ m g. is_live (trim c) m ≡ true) (first_gate (trim c).inputs) (trim c).gates (trim-live c (valid-decode t w)) i (omega (arith, encode-gates (trim c)))

pub trim-of-trim : TrimOfTrim
trim-of-trim t w = ap encode (ap trim (decode-trim t w) ∙ trim-trim (decode t) (valid-decode t w))

-- ---- the calls

-- two tables of circuits with the same inputs, number of outputs and outputs' values: their checks are the same, and so is all that is given
-- where none applies
pub same-evaluation : (t t' : List ℕ) → WellFormed t → WellFormed t' → inputs t' ≡ inputs t → outputs t' ≡ outputs t
    → ((bytes : List ℕ) → length bytes ≡ inputs t → evaluate (decode t') bytes ≡ evaluate (decode t) bytes)
    → (input_bytes output_bytes : List ℕ) → evaluating t' input_bytes output_bytes ≡ evaluating t input_bytes output_bytes
unfolding evaluating
same-evaluation t t' w w' m n same i o =
    let checks : evaluate_checks t' i o ≡ evaluate_checks t i o =
    rw (whole t w.sized, whole t' w'.sized, well-formed-accepted t w, well-formed-accepted t' w', m) in
    ap (λ ks. afterwards (answering ks (outputs t' ∷ [])) o (over (evaluate (decode t') i) o)) checks
    ∙ outcome-same (evaluate_checks t i o) _ _ o _ _
    (λ p. (ap (λ k. k ∷ []) n, ap (λ bits. over bits o) (same i (eqb-true _ _ (not-false _ (check-passed _ 0 no_table p.1.1.1.0))))))

pub trim-keeps-calls : TrimKeepsCalls
trim-keeps-calls t w = (
  same-evaluation t (trim_of t) w (trimmed-is-well-formed t w) (trim-keeps-counts t w).0 (trim-keeps-counts t w).1 (trim-keeps-outputs t w),
  measurement-well-formed (trim_of t) (trimmed-is-well-formed t w)
      ∙ ap₂ (λ d n. gives (d ∷ n ∷ [])) (trim-keeps-depth t w) (trim-keeps-critical-count t w)
      ∙ sym (measurement-well-formed t w),
)
