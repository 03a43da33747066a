-- The call `translate`: its last test, and what a success says. Assumes nothing.
use mathlib.Core.Path.{◌≡◌, sym, ap, ap₂, ◌∙◌}
use mathlib.Core.Bool.{not}
use mathlib.Core.List.{List, [], ◌∷◌, ◌++◌}
use Prim.Native.Nat.{ℕ, ◌≤◌, ◌<◌}
use native.Mathlib.Omega.{arith}
use lib.ListN.{length, get_or}
use borrow.Author.Tests.{lt-ltb, le-leb, le-ltb, ltb-false}
use Rattle.lists.proofs.Tests.{both}
use Rattle.lines.specs.Refusal.{Refusal, refused, gives, no_table, leaving}
use Rattle.lines.specs.Checks.{found, buffers_after, afterwards}
use Rattle.lines.specs.Calls.{over}
use Rattle.lines.proofs.CheckLaws.{check-passes, check-passed, applies-here, Passed, answer-given, answer-behind, outcome-refused, outcome-gives}
use Rattle.circuit.specs.Circuit.{Circuit}
use Rattle.circuit.specs.Table.{decode}
use Rattle.circuit.specs.Refusal.{refusal}
use Rattle.circuit.specs.Trim.{trim, trim_of}
use Rattle.circuit.specs.WellFormed.{WellFormed}
use Rattle.circuit.proofs.RefusalLaws.{whole, accepted-is-well-formed}
use Rattle.circuit.proofs.ValidLaws.{valid-decode}
use Rattle.circuit.proofs.TrimLaws.{trim-trim}
use Rattle.circuit.proofs.TrimTheorems.{decode-trim}
use Rattle.translator.specs.Machine.{max_registers}
use Rattle.translator.specs.Need.{need}
use Rattle.translator.specs.Program.{program, encode_program}
use Rattle.translator.specs.TranslateCall.{program_numbers, translate_checks, need_checks, translated, translating}

-- ---- the last test and the work, of a trimmed circuit c, where n is the need

module _ (c : Circuit) (limit : ℕ) (buffer : List ℕ) (n : ℕ) (e : n ≡ need c) where
  pub needs-more : limit < n → (r : Refusal) → r ≡ found 10 no_table → leaving (refused r.number r.table) buffer ≡ translated (need_checks limit c) c buffer
  needs-more h r q =
      outcome-refused (need_checks limit c) _ buffer _ r (applies-here _ _ _ _ r (lt-ltb limit (need c) (omega arith)) q)
      (λ z. let y : ◌≡◌ {A = ℕ} 10 0 = ap (λ (x : Refusal). x.number) (sym q) ∙ z in absurd (omega arith))

  pub needs-no-more : n ≤ limit → (count : ℕ) (after : List ℕ) → count ≡ length (program c) → after ≡ over (encode_program (program c)) buffer
      → leaving (gives (count ∷ n ∷ [])) after ≡ translated (need_checks limit c) c buffer
  needs-no-more h count after q o =
      outcome-gives (need_checks limit c) _ buffer _ (check-passes _ 10 no_table (le-ltb limit (need c) (omega arith)), tt) _ _ (ap₂ (λ x y. gives (x ∷ y ∷ [])) q e) o

-- and so of any circuit, where all tests before were passed
pub translation-accepted : (t : List ℕ) (limit : ℕ) (buffer : List ℕ) → Passed (translate_checks t limit buffer)
    → translated (need_checks limit (trim (decode t))) (trim (decode t)) buffer ≡ translating t limit buffer
unfolding translating
translation-accepted t limit buffer p =
    let c = trim (decode t) in
    ap (λ r. afterwards r buffer (over (encode_program (program c)) buffer)) (sym (answer-behind (need_checks limit c) (translate_checks t limit buffer) _ p))

-- which they are by a table that is not refused, a long buffer and a limit from 1 to 1,024
pub checks-pass : (t : List ℕ) (limit : ℕ) (buffer : List ℕ) → WellFormed t → program_numbers ≤ length buffer → 1 ≤ limit → limit ≤ max_registers
    → Passed (translate_checks t limit buffer)
checks-pass t limit buffer w room low high = (
  check-passes _ 1 _ (whole t w.sized),
  (
    check-passes _ 2 _ (le-ltb _ _ room),
    (
      (accepted-is-well-formed t).1 w,
      (check-passes _ 9 _ (ap not (both (le-leb 1 limit low) (le-leb limit max_registers high))), tt),
    ),
  ),
)

-- trimming the trimmed table again changes nothing
pub trimmed-again : (t : List ℕ) → WellFormed t → trim (decode (trim_of t)) ≡ decode (trim_of t)
trimmed-again t w = ap trim (decode-trim t w) ∙ trim-trim (decode t) (valid-decode t w) ∙ sym (decode-trim t w)

-- ---- what a success says

pub record Translation (t : List ℕ) (limit : ℕ) (buffer after : List ℕ) (count n : ℕ) : Type 0 where
  pub accepted : refusal t ≡ 0
  pub enough : need (trim (decode t)) ≤ limit
  pub counted : count ≡ length (program (trim (decode t)))
  pub needed : n ≡ need (trim (decode t))
  pub written : after ≡ over (encode_program (program (trim (decode t)))) buffer

pub translation-is : (t : List ℕ) (limit : ℕ) (buffer after : List ℕ) (count n : ℕ)
    → translating t limit buffer ≡ leaving (gives (count ∷ n ∷ [])) after → Translation t limit buffer after count n
unfolding translating
translation-is t limit buffer after count n e =
    let c = trim (decode t) in
    let a = ap (λ o. o.answer) e in
    let (p, v) = answer-given (translate_checks t limit buffer ++ need_checks limit c) _ _ a in
    record {
      accepted = p.1.1.0;
      enough = ltb-false limit (need c) (check-passed _ 9 _ p.1.1.1.1.0);
      counted = ap (λ l. get_or l 0 0) v;
      needed = ap (λ l. get_or l 1 0) v;
      written = sym (ap (λ o. o.buffers) e) ∙ ap (λ r. buffers_after r buffer (over (encode_program (program c)) buffer)) a;
    }
