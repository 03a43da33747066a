-- What is known after the reading, and after the writing. Assumes nothing.
use mathlib.Core.Path.{◌≡◌, sym, ap, ◌∙◌}
use mathlib.Core.List.{List, [], ◌∷◌}
use Prim.Native.Nat.{ℕ, ◌*◌, ◌≤◌}
use native.Mathlib.Omega.{arith}
use lib.ListN.{length, take}
use lib.Seq.{length-take-le}
use Rattle.lines.specs.Line.{is_line, read_line}
use Rattle.lines.specs.Refusal.{Result, refused, gives, Outcome, leaving}
use Rattle.lines.specs.Calls.{reading, writing}
use Rattle.lines.specs.RecordLaws.{row-length}
use Rattle.lines.proofs.CallLaws.{Converted, converted, converted-length}
use Rattle.lines.proofs.Theorems.{write-call-after-read}
use Rattle.cases.specs.Recoding.{writing_back, recoding}

pub refused-so : (text table after : List ℕ) (number fault : ℕ) (out : List ℕ) → leaving (refused number fault) after ≡ reading text table
    → leaving (refused number fault) out ≡ recoding text table out
unfolding recoding
refused-so text table after number fault out q = ap (λ (o : Outcome (List ℕ)). writing_back o.answer text out) q

module _ (text table after : List ℕ) (n : ℕ) (q : leaving (gives (n ∷ [])) after ≡ reading text table) where
  success : (reading text table).answer ≡ gives (n ∷ [])
  success = ap (λ o. o.answer) (sym q)

  pub table_is : after ≡ (reading text table).buffers
  table_is = ap (λ o. o.buffers) q

  pub read-so : Converted 19 3 is_line read_line text table (reading text table).buffers n
  read-so = converted 19 3 is_line read_line text table row-length n success

  pub long-so : length text ≡ 19 * n
  long-so = read-so.valid.whole.long

  pub room-so : 3 * n ≤ length after
  room-so =
      let long = converted-length 19 3 is_line read_line row-length text table (reading text table).buffers n read-so in
      omega (arith, ap length table_is, long, read-so.room)

  pub taken-so : 3 * n ≡ length (take (3 * n) after)
  taken-so = sym (length-take-le _ _ room-so)

  pub written-so : (o : Outcome (List ℕ)) (out : List ℕ) → o ≡ writing (take (3 * n) after) out → o ≡ recoding text table out
  unfolding recoding
  written-so o out w =
      w ∙ ap (λ (x : List ℕ). writing (take (3 * n) x) out) table_is ∙ write-call-after-read text table out n success
      ∙ ap (λ (x : Result). writing_back x text out) (sym success)
