-- The listing put together behind a circuit's lines, and written; the line of a refusal. Assumes nothing.
use mathlib.Core.Path.{◌≡◌, refl, sym, ap, ◌∙◌}
use mathlib.Core.List.{List, [], ◌∷◌, ◌++◌}
use Prim.Native.Nat.{ℕ, ◌+◌, ◌*◌, ◌≤◌}
use native.Mathlib.Omega.{arith}
use lib.ListN.{length, take, drop, length-append}
use lib.Seq.{sets, sets-eq, length-sets, length-take-le, take_at}
use Rattle.lists.specs.Records.{map_records}
use Rattle.lists.proofs.Stores.{sets-append}
use Rattle.lines.specs.Line.{write_line}
use Rattle.lines.specs.Text.{write_table}
use Rattle.lines.specs.Calls.{over}
use Rattle.lines.proofs.TextLaws.{bytes-length, rows_written}
use Rattle.napspruce.specs.declared.numbers.Summary.{Summary}
use Rattle.napspruce.specs.Printed.{refusal_kind}
use Rattle.napspruce.specs.Listing.{summary, verdict_lines, listing_lines}
use Rattle.napspruce.proofs.ListingLaws.{summary-length, verdicts-length}

-- ---- the lines behind those of a circuit, which end at place `at`

module _ (t₀ t₁ t₂ : List ℕ) (at count n : ℕ) (s : Summary) (verdicts : List ℕ) (fits : at + 9 + 3 * count ≤ length t₀) (some : length verdicts ≡ count)
    (e : 3 * n ≡ at + 9 + 3 * count) (stored : t₁ ≡ sets t₀ at (summary s)) (listed : t₂ ≡ sets t₁ (at + 9) (verdict_lines 1 verdicts)) where
  behind-length : length (summary s ++ verdict_lines 1 verdicts) ≡ 9 + 3 * count
  behind-length = length-append (summary s) (verdict_lines 1 verdicts) ∙ omega (arith, summary-length s, verdicts-length 1 verdicts)

  lines-length : length (listing_lines (take at t₀) s verdicts) ≡ 3 * n
  lines-length =
      length-append (take at t₀) (summary s ++ verdict_lines 1 verdicts) ∙ omega (arith, behind-length, length-take-le at t₀ (omega arith))

  lines_stored : take (3 * n) t₂ ≡ listing_lines (take at t₀) s verdicts
  lines_stored =
      let behind = summary s ++ verdict_lines 1 verdicts in
      let whole : t₂ ≡ take at t₀ ++ behind ++ drop (at + length behind) t₀ =
      listed ∙ ap (λ d. sets d (at + 9) (verdict_lines 1 verdicts)) stored
      ∙ sets-append (summary s) (verdict_lines 1 verdicts) t₀ at 9 (summary-length s) ∙ sets-eq behind t₀ at (omega (arith, behind-length)) in
      ap (take (3 * n)) whole ∙ take_at (take at t₀ ++ behind) (drop (at + length behind) t₀) (3 * n) lines-length

  stored-length : length t₂ ≡ length t₀
  stored-length = ap length listed ∙ length-sets t₁ (at + 9) (verdict_lines 1 verdicts) ∙ ap length stored ∙ length-sets t₀ at (summary s)

  pub listing-length : 19 * n ≡ length (write_table (listing_lines (take at t₀) s verdicts))
  listing-length = sym (bytes-length (listing_lines (take at t₀) s verdicts) n lines-length)

  pub listing-written : (buffer after : List ℕ) → after ≡ map_records write_line 3 n t₂ ++ drop (19 * n) buffer
      → after ≡ over (write_table (listing_lines (take at t₀) s verdicts)) buffer
  listing-written buffer after q = rows_written t₂ n (omega (arith, stored-length)) buffer after q ∙ ap (λ x. over (write_table x) buffer) lines_stored

-- ---- the line of a refusal

pub refusal-length : (number table : ℕ) → 19 ≡ length (write_table (refusal_kind ∷ number ∷ table ∷ []))
refusal-length number table = sym (bytes-length (refusal_kind ∷ number ∷ table ∷ []) 1 refl)

pub refusal-written : (number table : ℕ) (buffer after : List ℕ) → after ≡ map_records write_line 3 1 (refusal_kind ∷ number ∷ table ∷ []) ++ drop 19 buffer
    → after ≡ over (write_table (refusal_kind ∷ number ∷ table ∷ [])) buffer
refusal-written number table = rows_written (refusal_kind ∷ number ∷ table ∷ []) 1 (omega arith)
