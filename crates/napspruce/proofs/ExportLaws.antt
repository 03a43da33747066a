-- From what `rewrite` gives to what its export gives. Assumes nothing.
use mathlib.Core.Path.{◌≡◌, refl, sym, ap, ◌∙◌}
use mathlib.Core.Bool.{Bool}
use mathlib.Core.List.{List}
use mathlib.Core.Option.{none, some}
use Prim.Native.Nat.{ℕ}
use borrow.Author.Tests.{eq-eqb}
use Rattle.std.specs.Prelude.{Result as Returned, Ok, Err, MatchResult}
use Rattle.lists.specs.First.{first}
use Rattle.lines.specs.declared.refusing.Refusal.{Refusal as GivenRefusal}
use Rattle.lines.specs.Refusal.{Result, refused, gives, reason_number, table_number, Outcome}
use Rattle.rewriting.specs.declared.Rewriting.{Rewriting}
use Rattle.rewriting.specs.RewriteCall.{Lent, lent, values_of, paper_values, outcome_of}
use Rattle.napspruce.specs.Packing.{pack_refusal, pack, pack_rewriting}
use Rattle.napspruce.specs.Exports.{PackedOutcome, packed_leaving, rewriting_leaving, pack_rewriting_outcome}
use Rattle.napspruce.specs.Limits.{Within, rewrite_limits}
use Rattle.napspruce.proofs.PackingLaws.{refusal-told, rewriting-told}

module _ (result work verdicts : List ℕ) where
  -- what is left, with the working table if it is asked for
  abbrev left : Bool → ℕ → PackedOutcome Lent
  left b n = packed_leaving n (lent result (first b (some work) none) verdicts)

  leaves : (known : Result) → Within rewrite_limits known
      → rewriting_leaving (pack pack_rewriting known) result work verdicts ≡ pack_rewriting_outcome (outcome_of known result work verdicts)
  leaves (refused number table) w = ap (λ b. left b (pack_refusal number table)) (eq-eqb _ _ (refusal-told number table w.1 w.2))
  leaves (gives values) w = ap (λ b. left b (pack_rewriting values)) (rewriting-told values w)

  module _ (o : Outcome Lent) (w : Within rewrite_limits o.answer) where
    pub known-within : (answer known : Result) → outcome_of answer result work verdicts ≡ o → answer ≡ known → Within rewrite_limits known
    known-within answer known q e = rw (ap (λ (x : Outcome Lent). x.answer) (sym q) ∙ e) at w

    -- the answer packed by what `map_or_else` says of it
    pub rewriting-packed : (r : Returned Rewriting GivenRefusal) → outcome_of (paper_values r) result work verdicts ≡ o → (n : ℕ)
        → MatchResult r (λ x. n ≡ pack_rewriting (values_of x)) (λ e. n ≡ pack_refusal (reason_number e.reason) (table_number e.table))
        → rewriting_leaving n result work verdicts ≡ pack_rewriting_outcome o
    rewriting-packed r q n made =
        ap (λ x. rewriting_leaving x result work verdicts) (packed r made)
        ∙ leaves (paper_values r) (known-within (paper_values r) _ q refl) ∙ ap pack_rewriting_outcome q
      where
        packed : (r : Returned Rewriting GivenRefusal)
            → MatchResult r (λ x. n ≡ pack_rewriting (values_of x)) (λ e. n ≡ pack_refusal (reason_number e.reason) (table_number e.table))
            → n ≡ pack pack_rewriting (paper_values r)
        packed (Ok x) p = p
        packed (Err e) p = p
