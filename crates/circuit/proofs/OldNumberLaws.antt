-- Which reference has a new number, and the loop that looks for it. Assumes nothing.
use mathlib.Core.Path.{◌≡◌, refl, sym, ap, ◌∙◌}
use mathlib.Core.Bool.{Bool, true, false, and-false}
use mathlib.Core.List.{List}
use Prim.Native.Nat.{ℕ, zero, suc, ◌+◌, ◌≤◌, ◌<◌}
use mir.Val.{bool_byte}
use native.Mathlib.Nat.{not-suc-le-zero}
use native.Mathlib.Decide.{ℕ_discrete}
use native.Mathlib.Omega.{arith}
use lib.Dec.{ltb}
use lib.ListN.{take, get_or}
use borrow.Author.Tests.{eq-eqb, ne_eqb}
use Rattle.lists.proofs.Maps.{take-read}
use Rattle.circuit.specs.Circuit.{first_gate, references}
use Rattle.circuit.specs.Table.{inputs, refs, decode}
use Rattle.circuit.specs.ReverseDepth.{reverse_depths}
use Rattle.circuit.specs.Trim.{rank, is_kept, old_below, old_number}
use Rattle.circuit.proofs.TableLaws.{refs-decode}
use Rattle.circuit.proofs.RankLaws.{rank-kept, rank-gone, rank-suc, rank_mono, rank_lt, rank-id, rank-le}
use Rattle.circuit.proofs.ReverseDepthLaws.{kept_low}
use Rattle.circuit.proofs.KeptLaws.{gate-kept}

module _ (kept : ℕ → Bool) (beyond v : ℕ) where
  -- no other has it
  pub old-is : (w n : ℕ) → kept w ≡ true → rank kept w ≡ v → w < n → old_below kept beyond v n ≡ w
  unfolding old_below
  old-is w zero k e h = absurd (not-suc-le-zero h)
  old-is w (suc n) k e h =
      elim (ℕ_discrete n w) [
        | yes q ↦ rw (q, k, eq-eqb (rank kept w) v e)
        | no q ↦
            let l : w < n = omega arith in
            rw (ne_eqb (rank kept n) v (λ x. omega (arith, rank_lt kept w n k l)), and-false (kept n)) (old-is w n k e l)
      ]

  pub old-none : (n : ℕ) → rank kept n ≤ v → old_below kept beyond v n ≡ beyond
  unfolding old_below
  old-none zero h = refl
  old-none (suc n) h = go (kept n) refl (old-none n (omega (arith, rank_mono kept n (suc n) (omega arith))))
    where
      go : (b : Bool) → kept n ≡ b → old_below kept beyond v n ≡ beyond → old_below kept beyond v (suc n) ≡ beyond
      go true k ih = rw (k, ne_eqb (rank kept n) v (λ x. omega (arith, rank-suc kept n k))) ih
      go false k ih = rw k ih

-- ---- the loop over the gates

-- It has come to reference w, whose new number, if it is kept, is `next`; no reference before it has v.
pub record SoughtTo (t : List ℕ) (v next w : ℕ) : Type 0 where
  pub low : first_gate (inputs t) ≤ w
  pub follows : next ≡ rank (is_kept (decode t)) w
  pub unmet : next ≤ v

module _ (t : List ℕ) (v : ℕ) where
  -- constants and inputs keep their numbers
  pub sought-low : v < first_gate (inputs t) → v ≡ old_number (decode t) v
  sought-low h =
      let c = decode t in
      sym (old-is (is_kept c) (references c) v v (references c) (kept_low c v h) (rank-id (is_kept c) v (λ r l. kept_low c r (omega arith))) (omega arith))

  pub sought-none : (n : ℕ) → n ≡ first_gate (inputs t) → n ≤ v → SoughtTo t v n n
  sought-none n e h =
      record {
        low = omega arith;
        follows = rw e (sym (rank-id (is_kept (decode t)) (first_gate (inputs t)) (kept_low (decode t))));
        unmet = h;
      }

  module _ (next w : ℕ) (s : SoughtTo t v next w) where
    pub sought-all : w ≡ refs t → w ≡ old_number (decode t) v
    sought-all e =
        let c = decode t in
        let n : w ≡ references c = e ∙ sym (refs-decode t) in
        n ∙ sym (old-none (is_kept c) (references c) v (references c) (omega (arith, s.follows, s.unmet, ap (rank (is_kept c)) n)))

    module _ (u : List ℕ) (e : take (refs t) u ≡ reverse_depths (decode t)) (h : w < refs t) where
      read : ltb 0 (get_or u w 0) ≡ is_kept (decode t) w
      read = ap (ltb 0) (take-read (refs t) u (reverse_depths (decode t)) w 0 e h) ∙ sym (gate-kept (decode t) w s.low)

      -- reference w counted, if it is kept
      pub sought-here : v < next + bool_byte (ltb 0 (get_or u w 0)) → w ≡ old_number (decode t) v
      sought-here = go (ltb 0 (get_or u w 0)) read
        where
          go : (b : Bool) → b ≡ is_kept (decode t) w → v < next + bool_byte b → w ≡ old_number (decode t) v
          go true k l =
              let c = decode t in
              let q : rank (is_kept c) w ≡ v = omega (arith, l, s.follows, s.unmet) in
              sym (old-is (is_kept c) (references c) v w (references c) (sym k) q (omega (arith, refs-decode t)))
          go false k l = let z : ⊥ = omega (arith, l, s.unmet) in absurd z

      pub sought-more : next + bool_byte (ltb 0 (get_or u w 0)) ≤ v → SoughtTo t v (next + bool_byte (ltb 0 (get_or u w 0))) (w + 1)
      sought-more l =
          record {
            low = omega (arith, s.low);
            follows = go (ltb 0 (get_or u w 0)) read;
            unmet = l;
          }
        where
          go : (b : Bool) → b ≡ is_kept (decode t) w → next + bool_byte b ≡ rank (is_kept (decode t)) (w + 1)
          go true k = ap (λ x. x + 1) s.follows ∙ sym (rank-kept (is_kept (decode t)) w (sym k))
          go false k = omega (arith, s.follows, rank-gone (is_kept (decode t)) w (sym k))

    pub sought-fits : (b : Bool) → next + bool_byte b ≤ w + 1
    sought-fits true = omega (arith, s.follows, rank-le (is_kept (decode t)) w)
    sought-fits false = omega (arith, s.follows, rank-le (is_kept (decode t)) w)
