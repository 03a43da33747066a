-- The words of the constants and holes as the code makes them, in an array's front: the masks of the first six holes, and behind them, for
-- each other hole, a word whose bits are all equal. Assumes nothing.
use mathlib.Core.Path.{◌≡◌, refl, sym, ap, ap₂, ◌∙◌}
use mathlib.Core.List.{List, [], ◌∷◌, ◌++◌}
use Prim.Native.Nat.{ℕ, suc, ◌+◌, ◌*◌, ◌-◌, ◌≤◌, ◌<◌}
use native.Mathlib.Nat.{zero-add}
use native.Mathlib.Numerals.{add-one}
use native.Mathlib.Omega.{arith}
use lib.ListN.{length, take, set, replicate}
use lib.Seq.{take-take, take-suc-set}
use Rattle.lists.specs.Below.{map_below}
use Rattle.lists.proofs.Below.{below-take, below-same}
use Rattle.circuit.specs.Circuit.{first_gate}
use Rattle.rules.specs.Rule.{max_left_references}
use Rattle.rules.specs.Soundness.{bit}
use Rattle.rules.specs.Words.{word_of, ones_word, hole_word, start_words, masked_holes, assignments_per_word}
use Rattle.rules.proofs.WordLaws.{bit-lt, bit-low, bit_high, word_same}

-- ---- an array's front

-- those of fewer holes are the first of those of more
pub fewer-words : (n from h k : ℕ) (d : List ℕ) → h ≤ k → take (first_gate k) d ≡ start_words n from k → take (first_gate h) d ≡ start_words n from h
fewer-words n from h k d l e =
    let q : first_gate h ≡ suc (suc h) = omega arith in
    sym (take-take (first_gate h) (first_gate k) d (omega arith))
    ∙ ap (take (first_gate h)) e ∙ ap (λ i. take i (start_words n from k)) q
    ∙ ap (λ x. 0 ∷ ones_word n ∷ x) (below-take (hole_word n from) h k l)

-- one hole more
pub next_word : (n from j x : ℕ) (d : List ℕ) → first_gate j < length d → take (first_gate j) d ≡ start_words n from j → x ≡ hole_word n from j
    → take (first_gate (j + 1)) (set d (first_gate j) x) ≡ start_words n from (j + 1)
unfolding map_below
next_word n from j x d room e q =
    let s : first_gate (j + 1) ≡ suc (first_gate j) = omega arith in
    ap (λ i. take i (set d (first_gate j) x)) s ∙ take-suc-set d (first_gate j) x room ∙ ap₂ (λ l y. l ++ (y ∷ [])) e q
    ∙ ap (λ i. start_words n from i) (sym (add-one j))

-- ---- masks, and words whose bits are all equal

-- each block of assignments has the same masks
pub masked-words : (w : ℕ) → start_words assignments_per_word 0 masked_holes ≡ start_words assignments_per_word (w * assignments_per_word) masked_holes
masked-words w =
    ap (λ x. 0 ∷ ones_word assignments_per_word ∷ x) (below-same _ _ masked_holes (λ j h. word_same _ _ assignments_per_word (λ a l.
    ap (bit j) (zero-add a) ∙ sym (bit-low masked_holes j w a h))))

-- any other hole has one bit in all assignments of a block
high_bits : (i w : ℕ) → hole_word assignments_per_word (w * assignments_per_word) (masked_holes + i) ≡ word_of (λ a. bit i w) assignments_per_word
high_bits i w = word_same _ _ assignments_per_word (λ a l. bit_high masked_holes i w a l)

module _ (j w : ℕ) (h : masked_holes ≤ j) where
  high_word : (b : ℕ) → bit (j - masked_holes) w ≡ b → word_of (λ a. b) assignments_per_word ≡ hole_word assignments_per_word (w * assignments_per_word) j
  high_word b e =
      let q : masked_holes + (j - masked_holes) ≡ j = omega arith in
      ap (λ b. word_of (λ a. b) assignments_per_word) (sym e) ∙ sym (high_bits (j - masked_holes) w) ∙ ap (hole_word assignments_per_word (w * assignments_per_word)) q

  pub high_ones : bit (j - masked_holes) w ≡ 1 → 0xffff_ffff_ffff_ffff ≡ hole_word assignments_per_word (w * assignments_per_word) j
  unfolding word_of
  high_ones e = high_word 1 e

  pub high-zeros : (bit (j - masked_holes) w ≡ 1 → ⊥) → 0 ≡ hole_word assignments_per_word (w * assignments_per_word) j
  unfolding word_of
  high-zeros e = high_word 0 (omega (arith, e, bit-lt (j - masked_holes) w))

-- the words of the constants and masks, of 64 bits each, at the front of an array of as many places as a left side has references
abbrev pub masks : List ℕ
masks =
    0 ∷ 0xffff_ffff_ffff_ffff ∷ 0xaaaa_aaaa_aaaa_aaaa ∷ 0xcccc_cccc_cccc_cccc ∷ 0xf0f0_f0f0_f0f0_f0f0 ∷ 0xff00_ff00_ff00_ff00
    ∷ 0xffff_0000_ffff_0000 ∷ 0xffff_ffff_0000_0000 ∷ []

pub masks-take : take (first_gate masked_holes) (masks ++ replicate (max_left_references - first_gate masked_holes) 0) ≡ start_words assignments_per_word 0 masked_holes
unfolding word_of map_below
masks-take = refl
