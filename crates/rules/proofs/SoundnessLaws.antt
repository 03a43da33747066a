-- Soundness: the assignments below 2 to the power of the holes are all assignments of bits, and words of them stand for each one.
-- Over any number of holes and of assignments. Assumes nothing.
use mathlib.Core.Path.{◌≡◌, refl, sym, ap, ap₂, ◌∙◌}
use mathlib.Core.Bool.{true, false, true≢false}
use mathlib.Core.List.{List, [], ◌∷◌, ◌++◌, map, map-append}
use Prim.Native.Nat.{ℕ, zero, suc, ◌+◌, ◌*◌, ◌-◌, ◌^◌, ◌≤◌, ◌<◌}
use native.Mathlib.Decide.{dec_lt}
use native.Mathlib.Omega.{arith}
use lib.ListN.{get_or}
use lib.Pow.{pow_pos, pow_mono, pow-add}
use borrow.Author.Tests.{eqb-true, eq-eqb}
use Rattle.lists.specs.Each.{append_each}
use Rattle.lists.specs.Below.{all_below, map_below}
use Rattle.lists.proofs.Tests.{same_test, left-of, right_of}
use Rattle.lists.proofs.Below.{below_at, below_of, below_each, below-map, below-same}
use Rattle.circuit.specs.Circuit.{Gate}
use Rattle.circuit.specs.Fold.{gate_value, fold_gates}
use Rattle.circuit.specs.Evaluation.{bit_op}
use Rattle.circuit.proofs.FoldLaws.{fold-keeps}
use Rattle.rules.specs.Rule.{Rule, root}
use Rattle.rules.specs.Soundness.{bit, side_value, start_holes, left_value, right_value, assignment, agrees_at, is_sound}
use Rattle.rules.specs.Words.{word_of, hole_word, start_words, left_word, right_word, same_words, all_same_words, masked_holes, assignments_per_word, words_for}
use Rattle.rules.specs.Theorems.{SoundIsAgreement, WordsStandForAssignments, WordsJudge, WordsJudgeAtEachSize}
use Rattle.rules.proofs.WordLaws.{bit-lt, bit-zero, bit-gate, gate-width, bits-same, word_width, word-bit}

-- ---- a map that goes through the operation goes through the fold

module _ {A B : Type 0} (f : A → B) (op : ℕ → A → A → A) (op' : ℕ → B → B → B) (z : A) (z' : B)
    (fz : f z ≡ z') (hom : (k : ℕ) (a b : A) → f (op k a b) ≡ op' k (f a) (f b)) where
  map_at : (vs : List A) (r : ℕ) → get_or (map f vs) r z' ≡ f (get_or vs r z)
  map_at [] r = sym fz
  map_at (v ∷ vs) zero = refl
  map_at (v ∷ vs) (suc r) = map_at vs r

  pub fold-map : (gs : List Gate) (vs : List A) → map f (fold_gates op z gs vs) ≡ fold_gates op' z' gs (map f vs)
  unfolding append_each
  fold-map [] vs = refl
  fold-map (g ∷ gs) vs =
      fold-map gs (vs ++ (gate_value op z g vs ∷ []))
      ∙ ap (fold_gates op' z' gs) (map-append f vs (gate_value op z g vs ∷ [])
      ∙ ap (λ x. map f vs ++ (x ∷ [])) (hom g.kind _ _ ∙ ap₂ (op' g.kind) (sym (map_at vs g.left)) (sym (map_at vs g.right))))

  -- the value of a reference
  pub fold-value : (gs : List Gate) (vs : List A) (r : ℕ) → f (get_or (fold_gates op z gs vs) r z) ≡ get_or (fold_gates op' z' gs (map f vs)) r z'
  fold-value gs vs r = sym (map_at (fold_gates op z gs vs) r) ∙ ap (λ l. get_or l r z') (fold-map gs vs)

-- ---- a word stands for the n assignments from `from` on

words-bit : (n from holes a : ℕ) → a < n → map (bit a) (start_words n from holes) ≡ start_holes holes (assignment (from + a))
words-bit n from holes a l =
    ap₂ (λ x y. x ∷ y ∷ map (bit a) (map_below (hole_word n from) holes)) (bit-zero a) (word-bit (λ a. 1) n (λ a h. omega arith) a l)
    ∙ ap (λ l. 0 ∷ 1 ∷ l) (below-map (bit a) (hole_word n from) holes
    ∙ below-same _ _ holes (λ j k. word-bit (λ a. assignment (from + a) j) n (λ a h. bit-lt j (from + a)) a l))

pub words-stand-for-assignments : WordsStandForAssignments
words-stand-for-assignments n from holes gs r a l =
    fold-value (bit a) bit_op bit_op 0 0 (bit-zero a) (bit-gate a) gs (start_words n from holes) r ∙ ap (side_value gs r) (words-bit n from holes a l)

words-width : (n from holes r : ℕ) → get_or (start_words n from holes) r 0 < 2 ^ n
words-width n from holes zero = pow_pos n
words-width n from holes (suc zero) = word_width (λ a. 1) n (λ a h. omega arith)
words-width n from holes (suc (suc r)) =
    below_each (hole_word n from) (λ x. x < 2 ^ n) 0 (pow_pos n) holes
    (λ j h. word_width (λ a. assignment (from + a) j) n (λ a h. bit-lt j (from + a))) r

side-width : (n from holes : ℕ) (gs : List Gate) (r : ℕ) → side_value gs r (start_words n from holes) < 2 ^ n
side-width n from holes gs r =
    fold-keeps bit_op 0 (λ x. x < 2 ^ n) (pow_pos n) (gate-width n) gs (start_words n from holes) (words-width n from holes) r

-- ---- assignments of bits

-- an assignment of bits is that of the number whose bits they are
numbered : (holes : ℕ) (σ : ℕ → ℕ) → ((j : ℕ) → j < holes → σ j < 2) → start_holes holes (assignment (word_of σ holes)) ≡ start_holes holes σ
numbered holes σ h = ap (λ l. 0 ∷ 1 ∷ l) (below-same _ _ holes (λ j l. word-bit σ holes h j l))

pub sound-is-agreement : SoundIsAgreement
unfolding is_sound
sound-is-agreement u = (
  λ s σ h.
      let a = word_of σ u.holes in
      let e : left_value u (assignment a) ≡ right_value u (assignment a) =
      eqb-true _ _ (below_at (agrees_at u) (2 ^ u.holes) a s (word_width σ u.holes h)) in
      let n = numbered u.holes σ h in
      ap (side_value u.lefts (root u)) (sym n) ∙ e ∙ ap (side_value u.rights u.closing) n,
  λ f. below_of (agrees_at u) (2 ^ u.holes) (λ a l. eq-eqb _ _ (f (assignment a) (λ j h. bit-lt j a))),
)

-- ---- the words of a rule

module _ (u : Rule) (n : ℕ) where
  module _ (from : ℕ) where
    left-bit : (a : ℕ) → a < n → bit a (left_word n from u) ≡ left_value u (assignment (from + a))
    left-bit = words-stand-for-assignments n from u.holes u.lefts (root u)

    right-bit : (a : ℕ) → a < n → bit a (right_word n from u) ≡ right_value u (assignment (from + a))
    right-bit = words-stand-for-assignments n from u.holes u.rights u.closing

    -- equal words: both sides agree at each of their assignments
    word-agrees : same_words n from u ≡ true → (a : ℕ) → a < n → agrees_at u (from + a) ≡ true
    word-agrees e a l = eq-eqb _ _ (sym (left-bit a l) ∙ ap (bit a) (eqb-true _ _ e) ∙ right-bit a l)

    -- of a sound rule all words are equal
    sound-word : is_sound u ≡ true → same_words n from u ≡ true
    sound-word s =
        eq-eqb _ _ (bits-same n _ _ (side-width n from u.holes u.lefts (root u)) (side-width n from u.holes u.rights u.closing)
        (λ a l. left-bit a l ∙ (sound-is-agreement u).0 s (assignment (from + a)) (λ j h. bit-lt j (from + a)) ∙ sym (right-bit a l)))

    -- a word that differs ends the judgement
    pub word-differs : same_words n from u ≡ false → false ≡ is_sound u
    word-differs e = same_test false (is_sound u) (λ q. absurd (true≢false (sym q))) (λ s. sym e ∙ sound-word s)

  words-agree-all : (w : ℕ) → all_same_words n w u ≡ true → (a : ℕ) → a < w * n → agrees_at u a ≡ true
  unfolding all_below
  words-agree-all zero e a l = absurd (omega arith)
  words-agree-all (suc w) e a l =
      elim (dec_lt a (w * n)) [
        | yes h ↦ words-agree-all w (left-of (all_same_words n w u) _ e) a h
        | no h ↦
            let q : w * n + (a - w * n) ≡ a = omega arith in
            ap (agrees_at u) (sym q) ∙ word-agrees (w * n) (right_of (all_same_words n w u) _ e) (a - w * n) (omega arith)
      ]

pub words-judge : WordsJudge
unfolding is_sound
words-judge u n k room =
    same_test (all_same_words n k u) (is_sound u)
    (λ e. below_of (agrees_at u) (2 ^ u.holes) (λ a l. words-agree-all u n k e a (omega arith)))
    (λ s. below_of (λ w. same_words n (w * n) u) k (λ w l. sound-word u n (w * n) s))

-- the code's words have a bit for each assignment
pub words-judge-at-each-size : WordsJudgeAtEachSize
words-judge-at-each-size u =
    words-judge u assignments_per_word (words_for u.holes)
    (rw (sym (pow-add 2 (u.holes - masked_holes) masked_holes)) (pow_mono {i = u.holes} {j = u.holes - masked_holes + masked_holes} (omega arith)))

-- the assignments of the masked holes fill one word
pub one_word : (holes : ℕ) → holes ≤ masked_holes → 1 ≡ words_for holes
one_word holes h =
    let e : 0 ≡ holes - masked_holes = omega arith in
    ap (λ k. 2 ^ k) e
