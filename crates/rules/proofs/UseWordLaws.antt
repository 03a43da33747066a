-- Words whose bits are the references that gates use: the loop that marks them, and the compare that is refusal 8. Assumes nothing.
use mathlib.Core.Path.{◌≡◌, refl, sym, ap, ap₂, ◌∙◌}
use mathlib.Core.Bool.{Bool, true, false, ◌&&◌, ◌||◌, and-true, and-false, or-false, or_assoc}
use mathlib.Core.List.{List, ◌∷◌}
use Prim.Native.Nat.{ℕ, zero, suc, ◌+◌, ◌*◌, ◌-◌, ◌/◌, ◌%◌, ◌^◌, ◌≤◌, ◌<◌}
use native.Mathlib.Nat.{mod-lt, mod-one, one-mul}
use native.Mathlib.Numerals.{one-add}
use native.Mathlib.Omega.{arith}
use lib.Bits.{bit_and, bit_or, or_shr, or_mod, and_high}
use lib.Dec.{eqb, ltb}
use lib.ListN.{length, drop, drop_of_length-le}
use lib.Pow.{pow_pos, shl_exact, shr-shr, mod-pow-add, high_ones}
use borrow.Author.Tests.{eq-eqb, ne_eqb, eqb-true, ltb-false}
use Rattle.lists.specs.Below.{all_below}
use Rattle.lists.specs.First.{first}
use Rattle.lists.proofs.Tests.{same_test}
use Rattle.circuit.specs.Circuit.{Gate, constants, first_gate}
use Rattle.circuit.specs.Path.{is_operand, is_used}
use Rattle.circuit.specs.Table.{lines_of}
use Rattle.circuit.proofs.TableLaws.{lines-length}
use Rattle.rules.specs.Soundness.{bit}
use Rattle.rules.specs.Rule.{Rule, root, hole}
use Rattle.rules.specs.RuleTable.{holes_at, lefts_at, left_from, rule_at}
use Rattle.rules.specs.RuleRefusal.{hole_used, uses_ok}
use Rattle.rules.specs.WellFormed.{RuleSized}
use Rattle.rules.specs.UseWord.{word_bits, has_bit, mark, MarksUses, owed}
use Rattle.rules.proofs.WordLaws.{bit-lt, bit-zero, bit-suc}
use Rattle.rules.proofs.UseLaws.{uses-below}

-- two compares are one where each says what the other says
same-compare : (a b c d : ℕ) → (a ≡ b → c ≡ d) → (c ≡ d → a ≡ b) → eqb a b ≡ eqb c d
same-compare a b c d f g = same_test (eqb a b) (eqb c d) (λ q. eq-eqb c d (f (eqb-true a b q))) (λ q. eq-eqb a b (g (eqb-true c d q)))

-- ---- bits

-- a bit that a word has is not shifted out of it
pub shift_one : (r : ℕ) → r < word_bits → 1 * 2 ^ r % 2 ^ word_bits ≡ 2 ^ r
shift_one r h = shl_exact {a = 1} 1 r word_bits (omega arith) (omega arith) ∙ one-mul (2 ^ r)

or-bit : (r x y : ℕ) → has_bit r (bit_or x y) ≡ (has_bit r x || has_bit r y)
or-bit r x y =
    ap (λ b. eqb b 1) (ap (λ w. w % 2) (or_shr x y r) ∙ or_mod (x / 2 ^ r) (y / 2 ^ r) 1)
    ∙ go (bit r x) (bit r y) (bit-lt r x) (bit-lt r y)
  where
    go : (a b : ℕ) → a < 2 → b < 2 → eqb (bit_or a b) 1 ≡ (eqb a 1 || eqb b 1)
    go zero b h k = refl
    go (suc zero) zero h k = refl
    go (suc zero) (suc zero) h k = refl
    go (suc zero) (suc (suc b)) h k = absurd (omega arith)
    go (suc (suc a)) b h k = absurd (omega arith)

power-bit : (r v : ℕ) → has_bit r (2 ^ v) ≡ eqb r v
power-bit zero zero = refl
power-bit zero (suc v) =
    let e : bit 0 (2 ^ suc v) ≡ 0 = omega arith in
    ap (λ b. eqb b 1) e ∙ sym (ne_eqb 0 (suc v) (λ q. omega arith))
power-bit (suc r) zero = ap (λ b. eqb b 1) (bit-suc r 1 ∙ bit-zero r) ∙ sym (ne_eqb (suc r) 0 (λ q. omega arith))
power-bit (suc r) (suc v) =
    let e : 2 ^ suc v / 2 ≡ 2 ^ v = omega arith in
    ap (λ b. eqb b 1) (bit-suc r (2 ^ suc v) ∙ ap (bit r) e) ∙ power-bit r v ∙ same-compare r v (suc r) (suc v) (λ q. omega arith) (λ q. omega arith)

mark-bit : (r v : ℕ) → r < word_bits → has_bit r (mark v) ≡ eqb r v
mark-bit r v h = go (ltb v word_bits) refl
  where
    go : (b : Bool) → ltb v word_bits ≡ b → has_bit r (first b (2 ^ v) 0) ≡ eqb r v
    go true e = power-bit r v
    go false e =
        let k : word_bits ≤ v = ltb-false v word_bits e in
        ap (λ b. eqb b 1) (bit-zero r) ∙ sym (ne_eqb r v (λ q. omega arith))

-- the low j bits are all set
top_bit : (b low p x : ℕ) → b < 2 → low < p → x ≡ b * p + low → eqb x (2 * p - 1) ≡ (eqb low (p - 1) && eqb b 1)
top_bit zero low p x h k e = ne_eqb x (2 * p - 1) (λ q. omega arith) ∙ sym (and-false (eqb low (p - 1)))
top_bit (suc zero) low p x h k e = same-compare x (2 * p - 1) low (p - 1) (λ q. omega arith) (λ q. omega arith) ∙ sym (and-true (eqb low (p - 1)))
top_bit (suc (suc b)) low p x h k e = absurd (omega arith)

low_bits : (test : ℕ → Bool) (j x : ℕ) → ((i : ℕ) → i < j → has_bit i x ≡ test i) → eqb (x % 2 ^ j) (2 ^ j - 1) ≡ all_below test j
unfolding all_below
low_bits test zero x h = ap (λ m. eqb m 0) (mod-one x)
low_bits test (suc j) x h =
    let e : x % 2 ^ suc j ≡ bit j x * 2 ^ j + x % 2 ^ j = ap (λ k. x % 2 ^ k) (sym (one-add j)) ∙ mod-pow-add x 1 j in
    let d : 2 ^ suc j - 1 ≡ 2 * 2 ^ j - 1 = omega arith in
    ap (eqb (x % 2 ^ suc j)) d ∙ top_bit (bit j x) (x % 2 ^ j) (2 ^ j) (x % 2 ^ suc j) (bit-lt j x) (mod-lt x (pow_pos j)) e
    ∙ ap₂ ◌&&◌ (low_bits test j x (λ i l. h i (omega arith))) (h j (omega arith))

-- ---- a loop that marks, with the gates from i on left

abbrev pub Marking : (word : ℕ) → List Gate → (i : ℕ) → Type 0
Marking word gs i = (r : ℕ) → r < word_bits → (has_bit r word || is_used r (drop i gs)) ≡ is_used r gs

module _ (gs : List Gate) where
  pub marks-none : Marking 0 gs 0
  marks-none r h = ap (λ b. eqb b 1 || is_used r gs) (bit-zero r)

  module _ (word i : ℕ) (inv : Marking word gs i) where
    pub marks-more : (g : Gate) → drop i gs ≡ g ∷ drop (i + 1) gs → (a b : ℕ) → a ≡ mark g.left → b ≡ mark g.right → Marking (bit_or word (bit_or a b)) gs (i + 1)
    unfolding is_used
    marks-more g e a b ea eb r h =
        let m : has_bit r (bit_or a b) ≡ is_operand r g = or-bit r a b ∙ ap₂ ◌||◌ (ap (has_bit r) ea ∙ mark-bit r g.left h) (ap (has_bit r) eb ∙ mark-bit r g.right h) in
        ap (λ x. x || is_used r (drop (i + 1) gs)) (or-bit r word _ ∙ ap (λ x. has_bit r word || x) m)
        ∙ or_assoc (has_bit r word) (is_operand r g) (is_used r (drop (i + 1) gs)) ∙ ap (λ l. has_bit r word || is_used r l) (sym e) ∙ inv r h

    pub marks-all : length gs ≤ i → MarksUses word gs
    unfolding is_used
    marks-all l r h = sym (or-false (has_bit r word)) ∙ rw (drop_of_length-le gs l) at (inv r h)

-- ---- the compare

four-fold : (a b : ℕ) → eqb (a * 4) (b * 4) ≡ eqb a b
four-fold a b = same-compare (a * 4) (b * 4) a b (λ q. omega arith) (λ q. omega arith)

pub uses-compare : (u : Rule) (word : ℕ) → 1 ≤ length u.lefts → root u ≤ word_bits → MarksUses word u.lefts
    → eqb (bit_and word (owed (root u))) (owed (root u)) ≡ uses_ok u
uses-compare u word some small marks =
    ap (λ k. eqb (bit_and word (owed k)) (owed k)) e ∙ ap₂ eqb (and_high word n constants) (high_ones n constants) ∙ four-fold (word / 4 % 2 ^ n) (2 ^ n - 1)
    ∙ low_bits (hole_used u) n (word / 4) each ∙ uses-below u some
  where
    n : ℕ
    n = u.holes + length u.lefts - 1

    e : root u ≡ n + constants
    e = omega arith

    each : (i : ℕ) → i < n → has_bit i (word / 4) ≡ hole_used u i
    each i l =
        let d : 2 + i ≡ hole i = omega arith in
        ap (λ w. eqb (w % 2) 1) (shr-shr word 2 i ∙ ap (λ k. word / 2 ^ k) d) ∙ marks (hole i) (omega (arith, e))

-- the same, of the rule at p, whose left gate lines were found to begin at l
pub uses-tested : (t : List ℕ) (p : ℕ) → RuleSized t p → (l : ℕ) → l ≡ left_from t p → (word asked : ℕ) → MarksUses word (lines_of (lefts_at t p) (drop l t))
    → asked ≡ owed (first_gate (holes_at t p) + lefts_at t p - 1) → eqb (bit_and word asked) asked ≡ uses_ok (rule_at t p)
uses-tested t p s l el word asked marks ea =
    let n = lines-length (lefts_at t p) (drop (left_from t p) t) in
    let e : asked ≡ owed (root (rule_at t p)) = ea ∙ ap (λ k. owed (first_gate (holes_at t p) + k - 1)) (sym n) in
    ap (λ x. eqb (bit_and word x) x) e ∙ uses-compare (rule_at t p) word (omega (arith, n, s)) (omega (arith, n, s)) (rw el at marks)
