-- Bits of numbers, and words that stand for the bits of a function, for any number of bits. Assumes nothing.
use mathlib.Core.Path.{◌≡◌, refl, sym, ap, ap₂, ◌∙◌}
use mathlib.Core.Bool.{Bool, true, false}
use Prim.Native.Nat.{ℕ, zero, suc, ◌+◌, ◌*◌, ◌/◌, ◌%◌, ◌^◌, ◌<◌}
use native.Mathlib.Nat.{not-suc-le-zero, le_of_suc-le-suc, zero-div}
use native.Mathlib.Omega.{arith}
use lib.Bits.{bit_and, bit_xor, and_shr, xor_shr, and_mod, xor_mod, and_lt, xor_lt, block_half, block_odd}
use lib.Dec.{eqb}
use lib.Pow.{shr-shr, high}
use Rattle.lists.specs.First.{first}
use Rattle.lists.proofs.First.{first_either}
use Rattle.circuit.specs.Circuit.{and_kind}
use Rattle.circuit.specs.Evaluation.{bit_op}
use Rattle.rules.specs.Soundness.{bit}
use Rattle.rules.specs.Words.{word_of}

-- ---- bits

pub bit-lt : (i x : ℕ) → bit i x < 2
bit-lt i x = omega arith

pub bit-zero : (i : ℕ) → bit i 0 ≡ 0
bit-zero i = rw zero-div

pub bit-suc : (i x : ℕ) → bit (suc i) x ≡ bit i (x / 2)
bit-suc i x =
    let e : 1 + i ≡ suc i = omega arith in
    ap (λ y. y % 2) (ap (λ k. x / 2 ^ k) (sym e) ∙ sym (shr-shr x 1 i))

-- AND and XOR are those of each bit
pub bit-gate : (i kind x y : ℕ) → bit i (bit_op kind x y) ≡ bit_op kind (bit i x) (bit i y)
unfolding bit_op
bit-gate i kind x y = go (eqb kind and_kind)
  where
    go : (t : Bool) → first t (bit_and x y) (bit_xor x y) / 2 ^ i % 2 ≡ first t (bit_and (x / 2 ^ i % 2) (y / 2 ^ i % 2)) (bit_xor (x / 2 ^ i % 2) (y / 2 ^ i % 2))
    go true = rw (and_shr x y i) (and_mod (x / 2 ^ i) (y / 2 ^ i) 1)
    go false = rw (xor_shr x y i) (xor_mod (x / 2 ^ i) (y / 2 ^ i) 1)

pub gate-width : (n kind x y : ℕ) → x < 2 ^ n → y < 2 ^ n → bit_op kind x y < 2 ^ n
unfolding bit_op
gate-width n kind x y h k = first_either (λ w. w < 2 ^ n) (eqb kind and_kind) (and_lt n x y h k) (xor_lt n x y h k)

-- in the numbers of a block of 2 to the power k the lower bits are those of the place in the block, the higher ones those of the block's
-- number
pub bit-low : (k j w a : ℕ) → j < k → bit j (w * 2 ^ k + a) ≡ bit j a
bit-low zero j w a h = absurd (not-suc-le-zero h)
bit-low (suc k) zero w a h = omega (arith, block_odd w k a)
bit-low (suc k) (suc j) w a h =
    bit-suc j (w * 2 ^ suc k + a) ∙ ap (bit j) (block_half w k a) ∙ bit-low k j w (a / 2) (le_of_suc-le-suc h) ∙ sym (bit-suc j a)

pub bit_high : (k i w a : ℕ) → a < 2 ^ k → bit (k + i) (w * 2 ^ k + a) ≡ bit i w
bit_high k i w a h = ap (λ x. x % 2) (sym (shr-shr (w * 2 ^ k + a) k i) ∙ ap (λ x. x / 2 ^ i) (high w k h))

-- words of n bits whose bits are equal are equal
pub bits-same : (n x y : ℕ) → x < 2 ^ n → y < 2 ^ n → ((i : ℕ) → i < n → bit i x ≡ bit i y) → x ≡ y
bits-same zero x y hx hy e = omega arith
bits-same (suc n) x y hx hy e =
    omega (
      arith,
      e zero (omega arith),
      bits-same n (x / 2) (y / 2) (omega arith) (omega arith) (λ i l. sym (bit-suc i x) ∙ e (suc i) (omega arith) ∙ bit-suc i y),
    )

-- ---- words

pub word_same : (f g : ℕ → ℕ) (n : ℕ) → ((a : ℕ) → a < n → f a ≡ g a) → word_of f n ≡ word_of g n
unfolding word_of
word_same f g zero e = refl
word_same f g (suc n) e = ap₂ (λ x y. x + 2 * y) (e zero (omega arith)) (word_same (λ a. f (suc a)) (λ a. g (suc a)) n (λ a l. e (suc a) (omega arith)))

pub word_width : (f : ℕ → ℕ) (n : ℕ) → ((a : ℕ) → a < n → f a < 2) → word_of f n < 2 ^ n
unfolding word_of
word_width f zero h = omega arith
word_width f (suc n) h = omega (arith, h zero (omega arith), word_width (λ a. f (suc a)) n (λ a l. h (suc a) (omega arith)))

pub word-bit : (f : ℕ → ℕ) (n : ℕ) → ((a : ℕ) → a < n → f a < 2) → (a : ℕ) → a < n → bit a (word_of f n) ≡ f a
unfolding word_of
word-bit f zero h a l = absurd (not-suc-le-zero l)
word-bit f (suc n) h zero l = omega (arith, h zero (omega arith))
word-bit f (suc n) h (suc a) l =
    let e : (f zero + 2 * word_of (λ a. f (suc a)) n) / 2 ≡ word_of (λ a. f (suc a)) n = omega (arith, h zero (omega arith)) in
    bit-suc a _ ∙ ap (bit a) e ∙ word-bit (λ a. f (suc a)) n (λ a l. h (suc a) (omega arith)) a (omega arith)
