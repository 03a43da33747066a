-- Counting the references that pass a test (`count_below`): tests that differ in one reference. Assumes nothing.
use mathlib.Core.Path.{◌≡◌, refl, sym, ap, ◌∙◌}
use mathlib.Core.Logic.{◌≢◌}
use mathlib.Core.Bool.{Bool, true, false, not, ◌&&◌, ◌||◌, and-true, and-false}
use Prim.Native.Nat.{ℕ, zero, suc, ◌+◌, ◌≤◌, ◌<◌}
use native.Mathlib.Nat.{not-suc-le-zero}
use native.Mathlib.Decide.{dec_lt}
use native.Mathlib.Omega.{arith}
use lib.Dec.{eqb}
use borrow.Author.Tests.{eq-eqb, ne_eqb, eqb-true}
use Rattle.lists.proofs.Tests.{right_of}
use Rattle.translator.specs.Need.{count_below}
use Rattle.translator.specs.Pressure.{one_if}

-- a test that nothing passes
pub count_none : (p : ℕ → Bool) (n : ℕ) → ((v : ℕ) → p v ≡ false) → count_below p n ≡ 0
unfolding count_below
count_none p zero e = refl
count_none p (suc n) e = rw (e n) (omega (arith, count_none p n e))

-- tests that agree
pub count_same : (p q : ℕ → Bool) (n : ℕ) → ((v : ℕ) → v < n → p v ≡ q v) → count_below p n ≡ count_below q n
unfolding count_below
count_same p q zero e = refl
count_same p q (suc n) e = rw (e n (omega arith), count_same p q n (λ v h. e v (omega arith)))

-- a test that passes more
pub count-le : (p q : ℕ → Bool) (n : ℕ) → ((v : ℕ) → p v ≡ true → q v ≡ true) → count_below p n ≤ count_below q n
unfolding count_below
count-le p q zero e = omega arith
count-le p q (suc n) e = omega (arith, count-le p q n e, go (p n) (e n))
  where
    go : (b : Bool) → (b ≡ true → q n ≡ true) → one_if b ≤ one_if (q n)
    go true f = rw (f refl) (omega arith)
    go false f = omega arith

-- a test that passes x besides
pub count-more : (p q : ℕ → Bool) (x n : ℕ) → x < n → p x ≡ false → q x ≡ true → ((v : ℕ) → v ≢ x → p v ≡ q v) → count_below q n ≡ suc (count_below p n)
unfolding count_below
count-more p q x zero h a b e = absurd (not-suc-le-zero h)
count-more p q x (suc n) h a b e =
    elim (dec_lt x n) [
      | yes l ↦ rw (e n (omega arith)) (omega (arith, count-more p q x n l a b e))
      | no l ↦
          let f : x ≡ n = omega arith in
          rw (ap q (sym f) ∙ b, ap p (sym f) ∙ a) (omega (arith, count_same p q n (λ v k. e v (omega arith))))
    ]

-- some x passes
pub count-some : (p : ℕ → Bool) (x n : ℕ) → x < n → p x ≡ true → 1 ≤ count_below p n
count-some p x n h e =
    omega (arith, count-more (λ v. p v && not (eqb v x)) p x n h (rw (eq-eqb x x refl) (and-false (p x))) e (λ v ne. rw (ne_eqb v x ne) (and-true (p v))))

-- all that are below n, and at most these
pub count-all : (p : ℕ → Bool) (n : ℕ) → ((v : ℕ) → v < n → p v ≡ true) → count_below p n ≡ n
unfolding count_below
count-all p zero h = refl
count-all p (suc n) h = rw (h n (omega arith)) (omega (arith, count-all p n (λ v l. h v (omega arith))))

pub count-limit : (p : ℕ → Bool) (n : ℕ) → count_below p n ≤ n
unfolding count_below
count-limit p zero = omega arith
count-limit p (suc n) = omega (arith, count-limit p n, go (p n))
  where
    go : (b : Bool) → one_if b ≤ 1
    go true = omega arith
    go false = omega arith

-- to add what is there already changes nothing
pub added-there : (p : ℕ → Bool) (x : ℕ) → p x ≡ true → (v : ℕ) → eqb v x || p v ≡ p v
added-there p x e v = go (eqb v x) refl
  where
    go : (b : Bool) → eqb v x ≡ b → b || p v ≡ p v
    go true q = sym (ap p (eqb-true v x q) ∙ e)
    go false q = refl

-- how many pass both tests
pub count-grows : (p w : ℕ → Bool) (x n : ℕ) → count_below (λ v. p v && w v) n ≤ count_below (λ v. (eqb v x || p v) && w v) n
count-grows p w x n = count-le _ _ n (λ v e. go (eqb v x) (p v) (w v) e)
  where
    go : (a b d : Bool) → b && d ≡ true → (a || b) && d ≡ true
    go true b d e = right_of b d e
    go false b d e = e

module _ (p w : ℕ → Bool) (x n : ℕ) (h : x < n) where
  -- x is added to the one
  pub count-added : w x ≡ true → count_below (λ v. (eqb v x || p v) && w v) n ≡ one_if (not (p x)) + count_below (λ v. p v && w v) n
  count-added e = go (p x) refl
    where
      go : (b : Bool) → p x ≡ b → count_below (λ v. (eqb v x || p v) && w v) n ≡ one_if (not b) + count_below (λ v. p v && w v) n
      go true f = count_same _ _ n (λ v l. ap (λ b. b && w v) (added-there p x f v)) ∙ omega arith
      go false f =
          count-more (λ v. p v && w v) (λ v. (eqb v x || p v) && w v) x n h (rw f) (rw (eq-eqb x x refl, e)) (λ v ne. rw (ne_eqb v x ne))
          ∙ omega arith

  -- x is added to the other
  pub count-wanted : p x ≡ true → count_below (λ v. p v && (eqb v x || w v)) n ≡ one_if (not (w x)) + count_below (λ v. p v && w v) n
  count-wanted e = go (w x) refl
    where
      go : (b : Bool) → w x ≡ b → count_below (λ v. p v && (eqb v x || w v)) n ≡ one_if (not b) + count_below (λ v. p v && w v) n
      go true f = count_same _ _ n (λ v l. ap (λ b. p v && b) (added-there w x f v)) ∙ omega arith
      go false f =
          count-more (λ v. p v && w v) (λ v. p v && (eqb v x || w v)) x n h (rw (e, f)) (rw (eq-eqb x x refl, e)) (λ v ne. rw (ne_eqb v x ne))
          ∙ omega arith
