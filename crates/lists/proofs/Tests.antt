-- Tests as Bools. Assumes nothing.
use mathlib.Core.Path.{◌≡◌, refl, sym}
use mathlib.Core.Logic.{◌⊎◌, inl, inr}
use mathlib.Core.Bool.{Bool, true, false, true≢false, ◌&&◌, ◌||◌}

-- two tests are one where each says what the other says
pub same_test : (a b : Bool) → (a ≡ true → b ≡ true) → (b ≡ true → a ≡ true) → a ≡ b
same_test true b f g = sym (f refl)
same_test false true f g = g refl
same_test false false f g = refl

-- a conjunction, taken apart and put together
pub both : {a b : Bool} → a ≡ true → b ≡ true → a && b ≡ true
both e f = rw (e, f)

pub left-of : (a b : Bool) → a && b ≡ true → a ≡ true
left-of true b e = refl
left-of false b e = e

pub right_of : (a b : Bool) → a && b ≡ true → b ≡ true
right_of true b e = e
right_of false true e = refl
right_of false false e = e

-- a disjunction, taken apart: one of the two passes, or both fail
pub one_of : (a b : Bool) → a || b ≡ true → (a ≡ true) ⊎ (b ≡ true)
one_of true b e = inl refl
one_of false b e = inr e

pub left-fails : (a b : Bool) → a || b ≡ false → a ≡ false
left-fails true b e = e
left-fails false b e = refl

pub right-fails : (a b : Bool) → a || b ≡ false → b ≡ false
right-fails true b e = absurd (true≢false e)
right-fails false b e = e
