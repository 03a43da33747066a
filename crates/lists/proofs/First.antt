-- The cases of `first`. Assumes nothing.
use mathlib.Core.Path.{◌≡◌}
use mathlib.Core.Bool.{Bool, true, false}
use Rattle.lists.specs.First.{first}

module _ {A : Type 0} {t : Bool} (a b : A) where
  pub first-true : t ≡ true → first t a b ≡ a
  first-true e = rw e

  pub first-false : t ≡ false → first t a b ≡ b
  first-false e = rw e

-- what holds of both answers holds of the one given
pub first_either : {A : Type 0} (P : A → Type 0) (t : Bool) {a b : A} → P a → P b → P (first t a b)
first_either P true p q = p
first_either P false p q = q
