-- Where a number stands in a list.
use Rattle.std.specs.Prelude.{ℕ, suc, List, [], ◌∷◌, eqb}
use Rattle.lists.specs.First.{first}

-- the first place of x; as many as there are, if it is not there
unfoldable pub place_in : List ℕ → (x : ℕ) → ℕ
place_in [] x = 0
place_in (y ∷ ys) x = first (eqb x y) 0 (suc (place_in ys x))
