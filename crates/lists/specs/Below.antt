-- The numbers below n: a test of all of them, and the list of what is made of each.
use Rattle.std.specs.Prelude.{ℕ, zero, suc, Bool, true, ◌&&◌, List, [], ◌∷◌, ◌++◌}

-- whether `test` holds of each number below n
unfoldable pub all_below : (test : ℕ → Bool) → (n : ℕ) → Bool
all_below test zero = true
all_below test (suc n) = all_below test n && test n

-- what `make` gives for each number below n, in order
unfoldable pub map_below : {A : Type 0} → (make : ℕ → A) → (n : ℕ) → List A
map_below make zero = []
map_below make (suc n) = map_below make n ++ (make n ∷ [])
