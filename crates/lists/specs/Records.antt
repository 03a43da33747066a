-- A list taken as records of `size` elements, one after the other. Whatever looks at a record is handed the list from the record's start on.
use Rattle.std.specs.Prelude.{ℕ, zero, suc, Bool, true, ◌&&◌, List, [], ◌++◌, drop}

-- what `make` gives for each of the first n records, joined
unfoldable pub map_records : {A B : Type 0} → (List A → List B) → ℕ → ℕ → List A → List B
map_records make size zero t = []
map_records make size (suc n) t = make t ++ map_records make size n (drop size t)

-- whether `test` holds at each of the first n records
unfoldable pub all_records : {A : Type 0} → (List A → Bool) → ℕ → ℕ → List A → Bool
all_records test size zero t = true
all_records test size (suc n) t = test t && all_records test size n (drop size t)
