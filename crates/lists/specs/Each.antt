-- Values computed one after the other, each from those before it.
use Rattle.std.specs.Prelude.{List, [], ◌∷◌, ◌++◌}

-- vs, and behind it for each x in order the value that `make` gives of x and of all values so far
unfoldable pub append_each : {A B : Type 0} → (A → List B → B) → List A → List B → List B
append_each make [] vs = vs
append_each make (x ∷ xs) vs = append_each make xs (vs ++ (make x vs ∷ []))
