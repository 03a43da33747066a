-- 01, Register program, 8, and 02, 2026-05, 3: which constants and inputs are loaded before an operation or before the emits, and in which
-- order, as a property of what is loaded there.
use Rattle.std.specs.Prelude.{ℕ, zero, suc, ◌<◌, ◌≡◌, true, not, ◌&&◌, List, [], ◌∷◌}
use Rattle.lists.specs.First.{first}
use Rattle.circuit.specs.Circuit.{Circuit}
use Rattle.circuit.specs.Path.{is_among}
use Rattle.translator.specs.Machine.{Instruction, is_operation}
use Rattle.translator.specs.LiveRange.{is_used_before, is_constant_or_input}
use Rattle.translator.specs.Place.{place_in}

-- of loads and operations: the references that are loaded behind the first i operations and before the next one, in order
unfoldable pub loaded_after : (i : ℕ) → List Instruction → List ℕ
loaded_after i [] = []
loaded_after zero (x ∷ xs) = first (is_operation x) [] (x.arg2 ∷ loaded_after zero xs)
loaded_after (suc i) (x ∷ xs) = first (is_operation x) (loaded_after i xs) (loaded_after (suc i) xs)

-- each has a lower place than all behind it, so that none is there twice
abbrev pub Ascending : (place : ℕ → ℕ) → List ℕ → Type 0
Ascending place [] = Unit {0}
Ascending place (x ∷ xs) = ((v : ℕ) → is_among v xs ≡ true → place x < place v) × Ascending place xs

-- `uses` are the operands of gate i, the left one first, or behind the last gate the outputs. Of them, the constants and inputs that no gate
-- before gate i uses are loaded, each once, in the order of `uses`.
pub record LoadedFor (c : Circuit) (i : ℕ) (uses loads : List ℕ) : Type 0 where
  pub exactly : (v : ℕ) → is_among v loads ≡ (is_constant_or_input c v && not (is_used_before c i v)) && is_among v uses
  pub in_order : Ascending (place_in uses) loads
