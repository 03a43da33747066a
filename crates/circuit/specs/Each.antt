-- Tests, facts and counts over gates in order, where the first of the list is reference n.
use Rattle.std.specs.Prelude.{ℕ, suc, ◌+◌, Bool, true, ◌&&◌, List, [], ◌∷◌}
use Rattle.lists.specs.First.{first}
use Rattle.circuit.specs.Circuit.{Gate}

-- whether every gate passes the test, which is told the gate's reference
unfoldable pub all_gates : (ℕ → Gate → Bool) → ℕ → List Gate → Bool
all_gates test n [] = true
all_gates test n (g ∷ gs) = test n g && all_gates test (suc n) gs

-- how many gates pass the test
unfoldable pub count_gates : (ℕ → Gate → Bool) → ℕ → List Gate → ℕ
count_gates test n [] = 0
count_gates test n (g ∷ gs) = first (test n g) (1 + count_gates test (suc n) gs) (count_gates test (suc n) gs)

-- every gate has the property
abbrev pub EachGate : (ℕ → Gate → Type 0) → ℕ → List Gate → Type 0
EachGate P n [] = Unit {0}
EachGate P n (g ∷ gs) = P n g × EachGate P (suc n) gs
