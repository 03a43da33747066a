-- Values of references, over any carrier A, and when they are those that the gates ask for.
use Rattle.std.specs.Prelude.{ℕ, ◌<◌, ◌≡◌, List}
use Rattle.circuit.specs.Circuit.{Gate}
use Rattle.circuit.specs.Each.{EachGate}

-- 01, Circuits, 5: each gate's operands are below its own reference, the first gate's being n.
abbrev pub Ordered : ℕ → List Gate → Type 0
Ordered = EachGate (λ m g. (g.left < m) × (g.right < m))

-- v solves the gates: it gives each what `op` gives for its kind and its operands' values.
abbrev pub Solves : {A : Type 0} (op : ℕ → A → A → A) (v : ℕ → A) → ℕ → List Gate → Type 0
Solves op v = EachGate (λ m g. v m ≡ op g.kind (v g.left) (v g.right))
