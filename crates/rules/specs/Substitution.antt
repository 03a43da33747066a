-- What the bindings of a match say (01, Sites, 4 to 8), as facts for those who replace by them.
use Rattle.std.specs.Prelude.{ℕ, ◌+◌, ◌<◌, ◌≡◌, Bool, true, List, length, get_or}
use Rattle.std.proofs.Math.Option.{some}
use Rattle.lists.specs.First.{first}
use Rattle.circuit.specs.Circuit.{Gate, Circuit, first_gate, no_gate, gate_at}
use Rattle.circuit.specs.Path.{is_gate}
use Rattle.rules.specs.Rule.{Rule, hole, root, max_left_references}
use Rattle.rules.specs.Match.{binding, bound_to, is_swapped}

-- Rule gate g, of rule reference m, is bound to a circuit gate of its kind, and its operands to that gate's, crosswise if `swap`.
pub record BoundGate (c : Circuit) (b : List ℕ) (m : ℕ) (g : Gate) (swap : Bool) : Type 0 where
  pub bound : binding b m ≡ some (bound_to b m)
  pub is-gate : is_gate c (bound_to b m) ≡ true
  pub kind : (gate_at c (bound_to b m)).kind ≡ g.kind
  pub left : binding b g.left ≡ some (first swap (gate_at c (bound_to b m)).right (gate_at c (bound_to b m)).left)
  pub right : binding b g.right ≡ some (first swap (gate_at c (bound_to b m)).left (gate_at c (bound_to b m)).right)

-- b is a substitution by which the left side of rule u is found at `gate`.
pub record Substitution (c : Circuit) (u : Rule) (gate mask : ℕ) (b : List ℕ) : Type 0 where
  pub long : length b ≡ max_left_references
  -- the constants stand for themselves, the last left gate for the site's gate
  pub zero-bound : binding b 0 ≡ some 0
  pub one-bound : binding b 1 ≡ some 1
  pub root-bound : binding b (root u) ≡ some gate
  -- each left gate is found in the circuit
  pub gates-bound : (i : ℕ) → i < length u.lefts → BoundGate c b (first_gate u.holes + i) (get_or u.lefts i no_gate) (is_swapped mask i)
  -- each hole stands for something, and for something below the site's gate, as the constants do
  pub holes-bound : (j : ℕ) → j < u.holes → binding b (hole j) ≡ some (bound_to b (hole j))
  pub below-gate : (r : ℕ) → r < first_gate u.holes → bound_to b r < gate
