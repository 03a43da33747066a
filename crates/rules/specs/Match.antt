-- 01, Sites, 4 to 8: the match of a rule's left side at a gate.
-- Each reference of the left side is bound to a circuit reference, or to none. The bindings are one list as the code holds it: place r
-- has 0 for none, else the circuit reference plus 1. `binding` leads it back to an optional reference, and `bind_to` binds.
use Rattle.std.specs.Prelude.{ℕ, zero, suc, ◌+◌, ◌-◌, Bool, true, false, not, List, eqb, length, get_or, set, replicate}
use Rattle.std.proofs.Math.Option.{Option, none, some, bind}
use Rattle.lists.specs.First.{first}
use Rattle.circuit.specs.Circuit.{Gate, Circuit, first_gate, no_gate, gate_at}
use Rattle.circuit.specs.Path.{is_gate}
use Rattle.rules.specs.Rule.{Rule, root, max_left_references}
use Rattle.rules.specs.Soundness.{bit}

-- what a place says; what rule reference r is bound to
abbrev pub optional : (place : ℕ) → Option ℕ
optional zero = none
optional (suc v) = some v

abbrev pub binding : (bindings : List ℕ) (r : ℕ) → Option ℕ
binding b r = optional (get_or b r 0)

abbrev pub bind_to : (r v : ℕ) (bindings : List ℕ) → List ℕ
bind_to r v b = set b r (v + 1)

-- and where it is known to be bound, the reference itself
abbrev pub bound_to : (bindings : List ℕ) (r : ℕ) → ℕ
bound_to b r = get_or b r 0 - 1

-- 01, Sites, 8: rule reference r, of which is known what it was bound to before, paired with circuit reference v. An unbound one becomes
-- bound; a bound one needs the same reference.
abbrev pub bind_after : (r v : ℕ) (bindings : List ℕ) → (before : Option ℕ) → Option (List ℕ)
bind_after r v b none = some (bind_to r v b)
bind_after r v b (some w) = first (eqb w v) (some b) none

-- The constants are bound to themselves from the start, so that they need the same constant.
unfoldable pub bind_reference : (r v : ℕ) (bindings : List ℕ) → Option (List ℕ)
bind_reference r v b = bind_after r v b (binding b r)

-- a rule gate's two operands, the left one first, paired with circuit references x and y
unfoldable pub bind_operands : Gate → (x y : ℕ) (bindings : List ℕ) → Option (List ℕ)
bind_operands g x y b = bind (bind_reference g.left x b) (bind_reference g.right y)

-- 01, Sites, 6 and 7: one left gate's part of the match. Gate g, of rule reference m, must be bound to a circuit gate v of its kind, and
-- their operands are paired, crosswise if `swap`.
unfoldable pub match_gate : Circuit → (m : ℕ) → Gate → (swap : Bool) (bindings : List ℕ) → Option (List ℕ)
match_gate c m g swap b =
    bind (binding b m) (λ v.
    first (not (is_gate c v)) none
    (first (not (eqb (gate_at c v).kind g.kind)) none
    (first swap (bind_operands g (gate_at c v).right (gate_at c v).left b)
    (bind_operands g (gate_at c v).left (gate_at c v).right b))))

-- 01, Sites, 4: which bit of the mask decides for left gate i
abbrev pub is_swapped : (mask i : ℕ) → Bool
is_swapped mask i = eqb (bit i mask) 1

-- that of left gate i of rule u
abbrev pub match_left : Circuit → Rule → (i : ℕ) (swap : Bool) (bindings : List ℕ) → Option (List ℕ)
match_left c u i swap b = match_gate c (first_gate u.holes + i) (get_or u.lefts i no_gate) swap b

-- 01, Sites, 6: the first i left gates, from the last of them to the first
unfoldable pub match_gates : Circuit → Rule → (mask i : ℕ) (bindings : List ℕ) → Option (List ℕ)
match_gates c u mask zero b = some b
match_gates c u mask (suc i) b = bind (match_left c u i (is_swapped mask i) b) (match_gates c u mask i)

-- nothing is bound
abbrev pub unbound : List ℕ
unbound = replicate max_left_references 0

-- 01, Sites, 5: at the start the last left gate is bound to the site's gate; the constants are bound to themselves.
abbrev pub start_bindings : Rule → (gate : ℕ) → List ℕ
start_bindings u gate = bind_to (root u) gate (bind_to 1 1 (bind_to 0 0 unbound))

-- the match: its bindings, or none
unfoldable pub match_rule : Circuit → Rule → (gate mask : ℕ) → Option (List ℕ)
match_rule c u gate mask = match_gates c u mask (length u.lefts) (start_bindings u gate)

-- what a function says that answers whether it succeeded and leaves bindings, which are free where it did not
abbrev pub attempt : (succeeded : Bool) (bindings : List ℕ) → Option (List ℕ)
attempt true b = some b
attempt false b = none
