-- 01, Sites, 9 to 11: replacement of the site's gate by a rule's right side, by the bindings of the match. The trim that follows is not
-- part of it.
use Rattle.std.specs.Prelude.{ℕ, ◌+◌, ◌-◌, ◌/◌, ◌<◌, List, [], ◌∷◌, ◌++◌, map, eqb, ltb, length, take, drop, get_or}
use Rattle.lists.specs.First.{first}
use Rattle.circuit.specs.Circuit.{Gate, Circuit, first_gate}
use Rattle.circuit.specs.Table.{lines_of, start_line, closing_line, encode_lines}
use Rattle.circuit.specs.Trim.{rename_gate}
use Rattle.rules.specs.Rule.{Rule}
use Rattle.rules.specs.Match.{bound_to}

-- 01, Sites, 9: what reference r of the right side is in the circuit, `base` being that of the side's first gate. A constant or a hole is
-- what it is bound to; the right gates have the references from the site's gate on.
unfoldable pub instance_of : (base gate : ℕ) (bindings : List ℕ) → (r : ℕ) → ℕ
instance_of base gate b r = first (ltb r base) (bound_to b r) (gate + (r - base))

-- 01, Sites, 10 and 11: what reference v of the circuit becomes, where the gate becomes `closing` and `count` gates take its place. What is
-- below the gate stays; what is later moves up by `count` gates and down by the one that they replace.
unfoldable pub renumber : (gate closing count : ℕ) → (v : ℕ) → ℕ
renumber gate closing count v =
    first (ltb v gate) v
    (first (eqb v gate) closing
    (v - 1 + count))

-- the same of a rule, whose closing reference the gate becomes
abbrev pub right_renaming : Rule → (gate : ℕ) (bindings : List ℕ) → (r : ℕ) → ℕ
right_renaming u gate b = instance_of (first_gate u.holes) gate b

abbrev pub renaming : Rule → (gate : ℕ) (bindings : List ℕ) → (v : ℕ) → ℕ
renaming u gate b = renumber gate (right_renaming u gate b u.closing) (length u.rights)

-- the gates before the site's gate and those behind it
abbrev pub gates_before : Circuit → (gate : ℕ) → List Gate
gates_before c gate = take (gate - first_gate c.inputs) c.gates

abbrev pub gates_behind : Circuit → (gate : ℕ) → List Gate
gates_behind c gate = drop (gate - first_gate c.inputs + 1) c.gates

-- 01, Sites, 9 to 11: the right gates in the place of the site's gate, and each use of a reference, outputs included, renamed. The starting
-- lines stay (02, 2026-01).
unfoldable pub replace : Circuit → Rule → (gate : ℕ) (bindings : List ℕ) → Circuit
replace c u gate b =
    record {
      inputs = c.inputs;
      starts = c.starts;
      gates =
          gates_before c gate
          ++ (map (rename_gate (right_renaming u gate b)) u.rights ++ map (rename_gate (renaming u gate b)) (gates_behind c gate));
      outputs = map (renaming u gate b) c.outputs;
    }

-- the head of a circuit that has `gates` gates but is else as c, and c's starting lines
abbrev pub front_lines : Circuit → (gates : ℕ) → List ℕ
front_lines c gates = c.inputs ∷ gates ∷ length c.outputs ∷ encode_lines (map start_line c.starts)

-- the rows of a table, three numbers each
abbrev pub rows_of : List ℕ → List Gate
rows_of t = lines_of (length t / 3) t

-- the table's lines of some gates, renamed by ρ, and of some outputs, renumbered
abbrev pub renamed_lines : (ρ : ℕ → ℕ) → List Gate → List ℕ
renamed_lines ρ gs = encode_lines (map (rename_gate ρ) gs)

abbrev pub renumbered_closings : (gate closing count : ℕ) (outputs : List ℕ) → List ℕ
renumbered_closings gate closing count os = encode_lines (map closing_line (map (renumber gate closing count) os))

-- Every reference below `base`, a constant or a hole, is bound.
abbrev pub AllBound : (base : ℕ) (bindings : List ℕ) → Type 0
AllBound base b = (r : ℕ) → r < base → 0 < get_or b r 0

-- What the replacing code relies on: constants and holes are bound, to references below the gate, as they are by a match.
abbrev pub BoundBelow : Rule → (gate : ℕ) (bindings : List ℕ) → Type 0
BoundBelow u gate b = (r : ℕ) → r < first_gate u.holes → (0 < get_or b r 0) × (bound_to b r < gate)

-- each gate's operands are below a limit
abbrev pub OperandsBelow : (limit : ℕ) → List Gate → Type 0
OperandsBelow limit [] = Unit {0}
OperandsBelow limit (g ∷ gs) = ((g.left < limit) × (g.right < limit)) × OperandsBelow limit gs
