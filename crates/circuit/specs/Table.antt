-- 01, Circuits, 1 to 3, and 02, 2026-01: a circuit's table, which is the head, the starting lines, the gate lines and the closing lines,
-- three numbers a line. Starting lines are known by their 4; the others are read by the head's counts, and numbers that are missing count as 0, so
-- that every table says something; tables with too few or too many lines are refused.
use Rattle.std.specs.Prelude.{ℕ, zero, suc, ◌+◌, ◌*◌, List, [], ◌∷◌, ◌++◌, map, eqb, length, drop, get_or}
use Rattle.lists.specs.First.{first}
use Rattle.circuit.specs.Circuit.{Gate, Start, Circuit, closing_kind, start_kind, first_gate}

-- 01, Circuits, 1: the head
abbrev pub inputs : List ℕ → ℕ
inputs t = get_or t 0 0

abbrev pub gates : List ℕ → ℕ
gates t = get_or t 1 0

abbrev pub outputs : List ℕ → ℕ
outputs t = get_or t 2 0

-- how many references there are, by the head
abbrev pub refs : List ℕ → ℕ
refs t = first_gate (inputs t) + gates t

-- 02, 2026-01: how many lines that begin with 4 a list of numbers begins with, whatever else is in them: the longest run. Numbers that make
-- no whole line are none.
unfoldable pub start_run : List ℕ → ℕ
start_run [] = 0
start_run (k ∷ []) = 0
start_run (k ∷ a ∷ []) = 0
start_run (k ∷ a ∷ b ∷ rest) = first (eqb k start_kind) (suc (start_run rest)) 0

-- the starting lines: all those right after the head that begin with 4
abbrev pub starts : List ℕ → ℕ
starts t = start_run (drop 3 t)

-- where the gate lines, the closing lines and the table's end are
abbrev pub gates_from : List ℕ → ℕ
gates_from t = 3 + 3 * starts t

abbrev pub closings_from : List ℕ → ℕ
closings_from t = gates_from t + 3 * gates t

abbrev pub table_end : List ℕ → ℕ
table_end t = closings_from t + 3 * outputs t

-- the line that begins at number p of a table
abbrev pub line_at : List ℕ → (p : ℕ) → Gate
line_at t p = record { kind = get_or t p 0; left = get_or t (p + 1) 0; right = get_or t (p + 2) 0 }

-- the first n lines of a table
unfoldable pub lines_of : (n : ℕ) → List ℕ → List Gate
lines_of zero t = []
lines_of (suc n) t = line_at t 0 ∷ lines_of n (drop 3 t)

-- 02, 2026-01: a starting line has its reference where a gate has its left operand, and its level where a gate has its right one.
abbrev pub start_lines : List ℕ → List Gate
start_lines t = lines_of (starts t) (drop 3 t)

abbrev pub start_of : Gate → Start
start_of line = record { input = line.left; level = line.right }

abbrev pub start_line : Start → Gate
start_line s = record { kind = start_kind; left = s.input; right = s.level }

-- 01, Circuits, 2
abbrev pub gate_lines : List ℕ → List Gate
gate_lines t = lines_of (gates t) (drop (gates_from t) t)

-- 01, Circuits, 3: an output's reference stands in its closing line where a gate's left operand does.
abbrev pub closing_lines : List ℕ → List Gate
closing_lines t = lines_of (outputs t) (drop (closings_from t) t)

abbrev pub reference : Gate → ℕ
reference line = line.left

abbrev pub closing_line : (reference : ℕ) → Gate
closing_line r = record { kind = closing_kind; left = r; right = 0 }

-- the circuit that a table says, whatever the closing lines hold beside the references
abbrev pub decode : List ℕ → Circuit
decode t =
    record { inputs = inputs t; starts = map start_of (start_lines t); gates = gate_lines t; outputs = map reference (closing_lines t) }

-- lines as numbers
unfoldable pub encode_lines : List Gate → List ℕ
encode_lines [] = []
encode_lines (g ∷ gs) = g.kind ∷ g.left ∷ g.right ∷ encode_lines gs

-- the table that says a circuit
unfoldable pub encode : Circuit → List ℕ
encode c =
    c.inputs ∷ length c.gates ∷ length c.outputs
    ∷ (encode_lines (map start_line c.starts) ++ (encode_lines c.gates ++ encode_lines (map closing_line c.outputs)))
