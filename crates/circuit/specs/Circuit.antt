-- 01, Circuits, 1 to 4, and 02, 2026-01: circuits, apart from the tables that they are written in.
use Rattle.std.specs.Prelude.{ℕ, ◌+◌, ◌*◌, ◌-◌, Bool, List, ltb, length, get_or}
use Rattle.circuit.specs.declared.table.Gate.{Gate as DeclaredGate}
use Rattle.circuit.specs.declared.table.Start.{Start as DeclaredStart}
use Rattle.circuit.specs.declared.table.Kind.{Kind}
use Rattle.circuit.specs.declared.table.Kind.TheVariants.{Xor, And}

-- 01, Circuits, 2: a gate is its kind and its two operands. Closing lines, whose reference stands in `left`, and the lines of tables of other
-- crates are read as the same record.
pub record Gate : Type 0 where
  pub kind : ℕ
  pub left : ℕ
  pub right : ℕ

-- 02, 2026-01: what a starting line says, an input's reference and the level that it starts at
pub record Start : Type 0 where
  pub input : ℕ
  pub level : ℕ

-- the same of the code's struct
abbrev pub said_by : DeclaredStart → Start
said_by s = record { input = s.input; level = s.level }

-- the starting lines as they are written, of which one names each input that does not start at level 0; the gates in line order, and the
-- outputs' references in the order of the closing lines
pub record Circuit : Type 0 where
  pub inputs : ℕ
  pub starts : List Start
  pub gates : List Gate
  pub outputs : List ℕ

-- the kinds of gates, and what a closing line and a starting line have in the kind's place
abbrev pub xor_kind : ℕ
xor_kind = 1

abbrev pub and_kind : ℕ
and_kind = 2

abbrev pub closing_kind : ℕ
closing_kind = 3

abbrev pub start_kind : ℕ
start_kind = 4

-- the code's kinds by their numbers, and its gates, which have no other kind
abbrev pub kind_number : Kind → ℕ
kind_number Xor = xor_kind
kind_number And = and_kind

abbrev pub gate_of : DeclaredGate → Gate
gate_of g = record { kind = kind_number g.kind; left = g.left; right = g.right }

-- 01, Circuits, 1: the limits of the head's numbers
abbrev pub max_inputs : ℕ
max_inputs = 512

abbrev pub max_gates : ℕ
max_gates = 2048

abbrev pub max_outputs : ℕ
max_outputs = 256

-- 02, 2026-01: the limits of a starting level
abbrev pub min_level : ℕ
min_level = 1

abbrev pub max_level : ℕ
max_level = 255

-- 01, Circuits, 4: references 0 and 1 are the constants, then come the inputs, then the gates: the first gate's reference
abbrev pub constants : ℕ
constants = 2

abbrev pub is_constant : (v : ℕ) → Bool
is_constant v = ltb v constants

abbrev pub first_gate : (inputs : ℕ) → ℕ
first_gate inputs = inputs + constants

-- how many references, lines and numbers the table of a circuit within the limits has at most, and how deep such a circuit is at most
abbrev pub max_references : ℕ
max_references = first_gate max_inputs + max_gates

abbrev pub max_lines : ℕ
max_lines = 1 + max_inputs + max_gates + max_outputs

abbrev pub max_table : ℕ
max_table = 3 * max_lines

abbrev pub max_depth : ℕ
max_depth = max_level + max_gates

-- how many references there are: each is below this
abbrev pub references : Circuit → ℕ
references c = first_gate c.inputs + length c.gates

-- how many lines its table has
abbrev pub line_count : Circuit → ℕ
line_count c = 1 + length c.starts + length c.gates + length c.outputs

-- what a list of gates gives beyond its end
abbrev pub no_gate : Gate
no_gate = record { kind = 0; left = 0; right = 0 }

-- and what a list of starting lines gives beyond its end
abbrev pub no_start : Start
no_start = record { input = 0; level = 0 }

-- the gate of reference v; asked only of references that are gates
abbrev pub gate_at : Circuit → (v : ℕ) → Gate
gate_at c v = get_or c.gates (v - first_gate c.inputs) no_gate
