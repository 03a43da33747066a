-- 01, Rules, 2 to 4: rules, apart from the tables that they are written in.
use Rattle.std.specs.Prelude.{ℕ, ◌+◌, ◌-◌, List, length}
use Rattle.circuit.specs.Circuit.{Gate, constants, first_gate}

-- A rule rewrites the left side, the pattern, to the right side, its replacement; each hole is a pattern variable. `closing` is the
-- reference of the closing line.
pub record Rule : Type 0 where
  pub holes : ℕ
  pub lefts : List Gate
  pub rights : List Gate
  pub closing : ℕ

-- 01, Rules, 1 and 2: the limits of the heads' numbers; the holes' is that of 02, 2026-07
abbrev pub max_rules : ℕ
max_rules = 64

abbrev pub max_holes : ℕ
max_holes = 10

abbrev pub max_lefts : ℕ
max_lefts = 15

abbrev pub max_rights : ℕ
max_rights = 15

-- 01, Rules, 3: a side's references are the constants 0 and 1, then the holes, then that side's own gates. So they are numbered as
-- in a circuit whose inputs are the holes: `first_gate holes` is the reference of a side's first gate, `hole j` that of hole j, the
-- first being 0.
abbrev pub hole : (j : ℕ) → ℕ
hole j = j + constants

-- 01, Rules, 4: the left side's value is that of its last gate, the root of the pattern.
abbrev pub root : Rule → ℕ
root u = first_gate u.holes + length u.lefts - 1

-- how many references a left side has at most
abbrev pub max_left_references : ℕ
max_left_references = first_gate max_holes + max_lefts
