-- The front of a text or table of rules or of sites: one line more than any has that is not refused; and what is read of a circuit's. A longer
-- text is tested whole for refusal 3, but no more than this is read of it: the rest does not change what is refused (`CutIsListedAlike` in
-- Theorems.antt).
use Rattle.std.specs.Prelude.{ℕ, ◌+◌, ◌*◌, List, ◌++◌, ltb, take, drop}
use Rattle.lists.specs.First.{first}
use Rattle.circuit.specs.Circuit.{max_inputs, max_gates, max_outputs}
use Rattle.circuit.specs.Table.{starts, gates_from}
use Rattle.rules.specs.Rule.{max_rules, max_lefts, max_rights}
use Rattle.rules.specs.SiteTable.{max_sites}

-- as many lines as a table of rules and one of sites has at most: 2,049 and 513
abbrev pub max_rules_lines : ℕ
max_rules_lines = 1 + max_rules * (1 + max_lefts + max_rights + 1)

abbrev pub max_sites_lines : ℕ
max_sites_lines = 1 + max_sites

-- the first lines of a table, at most one more than `most`
abbrev pub front : (most : ℕ) → List ℕ → List ℕ
front most t = take (3 * (most + 1)) t

-- the same of a text
abbrev pub cut : (most : ℕ) → List ℕ → List ℕ
cut most text = take (19 * (most + 1)) text

-- 02, 2026-01: a circuit's head does not say how many starting lines there are, and 5 comes before 11. So a longer circuit is shortened in two
-- places: of its starting lines one more is read than there can be inputs, and of the lines behind them one more than there can be gates and
-- outputs. Too many starting lines are still too many, and of the other lines there are as many as the head says exactly if there were.
abbrev pub starts_read : (n : ℕ) → ℕ
starts_read n = first (ltb n (max_inputs + 1)) n (max_inputs + 1)

abbrev pub rest_read : ℕ
rest_read = max_gates + max_outputs + 1

abbrev pub shortened : List ℕ → List ℕ
shortened t = take (3 * (1 + starts_read (starts t))) t ++ take (3 * rest_read) (drop (gates_from t) t)

-- as many lines as are read at most: 2,819
abbrev pub max_circuit_read : ℕ
max_circuit_read = 1 + (max_inputs + 1) + rest_read
