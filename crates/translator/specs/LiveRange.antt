-- 01, Register program, 8 and 9: when a value is held, which is its live range. Gates are counted from 0: gate i is that of reference
-- first_gate + i.
use Rattle.std.specs.Prelude.{ℕ, suc, ◌+◌, Bool, not, ◌&&◌, ◌||◌, ltb, take, drop}
use Rattle.circuit.specs.Circuit.{Circuit, first_gate}
use Rattle.circuit.specs.Path.{is_output, is_used}

-- whether a gate before gate i uses v
abbrev pub is_used_before : Circuit → (i v : ℕ) → Bool
is_used_before c i v = is_used v (take i c.gates)

-- whether gate i or a later one uses v, or v is an output: an output's last use is behind all gates
abbrev pub is_used_from : Circuit → (i v : ℕ) → Bool
is_used_from c i v = is_used v (drop i c.gates) || is_output c v

abbrev pub is_constant_or_input : Circuit → (v : ℕ) → Bool
is_constant_or_input c v = ltb v (first_gate c.inputs)

-- loaded before gate i's turn: a constant or input that a gate before it uses
abbrev pub is_loaded_before : Circuit → (i v : ℕ) → Bool
is_loaded_before c i v = is_constant_or_input c v && is_used_before c i v

-- computed before it: a gate before gate i
abbrev pub is_computed_before : Circuit → (i v : ℕ) → Bool
is_computed_before c i v = not (is_constant_or_input c v) && ltb v (first_gate c.inputs + i)

-- held just before gate i's operation, its operands loaded
abbrev pub is_held_before : Circuit → (i v : ℕ) → Bool
is_held_before c i v = (is_loaded_before c (suc i) v || is_computed_before c i v) && is_used_from c i v

-- held just after it
abbrev pub is_held_after : Circuit → (i v : ℕ) → Bool
is_held_after c i v = (is_loaded_before c (suc i) v || is_computed_before c (suc i) v) && is_used_from c (suc i) v

-- held before the first emit: all is loaded and done then, so that only the outputs' values are
abbrev pub is_held_at_end : Circuit → (v : ℕ) → Bool
is_held_at_end c v = is_output c v
