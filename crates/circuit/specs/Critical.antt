-- 01, Depth and critical count, 4 and 5, and 02, 2026-06: the critical count, N, and the pair.
-- That live, above and critical are 01's, by paths: `LiveIsReached`, `AboveIsLargest`, `CriticalIsDeepest` in Theorems.antt.
use Rattle.std.specs.Prelude.{ℕ, ◌+◌, Bool, ◌&&◌, eqb}
use Rattle.circuit.specs.declared.critical.DepthPair.{DepthPair}
use Rattle.circuit.specs.Circuit.{Gate, Circuit, first_gate}
use Rattle.circuit.specs.Each.{count_gates}
use Rattle.circuit.specs.Depth.{is_counted, depth, circuit_depth}
use Rattle.circuit.specs.ReverseDepth.{is_live, above}

-- a live gate that counts, on a deepest path: its depth and above make D
abbrev pub is_critical : Circuit → ℕ → Gate → Bool
is_critical c v g = is_counted g && (is_live c v && eqb (depth c v + above c v) (circuit_depth c))

-- N: how many of these there are, each counted once
unfoldable pub critical_count : Circuit → ℕ
critical_count c = count_gates (is_critical c) (first_gate c.inputs) c.gates

-- 01's pair (D, N)
abbrev pub pair_of : Circuit → DepthPair
pair_of c = record { depth = circuit_depth c; critical = critical_count c }
