-- 02, 2026-04, and source 003, section 2.1: multiplicative depth, a gate's own contribution first, then the larger of its operands' depths.
-- That this is the depth that contracts cite, at every gate and every other reference: `DepthIsMultiplicative` in Theorems.antt.
use Rattle.std.specs.Prelude.{ℕ, zero, suc, ◌+◌, max, get_or}
use Rattle.lists.specs.First.{first}
use Rattle.circuit.specs.Circuit.{Gate, Circuit, gate_at}
use Rattle.circuit.specs.Depth.{is_counted, start_levels}
use Rattle.circuit.specs.Path.{is_gate}

-- 003's d(v): 1 if the gate is a multiplication, else 0; one by a constant is none here (02, 2026-06)
abbrev pub contribution : Gate → ℕ
contribution g = first (is_counted g) 1 0

-- 003's recursion, over at most so many references, v the first: a gate's depth from its operands'; what is no gate has its starting level
unfoldable pub depth_within : (steps : ℕ) → Circuit → (v : ℕ) → ℕ
depth_within zero c v = 0
depth_within (suc steps) c v =
    first (is_gate c v)
    (contribution (gate_at c v) + max (depth_within steps c (gate_at c v).left) (depth_within steps c (gate_at c v).right))
    (get_or (start_levels c) v 0)

-- 003's MD(v). Where operands are below their gate, a way down from v has at most v + 1 references.
abbrev pub multiplicative_depth : Circuit → (v : ℕ) → ℕ
multiplicative_depth c v = depth_within (suc v) c v
