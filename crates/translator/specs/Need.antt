-- 01, Register program, 10: the need, which is the circuit's register pressure.
use Rattle.std.specs.Prelude.{ℕ, zero, suc, ◌+◌, max, Bool, length}
use Rattle.lists.specs.First.{first}
use Rattle.lists.specs.Below.{map_below}
use Rattle.circuit.specs.Circuit.{Circuit, references}
use Rattle.circuit.specs.Depth.{largest}
use Rattle.translator.specs.LiveRange.{is_held_before, is_held_after, is_held_at_end}

-- how many of the numbers below n pass a test
unfoldable pub count_below : (test : ℕ → Bool) → (n : ℕ) → ℕ
count_below test zero = 0
count_below test (suc n) = count_below test n + first (test n) 1 0

-- how many references do; each is one value, however many outputs have it
abbrev pub count_references : Circuit → (test : ℕ → Bool) → ℕ
count_references c test = count_below test (references c)

-- how many values are held just before gate i's operation or just after it, whichever are more
abbrev pub held_around : Circuit → (i : ℕ) → ℕ
held_around c i = max (count_references c (is_held_before c i)) (count_references c (is_held_after c i))

-- the most around any gate, or before the first emit
unfoldable pub need : Circuit → ℕ
need c = max (largest (map_below (held_around c) (length c.gates))) (count_references c (is_held_at_end c))
