-- 01, Sites, 13 and 14: what a step leaves, where no verdict up to 5 applies.
use Rattle.std.specs.Prelude.{ℕ, ◌+◌}
use Rattle.lists.specs.First.{first}
use Rattle.circuit.specs.Critical.{pair_of}
use Rattle.circuit.specs.Circuit.{Circuit}
use Rattle.circuit.specs.Trim.{trim}
use Rattle.rules.specs.Verdict.{passes}
use Rattle.rewriting.specs.Pair.{is_lower}
use Rattle.rewriting.specs.Verdict.{not_lower}
use Rattle.rewriting.specs.Run.{State, Step}

-- what a site leaves, and its verdict, as the code gives them
abbrev pub stepped : State → (verdict : ℕ) → Step
stepped s v = record { next = s; verdict = v }

-- By the circuit after replacement: it is kept, trimmed, if its pair is lower, else 6. Its pair is that of the trimmed one
-- (`PairBeforeTrim` in Theorems.antt).
abbrev pub settled : State → (replaced : Circuit) → Step
settled s c =
    first (is_lower (pair_of c) (pair_of s.circuit))
    (record { next = record { circuit = trim c; kept = s.kept + 1 }; verdict = passes })
    (record { next = s; verdict = not_lower })
