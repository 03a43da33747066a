-- 01, Depth and critical count, 5: when a pair (D, N) is lower.
use Rattle.std.specs.Prelude.{ℕ, ◌+◌, ◌*◌, Bool, ◌&&◌, ◌||◌, eqb, ltb}
use Rattle.circuit.specs.Circuit.{max_gates}
use Rattle.circuit.specs.declared.critical.DepthPair.{DepthPair}

-- D is lower, or D is equal and N lower.
unfoldable pub is_lower : (new old : DepthPair) → Bool
is_lower new old = ltb new.depth old.depth || (eqb new.depth old.depth && ltb new.critical old.critical)

-- A pair as one number, 2,049 D + N: as no circuit within the limits has an N above 2,048, a lower pair weighs less (`LowerWeighsLess` in
-- Theorems.antt).
abbrev pub weight : DepthPair → ℕ
weight p = (max_gates + 1) * p.depth + p.critical
