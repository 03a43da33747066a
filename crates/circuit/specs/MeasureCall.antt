-- The call `measure`: what it gives back, for every input.
use Rattle.std.specs.Prelude.{ℕ, List, [], ◌∷◌, Result as Returned}
use Rattle.lines.specs.declared.refusing.Refusal.{Refusal as GivenRefusal}
use Rattle.lines.specs.Refusal.{Result, answer_of}
use Rattle.lines.specs.Checks.{found, answering}
use Rattle.circuit.specs.declared.critical.DepthPair.{DepthPair}
use Rattle.circuit.specs.Table.{decode}
use Rattle.circuit.specs.Refusal.{refusal, circuit_table}
use Rattle.circuit.specs.Depth.{circuit_depth}
use Rattle.circuit.specs.Critical.{critical_count}

-- the answer: a success gives D and N
abbrev pub paper_values : Returned DepthPair GivenRefusal → Result
paper_values = answer_of (λ p. p.depth ∷ p.critical ∷ [])

-- the circuit's refusals, 1 and 4, 5, 11, 6, 7; else the pair of the circuit as read
unfoldable pub measuring : (circuit : List ℕ) → Result
measuring circuit =
    answering (found (refusal circuit) circuit_table ∷ []) (circuit_depth (decode circuit) ∷ critical_count (decode circuit) ∷ [])
