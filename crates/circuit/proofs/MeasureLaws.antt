-- What the call `measure` gives for a well-formed table. Assumes nothing.
use mathlib.Core.Path.{◌≡◌}
use mathlib.Core.List.{List, [], ◌∷◌}
use Prim.Native.Nat.{ℕ}
use Rattle.lines.specs.Refusal.{gives}
use Rattle.lines.proofs.CheckLaws.{answer-gives}
use Rattle.circuit.specs.Table.{decode}
use Rattle.circuit.specs.WellFormed.{WellFormed}
use Rattle.circuit.specs.Depth.{circuit_depth}
use Rattle.circuit.specs.Critical.{critical_count}
use Rattle.circuit.specs.MeasureCall.{measuring}
use Rattle.circuit.proofs.RefusalLaws.{well-formed-accepted}

pub measurement-well-formed : (t : List ℕ) → WellFormed t → measuring t ≡ gives (circuit_depth (decode t) ∷ critical_count (decode t) ∷ [])
unfolding measuring
measurement-well-formed t w = answer-gives _ _ (well-formed-accepted t w, tt)
