-- The run has a well-formed table.
use mathlib.Core.Path.{refl}
use Rattle.rewriting.proofs.run.Run.circuit.Goals as goal

pub of-requires : goal.of-requires
of-requires c = c.requires.well-formed

pub returns : goal.returns
returns c = rw c.of.ensures (record { value = refl; well_formed = c.requires.well-formed })
