-- The trimmed table and its depths are what was put there: laws `trimmed-..`.
use Rattle.circuit.proofs.BackwardLaws.{reverse-front}
use Rattle.circuit.proofs.DepthLaws.{depths-front}
use Rattle.rewriting.proofs.RunStateLaws.{trimmed-state, trimmed-held}
use Rattle.rewriting.proofs.run.Run.start.Goals as goal

pub trim_into-end-requires-clause-measured : goal.trim_into-end-requires-clause-measured
trim_into-end-requires-clause-measured c =
    let p = c.pair_with_reverse_depths-pair.ensures in
    record { depths-are = depths-front c.args.circuit.now _ _ p.d_after; reverse-are = reverse-front c.args.circuit.now _ _ p.u_after }

pub returns-clause-value : goal.returns-clause-value
returns-clause-value c =
    let t = c.trim_into-end in
    trimmed-state c.args.circuit.now c.references.ensures.well_formed _ _ _ t.ensures.table_after t.ensures.value _

pub returns-clause-held : goal.returns-clause-held
returns-clause-held c =
    let t = c.trim_into-end in
    trimmed-held c.args.circuit.now c.references.ensures.well_formed _ _ _ t.ensures.table_after t.ensures.value _
    c.pair_with_reverse_depths-pair.ensures.value _ _ t.ensures.depths_after
