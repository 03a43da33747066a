-- The two parts are what is read of the table: law `parts-put` (TextLaws).
use native.Mathlib.Omega.{arith}
use Rattle.napspruce.proofs.TextLaws.{numbers-long, starts_fit, parts-put}
use Rattle.napspruce.proofs.texts.read_circuit.Goals as goal

pub overflow_add-starts : goal.overflow_add-starts
overflow_add-starts c =
    let fits = starts_fit _ c.requires.text_value _ _ c.text_starts-starts.ensures c.min.ensures in
    omega (arith, fits, numbers-long _ c.requires.text_value)

pub read_from-behind-requires-clause-from_in_bounds : goal.read_from-behind-requires-clause-from_in_bounds
read_from-behind-requires-clause-from_in_bounds c = starts_fit _ c.requires.text_value _ _ c.text_starts-starts.ensures c.min.ensures

pub returns : goal.returns
returns c =
    let a = c.read_from-end in
    let b = c.read_from-behind in
    parts-put _ c.requires.text_value _ _ c.text_starts-starts.ensures c.min.ensures _ _ _ _ _ _ _
    a.ensures.value a.ensures.table_after b.ensures.value b.ensures.table_after
