-- The trimmed table and its depths are what was put there: laws `trimmed-..`.
use Rattle.rewriting.proofs.RunStateLaws.{trimmed-state, trimmed-held}
use Rattle.rewriting.proofs.run.Run.keep.Goals as goal

pub returns : goal.returns
returns c =
    let t = c.trim_into-end in
    let a = c.args in
    record {
      value = trimmed-state a.kept.now c.requires.well_formed _ _ _ t.ensures.table_after t.ensures.value _;
      held = trimmed-held a.kept.now c.requires.well_formed _ _ _ t.ensures.table_after t.ensures.value _
          c.requires.new_value _ _ t.ensures.depths_after;
    }
