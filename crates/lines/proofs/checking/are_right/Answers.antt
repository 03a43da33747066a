-- A chunk is the next record (`all-chunk`); the loop ends where less than a record is left (`all-end`).
use Rattle.std.proofs.Common.{◌/◌, ◌<◌, ◌&&◌, length, ap, sym, ◌∙◌}
use mathlib.Core.Bool.{and-true, and_assoc}
use Rattle.std.specs.Slice.Iter.{chunks_exact_rest}
use Rattle.lists.specs.Records.{all_records}
use Rattle.lists.proofs.Records.{all-chunk, all-end}
use Rattle.lines.proofs.checking.are_right.Goals as goal

pub loop-part-preserved : goal.loop-part-preserved
loop-part-preserved g c =
    let m = g.R.Record in
    let laws = g.met.R.Record in
    let step = c.in-Some.ensures.steps in
    let part = c.in-Some.part.now in
    let after = chunks_exact_rest c.next.new.self in
    let before = c.loop-part.invariant in
    let ok = c.loop-part.ok in
    let left = all_records m.right m.SIZE (length after / m.SIZE) after in (
      step.0 ∙ before.0,
      before.1 ∙ ap (λ b. ok && b) (ap (λ t. all_records m.right m.SIZE (length t / m.SIZE) t) step.1.0
          ∙ all-chunk m.right m.SIZE laws.some laws.right_near part after (step.1.1 ∙ before.0))
          ∙ sym (and_assoc ok (m.right part) left) ∙ ap (λ b. ok && b && left) (sym c.is_right-ok.ensures),
    )

pub returns : goal.returns
returns g c =
    let m = g.R.Record in
    let rest = chunks_exact_rest c.loop-part.part-iterator in
    let before = c.loop-part.invariant in
    let short : length rest < m.SIZE = rw before.0 at c.in-None.ensures.steps.1.0 in
    sym (before.1 ∙ ap (λ b. c.loop-part.ok && b) (all-end m.right m.SIZE g.met.R.Record.some rest short) ∙ and-true c.loop-part.ok)
