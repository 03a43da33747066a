-- The validation says which records there are (`Valid`); the room that is left, or not, decides the rest (CallLaws).
use Rattle.std.proofs.Common.{sym, ap, ◌∙◌, arith}
use borrow.Author.Tests.{ltb-true, ltb-false}
use Rattle.lists.proofs.Records.{all-imply, room-none, room-there}
use Rattle.lines.specs.Refusal.{refused, leaving}
use Rattle.lines.proofs.CheckLaws.{back-refused, test-refused, test-passed}
use Rattle.lines.proofs.CallLaws.{valid-is, conversion-refused, conversion-short, conversion-done}
use Rattle.lines.proofs.text.convert_records.Goals as goal

pub returns-in_err-count : goal.returns-in_err-count
returns-in_err-count g c =
    let m = g.R.Record in
    ap (λ a. leaving a c.args.buffer.now) (back-refused _ _ _ c.from_residual.ensures)
    ∙ conversion-refused m.SIZE m.WIDTH m.right m.turned _ _ _ _ (sym c.in_err-count.ensures)

pub returns-in_err-refuse_if : goal.returns-in_err-refuse_if
returns-in_err-refuse_if g c =
    let m = g.R.Record in
    let v = valid-is m.SIZE m.right _ _ (sym c.in_ok-count.ensures) in
    let short = test-refused _ _ _ _ c.in_err-refuse_if.ensures in
    let none = room-none m.WIDTH _ _ g.met.R.Record.other_some (rw c.WIDTH.ensures at (ltb-true _ _ short.0)) in
    ap (λ a. leaving a c.args.buffer.now) (back-refused _ _ _ c.from_residual-in_err-refuse_if.ensures)
    ∙ conversion-short m.SIZE m.WIDTH m.right m.turned _ _ _ v _ (ap (λ x. refused x.number x.table) short.1) none

pub turn_records-requires : goal.turn_records-requires
turn_records-requires g c =
    let m = g.R.Record in
    let laws = g.met.R.Record in
    let v = valid-is m.SIZE m.right _ _ (sym c.in_ok-count.ensures) in
    record {
      source_in_bounds = omega (arith, v.whole.long);
      ready = all-imply m.right m.SIZE m.ready laws.right_ready _ _ v.right;
      buffer_in_bounds = room-there m.WIDTH _ _ laws.other_some (rw c.WIDTH.ensures at (ltb-false _ _ (test-passed _ _ _ c.in_ok-refuse_if.ensures)));
    }

pub returns : goal.returns
returns g c =
    let m = g.R.Record in
    let laws = g.met.R.Record in
    let v = valid-is m.SIZE m.right _ _ (sym c.in_ok-count.ensures) in
    let room = room-there m.WIDTH _ _ laws.other_some (rw c.WIDTH.ensures at (ltb-false _ _ (test-passed _ _ _ c.in_ok-refuse_if.ensures))) in
    conversion-done m.SIZE m.WIDTH m.right m.turned _ _ _ v laws.wide room _ c.turn_records.ensures
