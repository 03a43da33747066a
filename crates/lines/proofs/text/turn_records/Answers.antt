-- Laws of `Mapped`: what the first i records give stands in front, and beyond it what was there.
use Rattle.std.proofs.Common.{◌≡◌, ◌+◌, ◌-◌, ◌*◌, ◌≤◌, length, drop, ap, ap₂, ◌∙◌, arith}
use lib.Seq.{sets}
use borrow.Rule.Slice.PartMut.{put_mid}
use Rattle.std.proofs.lemmas.List.{take_rest}
use Rattle.lists.proofs.Stores.{put_mid-sets}
use Rattle.lists.proofs.Records.{all-at, mapped-none, mapped-more, record-room}
use Rattle.lines.proofs.text.turn_records.Goals as goal

pub loop-i-init : goal.loop-i-init
loop-i-init g c = let m = g.R.Record in mapped-none m.turned m.SIZE m.WIDTH _ _

pub turn-requires-clause-ready : goal.turn-requires-clause-ready
turn-requires-clause-ready g c =
    let m = g.R.Record in
    rw (c.SIZE.ensures, take_rest c.args.source.now)
    (all-at m.ready m.SIZE c.loop-i.i c.args.count c.args.source.now c.loop-i-test.true c.requires.ready)

pub loop-i-preserved : goal.loop-i-preserved
loop-i-preserved g c =
    let m = g.R.Record in
    let laws = g.met.R.Record in
    let source = c.args.source.now in
    let i = c.loop-i.i in
    let room : m.WIDTH * i + m.WIDTH ≤ length c.args.buffer.now =
    record-room m.WIDTH i c.args.count _ c.loop-i-test.true c.requires.buffer_in_bounds in
    let made : c.turn.new.other ≡ m.turned (drop (m.SIZE * i) source) =
    c.turn.ensures ∙ ap m.turned (take_rest source (c.SIZE.result * i) ∙ ap (λ k. drop (k * i) source) c.SIZE.ensures) in
    let buffer = c.loop-i.buffer in
    let new = c.turn.new.other in
    let at : c.WIDTH.result * i ≡ m.WIDTH * i = ap (λ k. k * i) c.WIDTH.ensures in
    let part : c.WIDTH.result * i + c.WIDTH-in-loop-i.result - c.WIDTH.result * i ≡ m.WIDTH = omega (arith, c.WIDTH-in-loop-i.ensures) in
    mapped-more m.turned m.SIZE m.WIDTH source c.args.buffer.now laws.wide buffer _ i c.loop-i.invariant room
    (ap₂ (λ j k. put_mid j k buffer new) at part
    ∙ put_mid-sets (m.WIDTH * i) m.WIDTH buffer new (rw c.loop-i.invariant.long room) (ap length made ∙ laws.wide (drop (m.SIZE * i) source))
    ∙ ap (sets buffer (m.WIDTH * i)) made)
