-- Laws `turn-..`: the state and the verdict of each step are those of the definition. Laws `row-..`: the rows are the sites.
use mathlib.Core.Path.{◌≡◌, refl, sym, ap, ◌∙◌}
use Prim.Native.Nat.{◌<◌}
use native.Mathlib.Omega.{arith}
use lib.ListN.{length}
use Rattle.lists.proofs.Below.{below_length}
use Rattle.lists.proofs.Written.{written_none, written-more}
use Rattle.circuit.proofs.BufferLaws.{written_over}
use Rattle.rules.specs.SiteTable.{site_count}
use Rattle.rules.proofs.JudgedLaws.{remembered-none}
use Rattle.rewriting.specs.Run.{State, step, verdict_at, verdicts_of}
use Rattle.rewriting.specs.RunState.{state_of, step_of}
use Rattle.rewriting.proofs.RunLaws.{after_none, kept-limit}
use Rattle.rewriting.proofs.RunStateLaws.{row-count, row-site, turn-state, turn-verdict}
use Rattle.rewriting.proofs.run.Run.take_sites.Goals as goal

pub loop-i-init : goal.loop-i-init
loop-i-init c = let a = c.args in
    (sym (after_none a.rules.now.table.now a.sites.now.table.now (state_of a.self a.current.now)), written_none 0 _ _, remembered-none a.rules.now.table.now _ refl, c.requires.held)

pub step-stepped-requires-clause-kept_lt_max_sites : goal.step-stepped-requires-clause-kept_lt_max_sites
step-stepped-requires-clause-kept_lt_max_sites c = let a = c.args in
    let l = c.loop-i in
    omega (
      arith,
      kept-limit a.rules.now.table.now a.sites.now.table.now (state_of a.self a.current.now) l.i,
      ap (λ (x : State). x.kept) l.invariant.0,
      c.loop-i-test.true,
      row-count _ a.sites.now.well_formed _ c.as_chunks.ensures.front_len,
      a.sites.now.well_formed,
      c.requires.kept_value,
    )

pub loop-i-preserved : goal.loop-i-preserved
loop-i-preserved c = let a = c.args in
    let l = c.loop-i in
    let t = c.step-stepped in
    let many = row-count _ a.sites.now.well_formed _ c.as_chunks.ensures.front_len in
    let below : l.i < site_count a.sites.now.table.now = omega (arith, many, c.loop-i-test.true) in
    let start = (state_of a.self a.current.now) in
    let x = step_of t.result t.new.current in
    let q = t.ensures.value ∙ ap (step a.rules.now.table.now (state_of l.run l.current)) (row-site _ a.sites.now.well_formed _ c.as_chunks.ensures.front_len c.as_chunks.ensures.front l.i c.loop-i-test.true) in
    let xs = verdicts_of a.rules.now.table.now a.sites.now.table.now start (site_count a.sites.now.table.now) in
    let long : length xs ≡ site_count a.sites.now.table.now = below_length (verdict_at a.rules.now.table.now a.sites.now.table.now start) (site_count a.sites.now.table.now) in (
      turn-state a.rules.now.table.now a.sites.now.table.now start l.i (state_of l.run l.current) l.invariant.0 x q,
      written-more 0 xs a.verdicts.now l.verdicts l.i c.verdict_byte.result l.invariant.1 (omega (arith, long, below)) (omega (arith, below, a.sites.now.well_formed, c.requires.max_sites_in_bounds))
          (c.verdict_byte.ensures ∙ turn-verdict a.rules.now.table.now a.sites.now.table.now start l.i (state_of l.run l.current) l.invariant.0 x q (site_count a.sites.now.table.now) below),
      t.ensures.remembered_2,
      t.ensures.held_after,
    )

pub returns-clause-verdicts_after : goal.returns-clause-verdicts_after
returns-clause-verdicts_after c = let a = c.args in
    let l = c.loop-i in
    let many = row-count _ a.sites.now.well_formed _ c.as_chunks.ensures.front_len in
    let e : l.i ≡ site_count a.sites.now.table.now = omega (arith, many, l.auto.i-end, c.loop-i-test.false) in
    let xs = verdicts_of a.rules.now.table.now a.sites.now.table.now (state_of a.self a.current.now) (site_count a.sites.now.table.now) in
    let long : length xs ≡ site_count a.sites.now.table.now = below_length (verdict_at a.rules.now.table.now a.sites.now.table.now (state_of a.self a.current.now)) (site_count a.sites.now.table.now) in
    written_over xs a.verdicts.now l.verdicts l.i l.invariant.1 (e ∙ sym long)
