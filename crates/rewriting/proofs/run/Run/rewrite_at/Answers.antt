-- Each verdict before replacement is the site's: laws `site-..`. The replaced table is what `settle` asks for: laws `replac..`.
use mathlib.Core.Path.{◌∙◌}
use Rattle.std.proofs.lemmas.Result.{err_from_is_err_and}
use Rattle.circuit.proofs.FrontLaws.{front-is}
use Rattle.rules.specs.Remembered.{said}
use Rattle.rules.specs.SiteTable.{site}
use Rattle.rules.proofs.JudgedLaws.{refused-site}
use Rattle.rewriting.specs.RunState.{state_of}
use Rattle.rewriting.proofs.RunStateLaws.{site-refused, site-failing, site-large, replacing-asks, replaced-asks, replaced-step}
use Rattle.rewriting.proofs.run.Run.rewrite_at.Goals as goal

pub returns-in_err-rule-clause-value : goal.returns-in_err-rule-clause-value
returns-in_err-rule-clause-value c =
    let a = c.args in
    let rs = a.rules.now.table.now in
    let p = err_from_is_err_and c.from_residual.result c.from_residual.ensures.1 in
    let v = c.in_err-rule.field-0.0 in
    rw (p.1, p.2)
    (site-refused rs (state_of a.self a.current.now) (site a.number a.gate a.mask) v
    (refused-site rs a.number v c.in_err-rule.ensures.value (state_of a.self a.current.now).circuit a.gate a.mask))

pub returns-in_err-b-clause-value : goal.returns-in_err-b-clause-value
returns-in_err-b-clause-value c =
    let a = c.args in
    let rs = a.rules.now.table.now in
    let p = err_from_is_err_and c.from_residual-in_err-b.result c.from_residual-in_err-b.ensures.1 in
    let t = c.circuit-circuit in
    rw (p.1, p.2)
    (site-failing t.result rs (state_of a.self a.current.now) t.ensures.value (site a.number a.gate a.mask) (said c.in_ok-rule.rule)
    c.in_ok-rule.ensures.value c.in_err-b.field-0.0 c.in_err-b.ensures.passed)

pub returns-in_err-check_size-clause-value : goal.returns-in_err-check_size-clause-value
returns-in_err-check_size-clause-value c =
    let a = c.args in
    let rs = a.rules.now.table.now in
    let p = err_from_is_err_and c.from_residual-in_err-check_size.result c.from_residual-in_err-check_size.ensures.1 in
    let t = c.circuit-circuit in
    rw (p.1, p.2)
    (site-large t.result rs (state_of a.self a.current.now) t.ensures.value (site a.number a.gate a.mask) (said c.in_ok-rule.rule)
    c.in_ok-rule.ensures.value c.in_ok-b.b c.in_ok-b.ensures.passed c.in_err-check_size.field-0.0 c.in_err-check_size.ensures)

pub replace-end-requires : goal.replace-end-requires
replace-end-requires c =
    let a = c.args in
    let rs = a.rules.now.table.now in
    let t = c.circuit-circuit in
    let (gate, below, size) =
    replacing-asks t.result rs (state_of a.self a.current.now) t.ensures.value (site a.number a.gate a.mask) (said c.in_ok-rule.rule)
    c.in_ok-rule.ensures.value c.in_ok-b.b c.in_ok-b.ensures.passed
    t.ensures.well_formed a.rules.now.well_formed c.in_ok-check_size.ensures in
    record { gate_value = gate; bound_below = below; within_size = size; max_table_in_bounds = c.requires.max_table_in_bounds }

pub of-requires : goal.of-requires
of-requires c =
    let a = c.args in
    let rs = a.rules.now.table.now in
    let t = c.circuit-circuit in
    let e = c.replace-end in
    let made = front-is _ a.work.now e.new.out e.ensures.out_after e.result e.ensures.value in
    (replaced-asks t.result rs (state_of a.self a.current.now) t.ensures.value (site a.number a.gate a.mask) (said c.in_ok-rule.rule)
    c.in_ok-rule.ensures.value c.in_ok-b.b c.in_ok-b.ensures.passed
    t.ensures.well_formed a.rules.now.well_formed c.in_ok-check_size.ensures _ made).0

pub settle-requires-clause-same_below : goal.settle-requires-clause-same_below
settle-requires-clause-same_below c =
    let a = c.args in
    let rs = a.rules.now.table.now in
    let t = c.circuit-circuit in
    let e = c.replace-end in
    let made = front-is _ a.work.now e.new.out e.ensures.out_after e.result e.ensures.value in
    rw c.of.ensures
    (replaced-asks t.result rs (state_of a.self a.current.now) t.ensures.value (site a.number a.gate a.mask) (said c.in_ok-rule.rule)
    c.in_ok-rule.ensures.value c.in_ok-b.b c.in_ok-b.ensures.passed
    t.ensures.well_formed a.rules.now.well_formed c.in_ok-check_size.ensures _ made).1

pub returns-clause-value : goal.returns-clause-value
returns-clause-value c =
    let a = c.args in
    let rs = a.rules.now.table.now in
    let t = c.circuit-circuit in
    let e = c.replace-end in
    let made = front-is _ a.work.now e.new.out e.ensures.out_after e.result e.ensures.value in
    (rw c.of.ensures at c.settle.ensures.value)
    ∙ replaced-step t.result rs (state_of a.self a.current.now) t.ensures.value (site a.number a.gate a.mask) (said c.in_ok-rule.rule)
    c.in_ok-rule.ensures.value c.in_ok-b.b c.in_ok-b.ensures.passed
    t.ensures.well_formed a.rules.now.well_formed c.in_ok-check_size.ensures _ made
