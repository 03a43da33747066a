use mathlib.Core.Path.{◌≡◌}
use Rattle.lists.proofs.Written.{Written}
use Rattle.rules.specs.Remembered.{Remembered}
use Rattle.rules.specs.SiteTable.{site_count}
use Rattle.rewriting.specs.Run.{after_sites, verdicts_of}
use Rattle.rewriting.specs.RunState.{state_of, Held}
use Rattle.rewriting.proofs.run.Run.take_sites.Given as goal

abbrev pub invariant-loop-i : goal.invariant-loop-i
invariant-loop-i l =
    (state_of l.run l.current ≡ after_sites l.rules.table.now l.sites.table.now (state_of l.initial.run l.initial.current) l.i)
    × Written (verdicts_of l.rules.table.now l.sites.table.now (state_of l.initial.run l.initial.current) (site_count l.sites.table.now)) l.initial.verdicts l.verdicts l.i
    × Remembered l.rules.table.now l.known × Held l.run l.current
