-- What is left begins with the next row, which is renamed and stored: laws `chunk-turn` and `chunk-all`.
use mathlib.Core.Path.{◌∙◌}
use borrow.Author.Rules.{rules}
use Rattle.std.specs.Slice.Iter.{chunks_exact_rest}
use Rattle.rewriting.proofs.LineLaws.{Turn, chunk-turn, chunk-all}
use Rattle.rewriting.proofs.replacing.write_gates.Given.{Over}
use Rattle.rewriting.proofs.replacing.write_gates.Goals as goal
use Rattle.rewriting.proofs.replacing.write_gates.Goals.{In-Some}

turn : (g : Over) (c : In-Some g) → Turn (g.R.Renaming.limit c.args.renaming.now) (g.R.Renaming.image c.args.renaming.now)
    c.args.rows.now c.args.out.now c.args.at c.in-Some.row.now (chunks_exact_rest c.next.new.self) c.loop-row.out c.loop-row.end
turn g c =
    let step = c.in-Some.ensures.steps in
    let l = c.loop-row.invariant in
    chunk-turn _ _ _ step.1.0 (step.1.1 ∙ l.by-threes) _ _ _ _ _ _ _ l.below l.stored c.requires.room

pub rename-left-requires : goal.rename-left-requires
rename-left-requires g c = (turn g (goal.at.rename-left-requires g c).In-Some).left-below

pub rename-right-requires : goal.rename-right-requires
rename-right-requires g c = (turn g (goal.at.rename-right-requires g c).In-Some).right-below

pub write_row-requires : goal.write_row-requires
write_row-requires g c = (turn g (goal.at.write_row-requires g c).In-Some).room

pub overflow_add-end : goal.overflow_add-end
overflow_add-end g c = let t = turn g (goal.at.overflow_add-end g c).In-Some in search rules

pub loop-row-preserved : goal.loop-row-preserved
loop-row-preserved g c =
    let t = turn g (goal.at.loop-row-preserved g c).In-Some in
    record {
      by-threes = c.in-Some.ensures.steps.0 ∙ c.loop-row.invariant.by-threes;
      below = t.rest-below;
      stored = t.stored _ _ c.rename-left.ensures c.rename-right.ensures _ c.write_row.ensures;
    }

pub returns : goal.returns
returns g c =
    let l = c.loop-row.invariant in
    let all = chunk-all _ _ _ _ _ _ _ l.stored (rw l.by-threes at c.in-None.ensures.steps.1.0) in
    record { out_after = all.0; value = all.1 }
