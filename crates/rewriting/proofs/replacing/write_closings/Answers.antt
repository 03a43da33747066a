-- Laws of `LinesTo`: the closing lines of the first i outputs are there.
use mathlib.Core.Path.{refl, ap, ◌∙◌}
use mathlib.Core.List.{map}
use Prim.Native.Nat.{◌≤◌}
use native.Mathlib.Omega.{arith}
use lib.ListN.{length, length-map}
use Rattle.circuit.specs.Table.{decode}
use Rattle.circuit.proofs.TableLaws.{outputs-length}
use Rattle.rewriting.specs.Replacement.{renumber}
use Rattle.rewriting.proofs.LineLaws.{lines_none, lines_more, lines-all, renamed-output-step}
use borrow.Author.Rules.{rules}
use Rattle.rewriting.proofs.replacing.write_closings.Goals as goal

pub loop-i-init : goal.loop-i-init
loop-i-init c = lines_none _ _ _ _

pub loop-i-preserved : goal.loop-i-preserved
loop-i-preserved c =
    let s = c.args.s.now in
    let ρ = renumber s.gate s.closing s.count in
    lines_more _ _ _ _ _ _ c.loop-i.invariant _ (renamed-output-step ρ c.args.c.now c.loop-i.i (omega arith))
    _ _ _ refl (c.rename-new.ensures ∙ ap ρ c.output-old.ensures.value) refl _ c.write_row.ensures

pub returns : goal.returns
returns c =
    let s = c.args.s.now in
    let os = (decode c.args.c.now).outputs in
    let ρ = renumber s.gate s.closing s.count in
    let all : length (map ρ os) ≤ c.loop-i.i = omega (arith, length-map os ρ, outputs-length c.args.c.now) in
    record { out_after = lines-all _ _ _ _ _ _ c.loop-i.invariant all; value = search rules }
