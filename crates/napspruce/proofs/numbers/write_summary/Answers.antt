-- Three rows make the summary: law `summary-stores`.
use mathlib.Core.Path.{ap, ◌∙◌}
use mathlib.Core.List.{[], ◌∷◌}
use Prim.Native.Nat.{◌+◌}
use lib.Seq.{sets}
use Rattle.napspruce.specs.Listing.{new_pair_kind, counts_kind}
use Rattle.napspruce.proofs.NumberLaws.{summary-stores}
use Rattle.napspruce.proofs.numbers.write_summary.Goals as goal

pub returns : goal.returns
returns c = let a = c.args in
    let w1 = c.write_row in
    let w2 = c.write_row-2 in
    let w3 = c.write_row-3 in
    w3.ensures ∙ ap (λ d. sets d (a.at + 6) (counts_kind ∷ a.s.sites ∷ a.s.kept ∷ []))
    (w2.ensures ∙ ap (λ d. sets d (a.at + 3) (new_pair_kind ∷ a.s.new.depth ∷ a.s.new.critical ∷ [])) w1.ensures)
    ∙ summary-stores a.table.now a.at a.s
