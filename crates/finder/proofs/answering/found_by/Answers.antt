-- One of the three cases of `searched_values`.
use mathlib.Core.List.{[], ◌∷◌}
use mathlib.Core.Path.{sym, ap, ◌∙◌}
use Rattle.std.specs.Prelude.{is_some}
use Rattle.finder.specs.Search.{searched_of, mask_or_zero}
use Rattle.finder.specs.FindCall.{a_mask}
use Rattle.finder.proofs.CallLaws.{of-spent, of_mask, of_none}
use Rattle.finder.proofs.answering.found_by.Goals as goal

pub returns-then-limit-s : goal.returns-then-limit-s
returns-then-limit-s c = let a = c.args in sym (of-spent a.limit (searched_of a.s) c.if-limit-s.true)

pub returns-in-Some : goal.returns-in-Some
returns-in-Some c = let a = c.args in
    ap (λ m. a_mask ∷ m ∷ a.s.ways ∷ []) (sym (ap mask_or_zero c.in-Some.is))
    ∙ sym (of_mask a.limit (searched_of a.s) c.if-limit-s.false (ap is_some c.in-Some.is))

pub returns-in-None : goal.returns-in-None
returns-in-None c = let a = c.args in sym (of_none a.limit (searched_of a.s) c.if-limit-s.false (ap is_some c.in-None.is))
