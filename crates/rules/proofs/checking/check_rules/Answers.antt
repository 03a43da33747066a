-- Refusal 1, else the walk's.
use mathlib.Core.Path.{sym, ap, ◌∙◌}
use mathlib.Core.List.{[], ◌∷◌}
use Rattle.std.specs.Prelude.{◌≡◌, Some, Ok, MatchResult, IsErrAnd}
use Rattle.std.proofs.Common.{rules}
use Rattle.lines.specs.declared.refusing.Table.TheVariants.{Rules}
use Rattle.lines.specs.Checks.{found, first_found}
use Rattle.lines.proofs.CheckLaws.{back-found, test-passed, chain-refused, found-in-table}
use Rattle.rules.specs.RuleRefusal.{rules_table, rules_refusal}
use Rattle.rules.proofs.checking.check_rules.Goals as goal

pub returns-in_err-refuse_if : goal.returns-in_err-refuse_if
unfolding rules_refusal
returns-in_err-refuse_if c =
    rw (← c.is_partial.ensures) (back-found _ _ c.from_residual.ensures _ (chain-refused _ 0 _ 2 _ c.in_err-refuse_if.ensures))

pub walk_rules-requires : goal.walk_rules-requires
walk_rules-requires c = sym c.is_partial.ensures ∙ test-passed _ _ _ c.in_ok-refuse_if.ensures

pub returns : goal.returns
returns c =
    let made : MatchResult c.walk_rules.result (λ x. c.map_err.result ≡ Ok x)
    (λ reason. IsErrAnd c.map_err.result (λ e. e ≡ record { reason = reason; table = Some Rules })) = search rules in
    found-in-table _ _ (Some Rules) made ∙ ap (λ n. first_found (found n rules_table ∷ [])) c.walk_rules.ensures
