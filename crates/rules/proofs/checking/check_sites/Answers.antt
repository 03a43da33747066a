-- Check by check: those before have been passed (`chain-passed`), and the next one refuses (`chain-refused`).
use mathlib.Core.Bool.{false}
use mathlib.Core.Path.{◌≡◌, sym, ◌∙◌}
use Rattle.lines.specs.Text.{is_partial}
use Rattle.lines.proofs.CheckLaws.{back-found, test-passed, chain-refused, chain-passed, chain-end}
use Rattle.rules.specs.SiteTable.{sites_refusal}
use Rattle.rules.proofs.RefusalLaws.{whole-lines}
use Rattle.rules.proofs.checking.check_sites.Goals as goal

pub returns-in_err-refuse_if : goal.returns-in_err-refuse_if
unfolding sites_refusal
returns-in_err-refuse_if c =
    rw (← c.is_partial.ensures) (back-found _ _ c.from_residual.ensures _ (chain-refused _ 0 _ 3 _ c.in_err-refuse_if.ensures))

pub sites_head_in_limits-requires : goal.sites_head_in_limits-requires
sites_head_in_limits-requires c =
    let whole : is_partial 3 c.args.t.now ≡ false = sym c.is_partial.ensures ∙ test-passed _ _ _ c.in_ok-refuse_if.ensures in
    (whole-lines _ whole).0

pub returns-in_err-refuse_if-2 : goal.returns-in_err-refuse_if-2
unfolding sites_refusal
returns-in_err-refuse_if-2 c =
    rw (← c.is_partial.ensures, ← c.sites_head_in_limits.ensures)
    (back-found _ _ c.from_residual-in_err-refuse_if-2.ensures _
    (chain-passed _ 0 _ 3 c.in_ok-refuse_if.ensures _ (chain-refused _ 3 _ 3 _ c.in_err-refuse_if-2.ensures)))

pub sites_as_head_says-requires : goal.sites_as_head_says-requires
sites_as_head_says-requires c =
    let whole : is_partial 3 c.args.t.now ≡ false = sym c.is_partial.ensures ∙ test-passed _ _ _ c.in_ok-refuse_if.ensures in
    (whole-lines _ whole).0

pub returns : goal.returns
unfolding sites_refusal
returns c =
    rw (← c.is_partial.ensures, ← c.sites_head_in_limits.ensures, ← c.sites_as_head_says.ensures)
    (chain-passed _ 0 _ 3 c.in_ok-refuse_if.ensures _
    (chain-passed _ 3 _ 3 c.in_ok-refuse_if-2.ensures _ (chain-end _ 5 3 _ c.refuse_if-3.ensures)))
