-- What `map_err` makes of the text's own refusal: law `text-checked` of TextLaws.
use Rattle.std.specs.Prelude.{◌≡◌, Some, Ok, MatchResult, IsErrAnd}
use Rattle.std.proofs.Common.{rules}
use Rattle.napspruce.proofs.TextLaws.{text-checked}
use Rattle.napspruce.proofs.texts.check_text.Goals as goal

pub returns : goal.returns
returns c =
    let made : MatchResult c.validate.result (λ n. c.map_err.result ≡ Ok n)
    (λ e. IsErrAnd c.map_err.result (λ d. d ≡ record { reason = e.reason; table = Some c.args.table })) = search rules in
    text-checked _ _ _ (Some c.args.table) made c.validate.ensures
