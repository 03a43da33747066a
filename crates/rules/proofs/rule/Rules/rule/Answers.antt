-- Each rule of a well-formed table is well formed at its place: law `rule-at-place`.
use mathlib.Core.Path.{sym, ◌∙◌}
use Rattle.rules.proofs.RefusalLaws.{rule-at-place}
use Rattle.rules.proofs.rule.Rules.rule.Goals as goal

pub invariant_of-result : goal.invariant_of-result
invariant_of-result c =
    record {
      well_formed = rule-at-place c.args.self.now.table.now c.args.self.now.well_formed c.args.number
          (sym c.has_rule.ensures ∙ c.if-not-has_rule.false) c.place.result c.place.ensures;
    }
