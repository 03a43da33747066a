-- No table has such a number, its entry is read, or it is worked out and kept: laws `judged-beyond`, `remembered-more`.
use Rattle.rules.proofs.JudgedLaws.{judged-beyond}
use Rattle.rules.proofs.rule.Rules.judged_once.Goals as goal

pub returns-then-number-gt-MAX_RULES-clause-value : goal.returns-then-number-gt-MAX_RULES-clause-value
returns-then-number-gt-MAX_RULES-clause-value c =
    judged-beyond c.args.self.now.table.now c.args.number c.args.self.now.well_formed c.if-number-gt-MAX_RULES.true
