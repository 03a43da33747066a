-- No verdict before the match applies, so that the reference is a gate: law `early-gate`.
use Rattle.circuit.specs.Table.{decode}
use Rattle.rules.specs.Verdict.{number_of}
use Rattle.rules.proofs.MatchLaws.{gate-below}
use Rattle.rules.proofs.VerdictLaws.{early-gate}
use Rattle.rules.proofs.site_match.match_judged.Goals as goal

pub match_at-requires : goal.match_at-requires
match_at-requires c = let a = c.args in
    (gate-below a.c.now a.gate (early-gate (decode a.c.now) a.gate (number_of a.judged) c.in_ok-rule.ensures.value), c.in_ok-rule.ensures.limit)
