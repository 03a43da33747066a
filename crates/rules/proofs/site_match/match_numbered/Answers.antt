-- What the match says of what the judge found is the site's: law `matched-site`.
use Rattle.circuit.specs.Table.{decode}
use Rattle.rules.specs.Verdict.{match_of}
use Rattle.rules.proofs.JudgedLaws.{matched-site}
use Rattle.rules.proofs.site_match.match_numbered.Goals as goal

pub returns : goal.returns
returns c = let a = c.args in
    matched-site a.rules.now.table.now a.number c.judged.result c.judged.ensures.value (decode a.c.now) a.gate a.mask (match_of c.match_judged.result)
    c.match_judged.ensures.passed c.match_judged.ensures.refused
