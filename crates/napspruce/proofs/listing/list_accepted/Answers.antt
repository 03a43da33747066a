-- Each text is read as far as its front, which is listed as the whole (`fronts-listed` in CallLaws).
use mathlib.Core.Path.{ap, ◌∙◌}
use Rattle.lines.specs.Text.{is_partial, read_text}
use Rattle.napspruce.specs.Front.{max_rules_lines, max_sites_lines}
use Rattle.napspruce.proofs.CallLaws.{text-whole, front-whole, fronts-listed}
use Rattle.napspruce.proofs.ShortenedLaws.{shortened-whole}
use Rattle.napspruce.proofs.listing.list_accepted.Goals as goal

pub list_tables-requires-clause-circuit_value : goal.list_tables-requires-clause-circuit_value
list_tables-requires-clause-circuit_value c =
    ap (is_partial 3) c.read_circuit-circuit.ensures
    ∙ shortened-whole (read_text c.args.circuit.now) (text-whole c.args.circuit.now c.requires.circuit_value)

pub list_tables-requires-clause-rules_value : goal.list_tables-requires-clause-rules_value
list_tables-requires-clause-rules_value c =
    ap (is_partial 3) c.read_front-rules.ensures ∙ front-whole max_rules_lines c.args.rules.now c.requires.rules_value

pub list_tables-requires-clause-sites_value : goal.list_tables-requires-clause-sites_value
list_tables-requires-clause-sites_value c =
    ap (is_partial 3) c.read_front-sites.ensures ∙ front-whole max_sites_lines c.args.sites.now c.requires.sites_value

pub returns : goal.returns
returns c =
    let a = c.args in
    c.list_tables.ensures
    ∙ fronts-listed a.circuit.now a.rules.now a.sites.now a.listing.now c.requires.circuit_value c.requires.rules_value c.requires.sites_value
    _ _ _ c.read_circuit-circuit.ensures c.read_front-rules.ensures c.read_front-sites.ensures
