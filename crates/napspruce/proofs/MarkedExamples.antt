-- The marked examples, by computing: every definition on the way is unfolded. Assumes nothing.
use mathlib.Core.Path.{refl}
use mathlib.Core.Option.{bind}
use Rattle.lists.specs.Same.{same}
use Rattle.lists.specs.Below.{all_below, map_below}
use Rattle.lists.specs.Each.{append_each}
use Rattle.lists.specs.Records.{map_records, all_records}
use Rattle.lines.specs.Number.{digits, write_number, read_number}
use Rattle.lines.specs.Line.{is_row, write_line, read_line, is_line}
use Rattle.lines.specs.Text.{is_partial, read_text, write_table}
use Rattle.lines.specs.Checks.{check, first_found, answering}
use Rattle.circuit.specs.Table.{start_run, lines_of, encode_lines, encode}
use Rattle.circuit.specs.Each.{all_gates, count_gates}
use Rattle.circuit.specs.Evaluation.{bit_op}
use Rattle.circuit.specs.Path.{is_among, is_used}
use Rattle.circuit.specs.Refusal.{starts_ascend, refusal}
use Rattle.circuit.specs.Depth.{set_levels, start_levels, depths, largest, circuit_depth}
use Rattle.circuit.specs.ReverseDepth.{mark_outputs, raise_operands, raise_gates, reverse_depths}
use Rattle.circuit.specs.Critical.{critical_count}
use Rattle.circuit.specs.Trim.{rank, keep_gates, trim}
use Rattle.circuit.specs.MeasureCall.{measuring}
use Rattle.rules.specs.RuleTable.{place_from}
use Rattle.rules.specs.RuleRefusal.{walk, walk_from_top, all_rules, rules_refusal}
use Rattle.rules.specs.SiteTable.{sites_refusal}
use Rattle.rules.specs.Soundness.{is_sound}
use Rattle.rules.specs.Match.{bind_reference, bind_operands, match_gate, match_gates, match_rule}
use Rattle.rules.specs.Verdict.{judgement, match_at, match_site}
use Rattle.rules.specs.JudgeCall.{judging}
use Rattle.rules.specs.MatchCall.{matching}
use Rattle.rewriting.specs.Pair.{is_lower}
use Rattle.rewriting.specs.Replacement.{instance_of, renumber, replace}
use Rattle.rewriting.specs.Verdict.{verdict_of}
use Rattle.rewriting.specs.Run.{step, after_sites}
use Rattle.rewriting.specs.RewriteCall.{done_values, rewriting}
use Rattle.translator.specs.Need.{count_below, need}
use Rattle.translator.specs.Actions.{output_loads, actions_from, actions, is_read}
use Rattle.translator.specs.Allocation.{assign, release, release_operands, allocate}
use Rattle.translator.specs.Program.{program}
use Rattle.translator.specs.TranslateCall.{translating}
use Rattle.napspruce.specs.Listing.{summary, verdict_lines, listing_table}
use Rattle.napspruce.specs.ListingCall.{text_refusal, list_texts, listing_outcome}
use Rattle.napspruce.specs.Printed.{printed}
use Rattle.napspruce.specs.MarkedExamples.{MarkedExamplesHold}

pub marked-examples-hold : MarkedExamplesHold
unfolding bind
    same all_below map_below append_each map_records all_records
    digits write_number read_number is_row write_line read_line is_line is_partial read_text write_table check first_found answering
    start_run lines_of encode_lines encode starts_ascend set_levels start_levels all_gates count_gates bit_op is_among is_used refusal depths largest circuit_depth mark_outputs raise_operands
    raise_gates reverse_depths critical_count rank keep_gates trim measuring
    place_from walk walk_from_top all_rules rules_refusal sites_refusal is_sound bind_reference bind_operands match_gate match_gates match_rule
    judgement match_at match_site judging matching
    is_lower instance_of renumber replace verdict_of step after_sites done_values rewriting
    count_below need output_loads actions_from actions is_read assign release release_operands allocate program translating
    summary verdict_lines listing_table text_refusal list_texts listing_outcome printed
marked-examples-hold = refl
