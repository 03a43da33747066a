-- The front of the work array is the trimmed table (law `front-is`); the rest is `translate_trimmed`.
use mathlib.Core.Path.{ap, ◌∙◌}
use Rattle.circuit.specs.Table.{decode}
use Rattle.circuit.specs.Trim.{trim_of}
use Rattle.circuit.proofs.FrontLaws.{front-is}
use Rattle.circuit.proofs.TrimTheorems.{decode-trim, trimmed-is-well-formed}
use Rattle.translator.specs.TranslateCall.{need_checks, translated}
use Rattle.translator.proofs.CallLaws.{trimmed-again}
use Rattle.translator.proofs.program.translate_within.Goals as goal

pub of-requires : goal.of-requires
of-requires g c = let r = c.trim-end in
    let t = c.args.circuit.now in
    rw (front-is (trim_of t) _ r.new.out r.ensures.out_after r.result r.ensures.value) (trimmed-is-well-formed t c.requires.well_formed)

pub new-ranges-requires-clause-trimmed : goal.new-ranges-requires-clause-trimmed
new-ranges-requires-clause-trimmed g c = let r = c.trim-end in
    let t = c.args.circuit.now in
    rw (c.of.ensures ∙ front-is (trim_of t) _ r.new.out r.ensures.out_after r.result r.ensures.value) (trimmed-again t c.requires.well_formed)

pub returns : goal.returns
returns g c = let r = c.trim-end in
    let t = c.args.circuit.now in
    let front = c.new-ranges.ensures ∙ c.of.ensures ∙ front-is (trim_of t) _ r.new.out r.ensures.out_after r.result r.ensures.value in
    c.translate_trimmed.ensures
    ∙ ap (λ x. translated (need_checks c.args.limit x) x c.args.buffer.now) (ap decode front ∙ decode-trim t c.requires.well_formed)
