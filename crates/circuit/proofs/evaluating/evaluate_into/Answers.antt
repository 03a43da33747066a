-- Rests on the three functions that it calls: what they leave is joined by law `evaluated`.
use Rattle.circuit.proofs.EvaluateLaws.{evaluated}
use Rattle.circuit.proofs.evaluating.evaluate_into.Goals as goal

pub returns : goal.returns
returns c = let loaded = c.load_inputs in
    let ran = c.run_gates in
    evaluated c.args.circuit.now c.args.bytes.now loaded.new.bits ran.new.bits c.args.out.now _ c.requires.bytes_len loaded.ensures
    ran.ensures c.emit_outputs.ensures
