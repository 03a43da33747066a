-- Laws of `Named`: the first v references have their new numbers, which are the old ones.
use Prim.Native.Nat.{◌<◌}
use native.Mathlib.Omega.{arith}
use Rattle.std.proofs.lemmas.List.{length-take}
use Rattle.circuit.specs.Circuit.{first_gate}
use Rattle.circuit.specs.Table.{inputs}
use Rattle.circuit.proofs.TrimmingLaws.{named_more, input-name}
use Rattle.circuit.proofs.trimming.name_inputs.Goals as goal

pub loop-v-preserved : goal.loop-v-preserved
loop-v-preserved c = let l = c.loop-v in
    let t = c.args.circuit.now in
    let long = length-take c.first_gate.result c.args.names.now in
    let low : l.v < first_gate (inputs t) = omega arith in
    named_more t l.front l.v l.v l.invariant (omega arith) (input-name t l.v low)
