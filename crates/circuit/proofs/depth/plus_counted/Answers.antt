-- By the law that it is a sum, from what `contribution` gives.
use native.Mathlib.Omega.{arith}
use Rattle.circuit.proofs.MultiplicativeDepthLaws.{contribution-le, plus-contribution}
use Rattle.circuit.specs.Circuit.{gate_of}
use Rattle.circuit.proofs.depth.plus_counted.Goals as goal

pub overflow_add-result : goal.overflow_add-result
overflow_add-result c = omega (arith, contribution-le (gate_of c.args.g))

pub returns : goal.returns
returns c = omega (arith, plus-contribution (gate_of c.args.g) c.args.x)
