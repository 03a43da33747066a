-- Laws `raise-dead` and `raise-both`, for a dead gate and for the two stores of a live one.
use mathlib.Core.Path.{sym}
use Rattle.circuit.proofs.BackwardLaws.{raise-both}
use Rattle.circuit.proofs.PassLaws.{raise-dead}
use Rattle.circuit.specs.Circuit.{gate_of}
use Rattle.circuit.proofs.reverse_depth.raise_operands.Goals as goal

pub returns-then-u-own-eq0 : goal.returns-then-u-own-eq0
returns-then-u-own-eq0 c = let a = c.args in
    sym (raise-dead a.own (gate_of a.g) a.u.now c.if-u-own-eq0.true)

pub returns : goal.returns
returns c = let a = c.args in
    raise-both a.own (gate_of a.g) a.u.now _ _ _ c.if-u-own-eq0.false c.plus_counted-x.ensures c.raise_place.ensures c.raise_place-2.ensures
