-- By whether a register is free: the lowest never used is taken (`taken-fresh`), or the one freed last (`taken-freed`).
use mathlib.Core.Path.{◌≡◌}
use Prim.Native.Nat.{◌-◌, ◌<◌}
use native.Mathlib.Omega.{arith}
use Rattle.translator.specs.Registers.{owners_of, freed_of}
use Rattle.translator.specs.declared.registers.Registers.{Registers}
use Rattle.translator.specs.Machine.{max_registers}
use Rattle.translator.specs.Allocation.{next_register}
use Rattle.translator.proofs.ArrayLaws.{arrays-more, arrays-fewer, absent-more, next-fresh}
use Rattle.translator.proofs.RepresentsLaws.{taken-fresh, taken-freed}
use Rattle.translator.proofs.registers.Registers.take.Goals as goal

below : (r : Registers) → r.free ≡ 0 → next_register (owners_of r) (freed_of r) < max_registers → r.fresh < max_registers
below r e h = omega (arith, next-fresh _ _ _ _ _ r.arrays e)

pub invariant_of-self : goal.invariant_of-self
invariant_of-self c = let r = c.args.self.now in
    record { arrays = arrays-more _ _ _ _ _ r.arrays (below r c.if-self-eq0.true c.requires.next_lt_max_registers) }

pub put-requires-clause-absent : goal.put-requires-clause-absent
put-requires-clause-absent c = let r = c.args.self.now in
    absent-more _ _ _ _ _ r.arrays c.args.v (below r c.if-self-eq0.true c.requires.next_lt_max_registers) c.requires.absent

pub returns-then-self-eq0 : goal.returns-then-self-eq0
returns-then-self-eq0 c = let r = c.args.self.now in
    let p = c.put.ensures in
    λ make code. taken-fresh r c.args.v c.put.new.self c.put.result p.freed make code c.if-self-eq0.true
    (below r c.if-self-eq0.true c.requires.next_lt_max_registers) p.value p.owner p.free p.fresh

pub invariant_of-self-2 : goal.invariant_of-self-2
invariant_of-self-2 c = record { arrays = arrays-fewer _ _ _ _ _ c.args.self.now.arrays }

pub put-requires-2-clause-used : goal.put-requires-2-clause-used
put-requires-2-clause-used c = c.args.self.now.arrays.freed-used (c.args.self.now.free - 1) (omega arith)

pub returns : goal.returns
returns c = let r = c.args.self.now in
    let p = c.put-2.ensures in
    λ make code. taken-freed r c.args.v c.put-2.new.self c.put-2.result p.freed make code (r.free - 1) (omega arith) p.value p.owner p.free p.fresh
