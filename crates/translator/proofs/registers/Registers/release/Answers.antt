-- One law a case: a value that is kept changes nothing, and else the arrays say the release (`release-freed`).
use native.Mathlib.Omega.{arith}
use Prim.Native.Nat.{◌<◌}
use Rattle.translator.specs.Machine.{max_registers}
use Rattle.translator.proofs.ArrayLaws.{stack-length, arrays-release}
use Rattle.translator.proofs.RepresentsLaws.{release-none, release-freed}
use Rattle.translator.proofs.registers.Registers.release.Goals as goal

pub returns-then-keep : goal.returns-then-keep
returns-then-keep c = λ code. release-none c.args.keep c.args.v _ c.if-keep.true

pub bounds-self-self : goal.bounds-self-self
bounds-self-self c = let r = c.args.self.now in
    omega (arith, c.requires.free_lt_max_registers c.if-keep.false, stack-length r.freed.now r.free)

pub invariant_of-self : goal.invariant_of-self
invariant_of-self c = let r = c.args.self.now in
    let room : r.free < max_registers = omega (arith, c.requires.free_lt_max_registers c.if-keep.false, stack-length r.freed.now r.free) in
    record { arrays = arrays-release _ _ _ _ _ r.arrays c.args.v c.requires.held room }

pub returns : goal.returns
returns c = let r = c.args.self.now in
    let room : r.free < max_registers = omega (arith, c.requires.free_lt_max_registers c.if-keep.false, stack-length r.freed.now r.free) in
    release-freed r c.args.keep c.args.v c.if-keep.false c.requires.held room
