-- The arrays stay what they should be, by `arrays-put`.
use native.Mathlib.Numerals.{add-one}
use native.Mathlib.Omega.{arith}
use Rattle.translator.proofs.ArrayLaws.{arrays-put}
use Rattle.translator.proofs.registers.Registers.put.Goals as goal

pub bounds-self-d : goal.bounds-self-d
bounds-self-d c = omega (arith, c.requires.used, c.args.self.now.arrays.fresh-limit)

pub invariant_of-self : goal.invariant_of-self
invariant_of-self c = let r = c.requires in
    let a = arrays-put _ _ _ _ _ c.args.self.now.arrays c.args.v c.args.d r.v_lt_max_references r.absent r.used in
    record { arrays = rw add-one a }

pub returns-clause-owner : goal.returns-clause-owner
returns-clause-owner c = rw add-one
