-- `Operable` has what each callee asks; two releases make `release_operands` (`releases`), and the result takes a register (`operation-is`).
use mathlib.Core.Path.{ap, ◌∙◌}
use Prim.Native.Nat.{suc}
use native.Mathlib.Omega.{arith}
use Rattle.circuit.specs.Circuit.{kind_number, gate_of}
use Rattle.circuit.specs.Path.{is_among}
use Rattle.circuit.specs.Table.{decode}
use Rattle.translator.specs.LiveRange.{is_used_from}
use Rattle.translator.specs.Allocation.{next_register}
use Rattle.translator.specs.Machine.{operating}
use Rattle.translator.specs.Registers.{code_of, allocation_with, allocation_of}
use Rattle.translator.proofs.RepresentsLaws.{assigned-is, releases, operation-is}
use Rattle.translator.proofs.allocating.Allocator.operate.Goals as goal

pub release-requires-2-clause-held : goal.release-requires-2-clause-held
release-requires-2-clause-held c =
    ap (λ s. is_among (suc c.args.gate.right) s.owners) (rw c.kept-keep_left.ensures.left at c.release.ensures (code_of c.args.self.now))
    ∙ c.requires.operable.right-still

pub take-result-requires-clause-absent : goal.take-result-requires-clause-absent
take-result-requires-clause-absent c = let a = c.args in
    let k = c.kept-keep_left.ensures in
    let code = code_of a.self.now in
    let w = is_used_from (decode a.ranges.now.circuit) a.number in
    let e = releases w (gate_of a.gate) _ _ _ _ _ k.left k.right (c.release.ensures code) (c.release-2.ensures code) in
    ap (λ s. is_among (suc a.v) s.owners) e ∙ c.requires.operable.result-new

pub take-result-requires-clause-next_lt_max_registers : goal.take-result-requires-clause-next_lt_max_registers
take-result-requires-clause-next_lt_max_registers c = let a = c.args in
    let k = c.kept-keep_left.ensures in
    let code = code_of a.self.now in
    let w = is_used_from (decode a.ranges.now.circuit) a.number in
    let e = releases w (gate_of a.gate) _ _ _ _ _ k.left k.right (c.release.ensures code) (c.release-2.ensures code) in
    omega (arith, ap (λ s. next_register s.owners s.freed) e, c.requires.operable.result-next)

pub returns-clause-allocation : goal.returns-clause-allocation
returns-clause-allocation c = let a = c.args in
    let k = c.kept-keep_left.ensures in
    let code = code_of a.self.now in
    let w = is_used_from (decode a.ranges.now.circuit) a.number in
    let e = releases w (gate_of a.gate) _ _ _ _ _ k.left k.right (c.release.ensures code) (c.release-2.ensures code) in
    let p = c.push.ensures in
    record {
      allocation = assigned-is c.push.new.self _ _ a.v
          (λ d. operating (kind_number a.gate.kind) d c.register_of-left.result c.register_of-right.result)
          (allocation_with c.release-2.new.self code) c.take-result.ensures p.same_registers p.code
          ∙ operation-is w a.v (gate_of a.gate) (allocation_of a.self.now) _ _ _ e c.register_of-left.ensures c.register_of-right.ensures;
      kept = p.beyond;
    }
