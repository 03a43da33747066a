-- `Turnable` has what each callee asks; what they leave is joined by `represents-then`.
use mathlib.Core.Path.{sym, ap, subst}
use native.Mathlib.Omega.{arith}
use lib.ListN.{length}
use Rattle.translator.specs.declared.allocating.Allocator.{Allocator}
use Rattle.translator.specs.LiveRange.{is_used_from}
use Rattle.translator.specs.Allocation.{Allocation, operated}
use Rattle.translator.specs.Allocator.{ensure_loaded, ensure_operands}
use Rattle.circuit.specs.Circuit.{Gate, gate_of}
use Rattle.circuit.specs.Table.{decode}
use Rattle.translator.specs.Registers.{allocation_of, Represents, Loadable, Operable}
use Rattle.translator.proofs.RepresentsLaws.{code-written, represents-then, ensure-longer, operated-longer}
use Rattle.translator.proofs.allocating.Allocator.gate_turn.Goals as goal

-- both operands are loaded
both : (old a b : Allocator) (g : Gate)
    → Represents a old (ensure_loaded g.left (allocation_of old))
    → Represents b a (ensure_loaded g.right (allocation_of a))
    → Represents b old (ensure_operands g (allocation_of old))
both old a b g p q = represents-then old a b (ensure_loaded g.left (allocation_of old)) (ensure_loaded g.right) p q (ensure-longer g.right _)

pub ensure_loaded-requires-clause-code_in_bounds : goal.ensure_loaded-requires-clause-code_in_bounds
ensure_loaded-requires-clause-code_in_bounds c = let g = gate_of c.args.gate in
    omega (arith, c.requires.turnable.fits, ensure-longer g.right (ensure_loaded g.left (allocation_of c.args.self.now)))

pub ensure_loaded-requires-2 : goal.ensure_loaded-requires-2
ensure_loaded-requires-2 c = let v = c.args.gate.right in
    let b = c.ensure_loaded.ensures.allocation in
    record {
      v_lt_max_references = omega (arith, c.requires.left_lt_v);
      loadable = subst (λ (s : Allocation). Loadable v s) (sym b.allocation) c.requires.turnable.right-next;
      code_in_bounds = omega (arith, c.requires.turnable.fits, ap (λ s. length (ensure_loaded v s).code) b.allocation, b.kept.long);
    }

pub operate-requires : goal.operate-requires
operate-requires c = let a = c.args in
    let b = both _ _ _ (gate_of a.gate) c.ensure_loaded.ensures.allocation c.ensure_loaded-2.ensures.allocation in
    record {
      left_lt_v = c.requires.left_lt_v;
      number_bound = c.requires.number_bound;
      operable = subst (λ (s : Allocation). Operable (is_used_from (decode a.ranges.now.circuit) a.number) a.v (gate_of a.gate) s)
          (sym b.allocation) c.requires.turnable.operable;
      written_in_bounds = omega (arith, c.requires.turnable.fits, b.kept.long, code-written c.ensure_loaded-2.new.self _ b.allocation);
    }

pub returns-clause-allocation : goal.returns-clause-allocation
returns-clause-allocation c = let a = c.args in
    let w = is_used_from (decode a.ranges.now.circuit) a.number in
    let p = both _ _ _ (gate_of a.gate) c.ensure_loaded.ensures.allocation c.ensure_loaded-2.ensures.allocation in
    represents-then _ _ _ (ensure_operands (gate_of a.gate) (allocation_of a.self.now)) (operated w a.v (gate_of a.gate))
    p c.operate.ensures.allocation (operated-longer w a.v (gate_of a.gate) _)
