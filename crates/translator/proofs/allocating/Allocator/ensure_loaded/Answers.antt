-- By what `holds` answers: nothing is to do (`ensure-there`), or the load is an assignment (`ensure-absent`).
use mathlib.Core.Path.{sym, ◌∙◌}
use Rattle.translator.specs.Machine.{loading}
use Rattle.translator.specs.Registers.{allocation_of}
use Rattle.translator.proofs.RepresentsLaws.{assigned-is, ensure-there, ensure-absent, ensure-room}
use Rattle.translator.proofs.allocating.Allocator.ensure_loaded.Goals as goal

pub returns-then-holds-clause-allocation : goal.returns-then-holds-clause-allocation
returns-then-holds-clause-allocation c = ensure-there c.args.self.now c.args.v (sym c.holds.ensures ∙ c.if-holds.true)

pub take-register-requires-clause-next_lt_max_registers : goal.take-register-requires-clause-next_lt_max_registers
take-register-requires-clause-next_lt_max_registers c = c.requires.loadable (sym c.holds.ensures ∙ c.if-holds.false)

pub push-requires : goal.push-requires
push-requires c = ensure-room c.args.self.now c.args.v (sym c.holds.ensures ∙ c.if-holds.false) _ c.requires.code_in_bounds

pub returns-clause-allocation : goal.returns-clause-allocation
returns-clause-allocation c = let v = c.args.v in
    let p = c.push.ensures in
    let s = allocation_of c.args.self.now in
    record {
      allocation = assigned-is c.push.new.self _ _ v (λ d. loading d v) s c.take-register.ensures p.same_registers p.code
          ∙ ensure-absent v s (sym c.holds.ensures ∙ c.if-holds.false);
      kept = p.beyond;
    }
