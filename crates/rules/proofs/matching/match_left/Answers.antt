-- The gate's line is where the rule's left gate lines begin, and three numbers a line on.
use mathlib.Core.Path.{ap, ◌∙◌}
use Prim.Native.Nat.{◌+◌}
use native.Mathlib.Omega.{arith}
use Rattle.circuit.specs.Circuit.{first_gate}
use Rattle.circuit.specs.Table.{decode}
use Rattle.rules.specs.Match.{match_gate}
use Rattle.rules.specs.RuleTable.{holes_at}
use Rattle.rules.proofs.MatchLaws.{left-line}
use Rattle.rules.proofs.RefusalLaws.{left-operands-small}
use Rattle.rules.proofs.matching.match_left.Goals as goal

pub match_gate-requires : goal.match_gate-requires
match_gate-requires c = let w = c.args.rule.now.well_formed in
    let h = c.requires in
    let s = w.sized in
    let f = c.left_from in
    record {
      q_in_bounds = (omega (arith, w.sized, h, f.ensures), omega (arith, w.sized, h));
      q_bound = left-operands-small c.args.rule.now.table.now c.args.rule.now.from w c.args.i h f.result f.ensures;
    }

pub returns : goal.returns
returns c = let a = c.args in
    c.match_gate.ensures
    ∙ rw c.base.ensures
    (ap (λ g. match_gate (decode a.c.now) (first_gate (holes_at a.rule.now.table.now a.rule.now.from) + a.i) g a.swap a.b.now)
    (left-line a.rule.now.table.now a.rule.now.from a.i c.requires c.left_from.result c.left_from.ensures))
