-- A compare with the last use says it (`used-from`).
use mathlib.Core.Path.{sym, ap, ◌∙◌}
use native.Mathlib.Omega.{arith}
use lib.Dec.{ltb}
use Rattle.circuit.specs.Table.{decode}
use Rattle.circuit.proofs.TableLaws.{gates-length}
use Rattle.translator.proofs.LastUseLaws.{used-from}
use Rattle.translator.proofs.last_use.LiveRanges.is_used_behind.Goals as goal

pub returns : goal.returns
returns c = let r = c.args.self.now in
    ap (ltb c.args.number) (r.last_uses c.args.v)
    ∙ sym (used-from (decode r.circuit) c.args.number c.args.v (omega (arith, c.requires.number_bound, gates-length r.circuit)))
