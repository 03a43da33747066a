-- Law `gate-at`: the gate is the three numbers that are read; `left_below` and `right-below` bound its operands.
use mathlib.Core.Path.{◌≡◌, sym, ap, ◌∙◌}
use Prim.Native.Nat.{◌<◌, ◌+◌, ◌*◌}
use lib.ListN.{get_or}
use Rattle.circuit.specs.Circuit.{gate_of, no_gate}
use Rattle.circuit.specs.Table.{gates, decode}
use Rattle.circuit.proofs.TableLaws.{gate-at}
use Rattle.circuit.proofs.RefusalLaws.{kind-known, left_below, right-below}
use Rattle.circuit.proofs.table.Circuit.gate.Goals as goal

pub of_known-requires : goal.of_known-requires
of_known-requires c = let t = c.self.inside.table.now in
    let i = c.args.i in
    let h : i < gates t = rw c.self.view_is c.requires in
    rw (gate-at t i _ c.self.invariant.1.0 h) at (kind-known t c.self.invariant.0 i h)

pub returns : goal.returns
returns c = let t = c.self.inside.table.now in
    let w = c.self.invariant.0 in
    let i = c.args.i in
    let h : i < gates t = rw c.self.view_is c.requires in
    let e = sym (gate-at t i _ c.self.invariant.1.0 h) in
    let p = c.self.inside.gates_at + 3 * i in
    let g : gate_of (record { kind = c.of_known.result; left = get_or t (p + 1) 0; right = get_or t (p + 2) 0 }) ≡ get_or (decode t).gates i no_gate =
    ap (λ k. record { kind = k; left = get_or t (p + 1) 0; right = get_or t (p + 2) 0 }) c.of_known.ensures ∙ e in
    rw (sym c.self.view_is) (record { value = g; operands_bound = (rw (sym g) at (left_below t w i h), rw (sym g) at (right-below t w i h)) })
