-- Law `gate-stores`: the row that was written is the gate's, renumbered.
use Rattle.circuit.proofs.TrimmingLaws.{gate-stores}
use Rattle.circuit.specs.Circuit.{gate_of}
use Rattle.circuit.proofs.trimming.write_gate.Goals as goal

pub returns : goal.returns
returns c = let g = c.gate-g in
    gate-stores c.args.circuit.now c.args.names.now c.args.out.now _ c.args.at c.args.i c.requires.by_index (gate_of g.result)
    g.ensures.operands_bound g.ensures.value (rw c.from.ensures at c.write_row.ensures)
