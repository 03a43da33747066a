-- By the laws of one left gate's part, one to each way out.
use mathlib.Core.Path.{sym, ◌∙◌}
use native.Mathlib.Omega.{arith}
use Rattle.circuit.specs.Circuit.{gate_of}
use Rattle.circuit.specs.Table.{line_at}
use Rattle.rules.specs.Match.{bind_operands}
use Rattle.rules.proofs.MatchLaws.{match_low, match-high, match-kind, match-cross, match-plain}
use Rattle.rules.proofs.matching.match_gate.Goals as goal

pub returns-then-bound-base : goal.returns-then-bound-base
returns-then-bound-base c = let a = c.args in
    match_low a.c.now a.m (line_at a.t.now a.q) a.swap a.b.now (omega arith)

pub returns-then-gates-k : goal.returns-then-gates-k
returns-then-gates-k c = let a = c.args in
    match-high a.c.now a.m (line_at a.t.now a.q) a.swap a.b.now (omega arith) (omega arith)

pub returns-then-not-is_of_kind : goal.returns-then-not-is_of_kind
returns-then-not-is_of_kind c = let a = c.args in
    let g = rw c.first_gate-base.ensures.value at c.gate-gate.ensures.value in
    match-kind a.c.now a.m (line_at a.t.now a.q) a.swap a.b.now (omega arith) (omega arith) (gate_of c.gate-gate.result) g
    (sym c.is_of_kind.ensures ∙ c.if-not-is_of_kind.true)

pub returns-then-swap : goal.returns-then-swap
unfolding bind_operands
returns-then-swap c = let a = c.args in
    let r = gate_of c.gate-gate.result in
    let g = rw c.first_gate-base.ensures.value at c.gate-gate.ensures.value in
    ◌∙◌ {b = bind_operands (line_at a.t.now a.q) r.right r.left a.b.now}
    c.bind_operands.ensures
    (match-cross a.c.now a.m (line_at a.t.now a.q) a.swap a.b.now (omega arith) (omega arith) r g
    (sym c.is_of_kind.ensures ∙ c.if-not-is_of_kind.false) c.if-swap.true)

pub returns : goal.returns
unfolding bind_operands
returns c = let a = c.args in
    let r = gate_of c.gate-gate.result in
    let g = rw c.first_gate-base.ensures.value at c.gate-gate.ensures.value in
    ◌∙◌ {b = bind_operands (line_at a.t.now a.q) r.left r.right a.b.now}
    c.bind_operands-2.ensures
    (match-plain a.c.now a.m (line_at a.t.now a.q) a.swap a.b.now (omega arith) (omega arith) r g
    (sym c.is_of_kind.ensures ∙ c.if-not-is_of_kind.false) c.if-swap.false)
