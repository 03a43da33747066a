-- A mask bit beyond the left gates, or what the loop over them left from the start bindings on: `at-beyond`, `at_some`, `at_none`.
use Rattle.circuit.specs.Table.{decode}
use Rattle.rules.proofs.VerdictLaws.{at-beyond, at_some, at_none}
use Rattle.rules.proofs.matching.match_at.Goals as goal

pub returns-then-mask-lefts-ne0 : goal.returns-then-mask-lefts-ne0
returns-then-mask-lefts-ne0 c = let a = c.args in
    at-beyond (decode a.c.now) a.rule.now.table.now a.rule.now.from a.gate a.mask (rw c.lefts.ensures at c.if-mask-lefts-ne0.true)

pub returns-then-not-match_gates : goal.returns-then-not-match_gates
returns-then-not-match_gates c = let a = c.args in
    let s = c.start_bindings-b in
    let m = c.match_gates in
    at_none (decode a.c.now) a.rule.now.table.now a.rule.now.from a.gate a.mask s.result s.ensures m.result m.new.b
    (rw c.lefts.ensures at c.if-mask-lefts-ne0.false) m.ensures c.if-not-match_gates.true

pub returns : goal.returns
returns c = let a = c.args in
    let s = c.start_bindings-b in
    let m = c.match_gates in
    at_some (decode a.c.now) a.rule.now.table.now a.rule.now.from a.gate a.mask s.result s.ensures m.result m.new.b
    (rw c.lefts.ensures at c.if-mask-lefts-ne0.false) m.ensures c.if-not-match_gates.false
