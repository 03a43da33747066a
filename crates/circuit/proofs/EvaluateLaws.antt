-- The evaluator's array. Assumes nothing.
use mathlib.Core.Path.{◌≡◌, sym, ap, ◌∙◌}
use mathlib.Core.List.{List}
use Prim.Native.Nat.{ℕ}
use lib.ListN.{length, take}
use Rattle.lines.specs.Calls.{over}
use Rattle.circuit.specs.Circuit.{first_gate}
use Rattle.circuit.specs.Table.{inputs, refs, gate_lines, decode}
use Rattle.circuit.specs.Fold.{fold_gates, at_outputs}
use Rattle.circuit.specs.Evaluation.{bit_op, start_bits, bits, bits_from, evaluate}

-- loading, running and emitting give the circuit's value, where `loaded` and `ran` are the array in between
pub evaluated : (t bytes loaded ran out after : List ℕ) → length bytes ≡ inputs t
    → take (first_gate (length bytes)) loaded ≡ start_bits bytes
    → take (refs t) ran ≡ bits_from (decode t) loaded → after ≡ over (at_outputs 0 (decode t) (take (refs t) ran)) out
    → after ≡ over (evaluate (decode t) bytes) out
unfolding bits evaluate
evaluated t bytes loaded ran out after l s r e =
    let start : take (first_gate (inputs t)) loaded ≡ start_bits bytes = ap (λ n. take (first_gate n) loaded) (sym l) ∙ s in
    let all : take (refs t) ran ≡ bits (decode t) bytes = r ∙ ap (fold_gates bit_op 0 (gate_lines t)) start in
    e ∙ ap (λ vs. over (at_outputs 0 (decode t) vs) out) all
