-- The call `evaluate`: what it gives back, and what the lent output bytes then hold, for every input.
use Rattle.std.specs.Prelude.{ℕ, not, List, [], ◌∷◌, eqb, ltb, length, Result as Returned}
use Rattle.lines.specs.Text.{is_partial}
use Rattle.lines.specs.declared.refusing.Refusal.{Refusal as GivenRefusal}
use Rattle.lines.specs.Refusal.{Refusal, Result, no_table, answer_of, Outcome}
use Rattle.lines.specs.Checks.{found, check, answering, afterwards}
use Rattle.lines.specs.Calls.{over}
use Rattle.circuit.specs.Circuit.{max_outputs}
use Rattle.circuit.specs.Table.{inputs, outputs, decode}
use Rattle.circuit.specs.Refusal.{refusal, circuit_table}
use Rattle.circuit.specs.Evaluation.{evaluate}

-- the answer: a success gives the number of outputs
abbrev pub paper_values : Returned ℕ GivenRefusal → Result
paper_values = answer_of (λ n. n ∷ [])

-- 01, Refusals, 2, and 02, 2026-01: 1 for the table; 2, for fewer than 256 output bytes, whatever the head says; 4, 5, 11, 6, 7; and last 1 again,
-- for input bytes that are not as many as the inputs, where the fault lies in no table.
abbrev pub evaluate_checks : (circuit input_bytes output_bytes : List ℕ) → List Refusal
evaluate_checks circuit input_bytes output_bytes =
    check (is_partial 3 circuit) 1 circuit_table
    ∷ check (ltb (length output_bytes) max_outputs) 2 no_table
    ∷ found (refusal circuit) circuit_table
    ∷ check (not (eqb (length input_bytes) (inputs circuit))) 1 no_table ∷ []

unfoldable pub evaluating : (circuit input_bytes output_bytes : List ℕ) → Outcome (List ℕ)
evaluating circuit input_bytes output_bytes =
    afterwards (answering (evaluate_checks circuit input_bytes output_bytes) (outputs circuit ∷ []))
    output_bytes (over (evaluate (decode circuit) input_bytes) output_bytes)
