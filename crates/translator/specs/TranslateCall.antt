-- The call `translate`: what it gives back, and what the lent program buffer then holds, for every input.
use Rattle.std.specs.Prelude.{ℕ, ◌*◌, Bool, not, ◌&&◌, List, [], ◌∷◌, ◌++◌, leb, ltb, length, Result as Returned}
use Rattle.lines.specs.Text.{is_partial}
use Rattle.lines.specs.declared.refusing.Refusal.{Refusal as GivenRefusal}
use Rattle.lines.specs.Refusal.{Refusal, Result, no_table, answer_of, Outcome}
use Rattle.lines.specs.Checks.{found, check, answering, afterwards}
use Rattle.lines.specs.Calls.{over}
use Rattle.circuit.specs.Circuit.{Circuit}
use Rattle.circuit.specs.Table.{decode}
use Rattle.circuit.specs.Refusal.{refusal, circuit_table}
use Rattle.circuit.specs.Trim.{trim}
use Rattle.translator.specs.declared.Translation.{Translation}
use Rattle.translator.specs.Machine.{max_registers}
use Rattle.translator.specs.Need.{need}
use Rattle.translator.specs.Program.{program, encode_program, max_instructions}

-- 01, refusal 2: how many numbers a lent program buffer has at least: 11,272, four an instruction
abbrev pub program_numbers : ℕ
program_numbers = 4 * max_instructions

-- 01, refusal 9, does not apply.
abbrev pub is_limit : ℕ → Bool
is_limit limit = leb 1 limit && leb limit max_registers

-- 01, Register program, 14: a success gives the number of instructions and the need.
abbrev pub paper_values : Returned Translation GivenRefusal → Result
paper_values = answer_of (λ t. t.instructions ∷ t.need ∷ [])

-- 01, Refusals, 2, and 02, 2026-01: 1 for the table; 2, for fewer than `program_numbers`, whatever the program needs; 4, 5, 11, 6, 7; 9.
abbrev pub translate_checks : (circuit : List ℕ) (limit : ℕ) (buffer : List ℕ) → List Refusal
translate_checks circuit limit buffer =
    check (is_partial 3 circuit) 1 circuit_table
    ∷ check (ltb (length buffer) program_numbers) 2 no_table
    ∷ found (refusal circuit) circuit_table
    ∷ check (not (is_limit limit)) 9 no_table ∷ []

-- and last 10, of a circuit that is trimmed
abbrev pub need_checks : (limit : ℕ) → Circuit → List Refusal
need_checks limit c = check (ltb limit (need c)) 10 no_table ∷ []

-- Where none of the checks applies, the program of the trimmed circuit is over the buffer's front, four numbers an instruction.
abbrev pub translated : (checks : List Refusal) → Circuit → (buffer : List ℕ) → Outcome (List ℕ)
translated checks c buffer =
    afterwards (answering checks (length (program c) ∷ need c ∷ [])) buffer (over (encode_program (program c)) buffer)

-- 01, Register program, 7: the translator trims first.
unfoldable pub translating : (circuit : List ℕ) (limit : ℕ) (buffer : List ℕ) → Outcome (List ℕ)
translating circuit limit buffer =
    translated (translate_checks circuit limit buffer ++ need_checks limit (trim (decode circuit))) (trim (decode circuit)) buffer
