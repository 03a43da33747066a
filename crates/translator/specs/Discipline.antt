-- 02, 2026-05: the register discipline, as a property of programs: what each load and operation reads and writes, given what the
-- instructions before it did. That the translator's program has it, and that a circuit has only one program with it:
-- `ProgramIsDisciplined` and `OneProgram` in Theorems.antt.
use Rattle.std.specs.Prelude.{ℕ, suc, ◌+◌, ◌<◌, ◌≡◌, ◌⊎◌, Bool, true, not, ◌&&◌, List, [], ◌∷◌, ◌++◌, map, eqb, length, get_or}
use Rattle.lists.specs.First.{first}
use Rattle.circuit.specs.Circuit.{Gate, Circuit, no_gate, first_gate}
use Rattle.translator.specs.Machine.{Instruction, emitting, is_load, is_operation}
use Rattle.translator.specs.LiveRange.{is_used_from}
use Rattle.translator.specs.Shape.{operation_kinds}
use Rattle.translator.specs.LoadOrder.{loaded_after, LoadedFor}
use Rattle.translator.specs.History.{Change, taken, register_taken_by, free_if, Takes}

-- ---- what instructions did

-- how many operations there were, and what happened to registers
pub record Past : Type 0 where
  pub operations : ℕ
  pub history : List Change

abbrev pub nothing_done : Past
nothing_done = record { operations = 0; history = [] }

-- the gate whose operation is next
abbrev pub next_gate : Circuit → Past → Gate
next_gate c past = get_or c.gates past.operations no_gate

-- an operand of that gate is not used later; an output always is
abbrev pub is_last_use : Circuit → Past → (v : ℕ) → Bool
is_last_use c past v = not (is_used_from c (suc past.operations) v)

-- 02, 2026-05, 4: the operation that is the last to use a value frees its register, and the left operand's goes first. Two equal operands
-- are one value, whose register is freed once, as the right one's.
abbrev pub left_freed : Circuit → Past → List Change
left_freed c past =
    let g = next_gate c past in free_if (is_last_use c past g.left && not (eqb g.left g.right)) g.left past.history

abbrev pub operands_freed : Circuit → Past → List Change
operands_freed c past = let g = next_gate c past in free_if (is_last_use c past g.right) g.right (left_freed c past)

-- what has been done when x is done too: a load puts its reference's value into its register; an operation first frees those of its operands
unfoldable pub following : Circuit → Past → Instruction → Past
following c past x =
    first (is_load x) (record { operations = past.operations; history = taken x.arg1 x.arg2 ∷ past.history })
    (first (is_operation x)
    (record { operations = suc past.operations; history = taken x.arg1 (first_gate c.inputs + past.operations) ∷ operands_freed c past })
    past)

unfoldable pub past_from : Circuit → Past → List Instruction → Past
past_from c past [] = past
past_from c past (x ∷ xs) = past_from c (following c past x) xs

abbrev pub past_of : Circuit → List Instruction → Past
past_of c xs = past_from c nothing_done xs

-- ---- the discipline

-- 02, 2026-05, 5 and 6: what is loaded takes its register by what was done before.
pub record DisciplinedLoad (past : Past) (x : Instruction) : Type 0 where
  pub is-load : is_load x ≡ true
  pub takes : Takes past.history x.arg1

-- 02, 2026-05, 2, and 5 and 6: a is the left operand, b the right; and the result takes its register after those of operands that are used for
-- the last time have been freed, of which it may have one (01, Register program, 9).
pub record DisciplinedOperation (c : Circuit) (past : Past) (x : Instruction) : Type 0 where
  pub is-operation : is_operation x ≡ true
  pub a-is-left : x.arg2 ≡ register_taken_by past.history (next_gate c past).left
  pub b-is-right : x.arg3 ≡ register_taken_by past.history (next_gate c past).right
  pub takes : Takes (operands_freed c past) x.arg1

-- p is a program of circuit c, and has the discipline. The translator's c is trimmed; nothing here asks for that.
pub record Disciplined (c : Circuit) (p : List Instruction) : Type 0 where
  -- 01, Register program, 11: loads and operations, one operation a gate in order, and then one emit an output in order
  pub body : List Instruction
  pub operations : operation_kinds body ≡ map (λ g. g.kind) c.gates
  pub emits-last : p ≡ body ++ map (λ o. emitting (register_taken_by (past_of c body).history o)) c.outputs
  -- 01, Register program, 8, and 02, 2026-05, 3: what is loaded before each operation, left before right, and before the emits, as the
  -- outputs name it
  pub operand-loads : (i : ℕ) → i < length c.gates
      → LoadedFor c i ((get_or c.gates i no_gate).left ∷ (get_or c.gates i no_gate).right ∷ []) (loaded_after i body)
  pub output-loads : LoadedFor c (length c.gates) c.outputs (loaded_after (length c.gates) body)
  -- 02, 2026-05, 2 and 4 to 6: whichever instruction x of the body is looked at, it is such a load or operation, by what those before it did
  pub each-instruction : (before : List Instruction) (x : Instruction) (behind : List Instruction) → body ≡ before ++ (x ∷ behind)
      → DisciplinedLoad (past_of c before) x ⊎ DisciplinedOperation c (past_of c before) x
