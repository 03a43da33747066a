-- The theorems about the register program, as statements; each is proved under its name in proofs/. Circuits are those of well-formed
-- tables, trimmed as the translator trims them first.
use Rattle.std.specs.Prelude.{ℕ, suc, ◌+◌, ◌*◌, ◌≤◌, ◌<◌, max, ◌≡◌, ◌↔◌, true, false, ◌&&◌, ◌||◌, List, [], ◌∷◌, ◌++◌, map, eqb, ltb, length, take, get_or, set, replicate}
use Rattle.std.proofs.Math.Option
use Rattle.std.proofs.Math.Option.{none, some}
use Rattle.std.specs.Int.Bits.{bit_and, bit_xor}
use Rattle.std.proofs.Math.ListN.{get_elem?}
use Rattle.lists.specs.First.{first}
use Rattle.lines.specs.Refusal.{refused, gives, no_table, leaving}
use Rattle.circuit.specs.Circuit.{Circuit, xor_kind, and_kind, constants, first_gate, no_gate, no_start}
use Rattle.circuit.specs.Table.{inputs, decode, encode}
use Rattle.circuit.specs.Refusal.{starts_right, refusal}
use Rattle.circuit.specs.WellFormed.{WellFormed}
use Rattle.circuit.specs.Fold.{fold_gates, at_outputs}
use Rattle.circuit.specs.Evaluation.{evaluate}
use Rattle.circuit.specs.Depth.{depth, largest, circuit_depth}
use Rattle.circuit.specs.Path.{is_among, is_operand, is_output}
use Rattle.circuit.specs.Trim.{trim}
use Rattle.rules.specs.RuleRefusal.{rules_refusal}
use Rattle.rules.specs.SiteTable.{site_count, sites_refusal}
use Rattle.rewriting.specs.Run.{zeros, handed_back, all_verdicts}
use Rattle.rewriting.specs.RewriteCall.{rewriting}
use Rattle.translator.specs.Machine.{Instruction, emit_opcode, load_opcode, emitting, Machine, empty_machine, max_registers, read_from, execute, run_from, run}
use Rattle.translator.specs.Fault.{numbers, Operates, Reads, Holds, Fault}
use Rattle.translator.specs.LeveledBit.{LeveledBit, leveled_op, start_leveled, run_on}
use Rattle.translator.specs.LiveRange.{is_used_from, is_constant_or_input, is_held_before, is_held_after, is_held_at_end}
use Rattle.translator.specs.Need.{count_below, need}
use Rattle.translator.specs.Actions.{Action, operate, is_unloaded, operand_loads, output_loads, actions, loads_of, operations_of}
use Rattle.translator.specs.Program.{program, with_emits, encode_program, instructions_of, max_instructions}
use Rattle.translator.specs.LastUse.{last_use, count_distinct}
use Rattle.translator.specs.Pressure.{one_if, linear_need}
use Rattle.translator.specs.Allocator.{allocation_after, allocation_before, allocation_at_end}
use Rattle.translator.specs.Shape.{without_registers, instruction_of, registers_in, operation_kinds, occurrences}
use Rattle.translator.specs.Written.{registers_written, WritesExactly}
use Rattle.translator.specs.PublicRegister.{is_public_after}
use Rattle.translator.specs.Discipline.{Disciplined}
use Rattle.translator.specs.Moment.{Holding}
use Rattle.translator.specs.Known.{known_of}
use Rattle.translator.specs.Rival.{PlainRival, EachAllowed, Rival}
use Rattle.translator.specs.StillRead.{is_still_read, still_to_be_read}
use Rattle.translator.specs.TranslateCall.{program_numbers, is_limit, translating}
use Rattle.translator.specs.SafeDelivery.{SafeDelivery}

-- ---- the machine, over any values

-- 01, Register program, 2 and 3: what an instruction does where it is no fault. A load puts the value of a constant or input into d, an
-- operation that of its two operands, and an emit emits what its register holds.
abbrev pub InstructionDoes : Type 1
InstructionDoes =
    (A : Type 0) (start : List A) (op : ℕ → A → A → A) (m : Machine A)
    → ((d reference : ℕ) (v : A) → d < length m.registers → get_elem? start reference ≡ some v
    → execute start op (numbers load_opcode d reference 0) m ≡ some (record { registers = set m.registers d (some v); emitted = m.emitted }))
    × ((kind d a b : ℕ) (v w : A) → Operates kind → d < length m.registers → Holds m a v → Holds m b w
    → execute start op (numbers kind d a b) m ≡ some (record { registers = set m.registers d (some (op kind v w)); emitted = m.emitted }))
    × ((a : ℕ) (v : A) → Holds m a v
    → execute start op (numbers emit_opcode a 0 0) m ≡ some (record { registers = m.registers; emitted = m.emitted ++ (v ∷ []) }))

-- 01, Register program, 4: an instruction is a fault exactly for one of the causes named there.
abbrev pub InstructionFaults : Type 1
InstructionFaults =
    (A : Type 0) (start : List A) (op : ℕ → A → A → A) (m : Machine A) (o x y z : ℕ)
    → (execute start op (numbers o x y z) m ≡ none) ↔ Fault start m o x y z

-- 01, Register program, 2 and 5, of bits and levels: XOR has the larger level; AND has that plus 1, but the larger alone if an operand is public
-- (02, 2026-06); no result is public. The constants' bits are 0 and 1, at level 0, and they are public. An input's bit is that of its byte, at the
-- level that a starting line gives for it, else at 0 (02, 2026-01), and it is not public. Nothing else is loaded.
abbrev pub BitsAndLevels : Type 0
BitsAndLevels =
    ((a b : LeveledBit) → leveled_op xor_kind a b ≡ record { bit = bit_xor a.bit b.bit; level = max a.level b.level; public = false })
    × ((a b : LeveledBit) → (a.public || b.public) ≡ false
    → leveled_op and_kind a b ≡ record { bit = bit_and a.bit b.bit; level = max a.level b.level + 1; public = false })
    × ((a b : LeveledBit) → (a.public || b.public) ≡ true
    → leveled_op and_kind a b ≡ record { bit = bit_and a.bit b.bit; level = max a.level b.level; public = false })
    × ((c : Circuit) (bytes : List ℕ) → length bytes ≡ c.inputs → starts_right c ≡ true
    → (length (start_leveled c bytes) ≡ first_gate c.inputs)
    × (get_elem? (start_leveled c bytes) 0 ≡ some (record { bit = 0; level = 0; public = true }))
    × (get_elem? (start_leveled c bytes) 1 ≡ some (record { bit = 1; level = 0; public = true }))
    × ((i : ℕ) → i < c.inputs
    → (level : ℕ)
    × (get_elem? (start_leveled c bytes) (constants + i) ≡ some (record { bit = first (eqb (get_or bytes i 0) 0) 0 1; level = level; public = false }))
    × ((k : ℕ) → k < length c.starts → (get_or c.starts k no_start).input ≡ constants + i → level ≡ (get_or c.starts k no_start).level)
    × (((k : ℕ) → k < length c.starts → (get_or c.starts k no_start).input ≡ constants + i → ⊥) → level ≡ 0)))

-- 02, 2026-06, of registers: after any instructions that do not fault, a register is public exactly if the last write into it was a load of a
-- constant.
abbrev pub PublicUntilOverwritten : Type 0
PublicUntilOverwritten =
    (c : Circuit) (bytes : List ℕ) → length bytes ≡ c.inputs → (limit : ℕ) (is : List Instruction) (m : Machine LeveledBit)
    → run_from (start_leveled c bytes) leveled_op is (empty_machine limit) ≡ some m
    → (d : ℕ) (v : LeveledBit) → read_from m d ≡ some v → v.public ≡ is_public_after is d false

-- A run that ends without a fault has read and written only registers below the limit.
abbrev pub RunWithinLimit : Type 1
RunWithinLimit =
    (A : Type 0) (start : List A) (op : ℕ → A → A → A) (limit : ℕ) (is : List Instruction) (emitted : List A)
    → run start op limit is ≡ some emitted → (d : ℕ) → is_among d (registers_in is) ≡ true → d < limit

-- Instructions as numbers say these instructions, whatever stands behind them.
abbrev pub InstructionsAfterEncode : Type 0
InstructionsAfterEncode = (is : List Instruction) (rest : List ℕ) → instructions_of (length is) (encode_program is ++ rest) ≡ is

-- ---- what the loops compute

-- Whether a reference is used from gate j on is a compare with the table of last uses.
abbrev pub LastUseDecides : Type 0
LastUseDecides = (c : Circuit) (j v : ℕ) → j ≤ length c.gates → is_used_from c j v ≡ ltb j (last_use c v)

-- The need that one loop over the gates counts is 01's.
abbrev pub PressureIsNeed : Type 0
PressureIsNeed = (t : List ℕ) → WellFormed t → linear_need (trim (decode t)) ≡ need (trim (decode t))

-- The program that the loops write is that of the actions.
abbrev pub AllocatorIsProgram : Type 0
AllocatorIsProgram = (t : List ℕ) → WellFormed t → with_emits (trim (decode t)) (allocation_at_end (trim (decode t))) ≡ program (trim (decode t))

-- ---- the run

-- On a machine with at least as many registers as the need the program never faults, and emits the values of the outputs in order,
-- whatever is computed gate by gate.
abbrev pub ProgramComputes : Type 1
ProgramComputes =
    (A : Type 0) (op : ℕ → A → A → A) (z : A) (start : List A) (t : List ℕ) → WellFormed t → length start ≡ first_gate (inputs t)
    → (limit : ℕ) → need (trim (decode t)) ≤ limit
    → run start op limit (program (trim (decode t))) ≡ some (at_outputs z (decode t) (fold_gates op z (decode t).gates start))

-- So it emits the bits that the plain evaluator gives, in order, each at the level of its output's depth; the highest is D.
abbrev pub ProgramEmitsOutputs : Type 0
ProgramEmitsOutputs =
    (t : List ℕ) → WellFormed t → (bytes : List ℕ) → length bytes ≡ inputs t → (limit : ℕ) → need (trim (decode t)) ≤ limit
    → (emitted : List LeveledBit)
    × (run_on (decode t) bytes limit (program (trim (decode t))) ≡ some emitted)
    × (map (λ b. b.bit) emitted ≡ evaluate (decode t) bytes)
    × (map (λ b. b.level) emitted ≡ map (depth (decode t)) (decode t).outputs)
    × (largest (map (λ b. b.level) emitted) ≡ circuit_depth (decode t))

-- The need is at least 1, and so is every limit that is not below it.
abbrev pub NeedIsSome : Type 0
NeedIsSome = (t : List ℕ) → WellFormed t → 1 ≤ need (trim (decode t))

-- 01, Register program, 13: no more registers than the need are used.
abbrev pub RegistersWithinNeed : Type 0
RegistersWithinNeed =
    (t : List ℕ) → WellFormed t → (d : ℕ) → is_among d (registers_in (program (trim (decode t)))) ≡ true → d < need (trim (decode t))

-- 02, 2026-03: as many different registers as the need are written, and all are below it. No limit is in the program.
abbrev pub ProgramWritesNeed : Type 0
ProgramWritesNeed = (t : List ℕ) → WellFormed t → WritesExactly (need (trim (decode t))) (program (trim (decode t)))

-- ---- 01, Register program, 8, 9 and 11, of the program

-- Its instructions are the actions in order, with registers, and then one emit an output.
abbrev pub ProgramFollowsActions : Type 0
ProgramFollowsActions =
    (t : List ℕ) → WellFormed t
    → map without_registers (program (trim (decode t)))
    ≡ map instruction_of (actions (trim (decode t))) ++ replicate (length (trim (decode t)).outputs) (emitting 0)

-- There are as many as used constants and inputs, gates and outputs, and at most 2,818.
abbrev pub ProgramCount : Type 0
ProgramCount =
    (t : List ℕ) → WellFormed t
    → (length (program (trim (decode t)))
    ≡ count_below (is_used_from (trim (decode t)) 0) (first_gate (inputs t)) + length (trim (decode t)).gates + length (trim (decode t)).outputs)
    × (length (program (trim (decode t))) ≤ max_instructions)

-- The actions have one operation a gate, in order.
abbrev pub ActionsOperateInOrder : Type 0
ActionsOperateInOrder = (c : Circuit) → operations_of (actions c) ≡ c.gates

-- Each constant or input that a gate or an output uses is loaded once, and nothing else is.
abbrev pub ActionsLoadOnce : Type 0
ActionsLoadOnce = (c : Circuit) (v : ℕ) → occurrences v (loads_of (actions c)) ≡ one_if (is_constant_or_input c v && is_used_from c 0 v)

-- Just before gate i's operation come the loads of the constants and inputs that gate i uses and no gate before it. With the theorem above
-- and the next one, these are the only loads there.
abbrev pub ActionsLoadAtFirstUse : Type 0
ActionsLoadAtFirstUse =
    (c : Circuit) (i : ℕ) → i < length c.gates
    → (before after : List Action)
    × (actions c ≡ before ++ operand_loads c i (get_or c.gates i no_gate) ++ operate (first_gate c.inputs + i) (get_or c.gates i no_gate) ∷ after)
    × (operations_of before ≡ take i c.gates)
    × ((v : ℕ) → occurrences v (loads_of (operand_loads c i (get_or c.gates i no_gate))) ≡ one_if (is_unloaded c i v && is_operand v (get_or c.gates i no_gate)))

-- The loads behind the last operation are those of the constants and inputs that only outputs use.
abbrev pub ActionsLoadForOutputs : Type 0
ActionsLoadForOutputs =
    (c : Circuit)
    → (before : List Action)
    × (actions c ≡ before ++ output_loads c 0 c.outputs)
    × (operations_of before ≡ c.gates)
    × (operations_of (output_loads c 0 c.outputs) ≡ [])
    × ((v : ℕ) → occurrences v (loads_of (output_loads c 0 c.outputs)) ≡ one_if (is_unloaded c (length c.gates) v && is_output c v))

-- Just before gate i's operation, just after it, and before the first emit, each value that 01 says is held is in a register; between the
-- first two moments lies one instruction.
abbrev pub ValuesAreHeld : Type 1
ValuesAreHeld =
    (A : Type 0) (op : ℕ → A → A → A) (z : A) (start : List A) (t : List ℕ) → WellFormed t → length start ≡ first_gate (inputs t)
    → (limit : ℕ) → need (trim (decode t)) ≤ limit
    → ((i : ℕ) → i < length (trim (decode t)).gates
    → Holding op z start limit (trim (decode t)) i (allocation_before (trim (decode t)) i) (is_held_before (trim (decode t)) i)
    × Holding op z start limit (trim (decode t)) (suc i) (allocation_after (trim (decode t)) (suc i)) (is_held_after (trim (decode t)) i)
    × ((o : Instruction) × ((allocation_after (trim (decode t)) (suc i)).code ≡ (allocation_before (trim (decode t)) i).code ++ (o ∷ []))))
    × Holding op z start limit (trim (decode t)) (length (trim (decode t)).gates) (allocation_at_end (trim (decode t))) (is_held_at_end (trim (decode t)))

-- ---- 02, 2026-05: one program

-- The program has the discipline.
abbrev pub ProgramIsDisciplined : Type 0
ProgramIsDisciplined = (t : List ℕ) → WellFormed t → Disciplined (trim (decode t)) (program (trim (decode t)))

-- Programs of one circuit that have it are the same, instruction by instruction.
abbrev pub OneProgram : Type 0
OneProgram = (c : Circuit) (p q : List Instruction) → Disciplined c p → Disciplined c q → p ≡ q

-- Whatever has the discipline runs as was promised of the translator's program (01), and writes the registers that 02, 2026-03, promises.
abbrev pub DisciplinedRuns : Type 0
DisciplinedRuns =
    (t : List ℕ) → WellFormed t → (p : List Instruction) → Disciplined (trim (decode t)) p
    → WritesExactly (need (trim (decode t))) p
    × ((bytes : List ℕ) → length bytes ≡ inputs t → (limit : ℕ) → need (trim (decode t)) ≤ limit
    → (emitted : List LeveledBit)
    × (run_on (decode t) bytes limit p ≡ some emitted)
    × (map (λ b. b.bit) emitted ≡ evaluate (decode t) bytes)
    × (map (λ b. b.level) emitted ≡ map (depth (decode t)) (decode t).outputs)
    × (largest (map (λ b. b.level) emitted) ≡ circuit_depth (decode t)))

-- ---- 02, 2026-08: no program with fewer registers

-- What is known of the registers is true: at each moment that 01's machine comes to, a register holds the value of the reference that it is known by,
-- and is empty if it is known by none. Each instruction is one that a rival may have there, and the operations are of the gates' kinds; what is
-- computed gate by gate may be anything in which operands can change places.
abbrev pub KnownIsHeld : Type 1
KnownIsHeld =
    (A : Type 0) (op : ℕ → A → A → A) (z : A) (start : List A) → ((kind : ℕ) (a b : A) → op kind a b ≡ op kind b a)
    → (t : List ℕ) → WellFormed t → length start ≡ first_gate (inputs t)
    → (limit : ℕ) (p : List Instruction) → EachAllowed (trim (decode t)) limit p → operation_kinds p ≡ map (λ g. g.kind) (trim (decode t)).gates
    → (before behind : List Instruction) → p ≡ before ++ behind → (m : Machine A) → run_from start op before (empty_machine limit) ≡ some m
    → (d : ℕ)
    → read_from m d
    ≡ Option.map (λ v. get_or (fold_gates op z (trim (decode t)).gates start) v z) (get_or (known_of (trim (decode t)) limit before).registers d none)

-- 01's bits and levels are such.
abbrev pub OperandsChangePlaces : Type 0
OperandsChangePlaces = (kind : ℕ) (a b : LeveledBit) → leveled_op kind a b ≡ leveled_op kind b a

-- 02's rivals are rivals: whatever is said of these holds of those.
abbrev pub PlainIsRival : Type 0
PlainIsRival = (c : Circuit) (limit : ℕ) (p : List Instruction) → PlainRival c limit p → Rival c limit p

-- A register is still to be read exactly if a later instruction reads it, and none before that one writes it. `Reads` is as 01's causes of faults have it.
abbrev pub StillReadIsRead : Type 0
StillReadIsRead =
    (d : ℕ) (is : List Instruction)
    → (is_still_read d is ≡ true)
    ↔ ((front : List Instruction) × (x : Instruction) × (back : List Instruction)
    × (is ≡ front ++ (x ∷ back)) × Reads x.opcode x.arg1 x.arg2 x.arg3 d × (is_among d (registers_written front) ≡ false))

-- 5: every rival, on whichever machine, has a moment at which at least as many registers are full and still to be read as the translator's program
-- writes, which is the need (`ProgramWritesNeed`).
abbrev pub FloorOfRegisters : Type 0
FloorOfRegisters =
    (t : List ℕ) → WellFormed t → (limit : ℕ) (p : List Instruction) → Rival (trim (decode t)) limit p
    → (before behind : List Instruction)
    × (p ≡ before ++ behind)
    × (count_distinct (registers_written (program (trim (decode t)))) ≤ still_to_be_read (trim (decode t)) limit before behind)

-- 1: so no rival writes fewer different registers, and there is none for a machine with fewer registers than the need.
abbrev pub NoFewerRegisters : Type 0
NoFewerRegisters =
    (t : List ℕ) → WellFormed t → (limit : ℕ) (p : List Instruction) → Rival (trim (decode t)) limit p
    → (count_distinct (registers_written (program (trim (decode t)))) ≤ count_distinct (registers_written p))
    × (need (trim (decode t)) ≤ limit)

-- The translator's program is a rival in 02's own words, on every machine with as many registers as the need; and the floor is met: at no moment are more
-- registers full and still to be read than the need.
abbrev pub ProgramIsRival : Type 0
ProgramIsRival =
    (t : List ℕ) → WellFormed t → (limit : ℕ) → need (trim (decode t)) ≤ limit
    → PlainRival (trim (decode t)) limit (program (trim (decode t)))
    × ((before behind : List Instruction) → program (trim (decode t)) ≡ before ++ behind
    → still_to_be_read (trim (decode t)) limit before behind ≤ need (trim (decode t)))

-- ---- the call

-- What a success answers with is the need and a program at the front of the buffer, which on a machine with that limit emits the outputs'
-- bits in order, and D as the highest level.
abbrev pub TranslationRuns : Type 0
TranslationRuns =
    (t : List ℕ) (limit : ℕ) (buffer after : List ℕ) (count n : ℕ)
    → translating t limit buffer ≡ leaving (gives (count ∷ n ∷ [])) after
    → (n ≡ need (trim (decode t)))
    × ((bytes : List ℕ) → length bytes ≡ inputs t
    → (emitted : List LeveledBit)
    × (run_on (decode t) bytes limit (instructions_of count after) ≡ some emitted)
    × (map (λ b. b.bit) emitted ≡ evaluate (decode t) bytes)
    × (largest (map (λ b. b.level) emitted) ≡ circuit_depth (decode t)))

-- 02, 2026-03: it writes exactly as many different registers as the need that is answered, whatever the limit is, and all are below it.
abbrev pub TranslationWritesNeed : Type 0
TranslationWritesNeed =
    (t : List ℕ) (limit : ℕ) (buffer after : List ℕ) (count n : ℕ)
    → translating t limit buffer ≡ leaving (gives (count ∷ n ∷ [])) after → WritesExactly n (instructions_of count after)

-- More than 02, 2026-03, asks: two limits that are not below the need give the same numbers, and leave the same program in the buffer.
abbrev pub LimitChangesNothing : Type 0
LimitChangesNothing =
    (t : List ℕ) (limit other : ℕ) (buffer : List ℕ) → is_limit limit ≡ true → is_limit other ≡ true
    → need (trim (decode t)) ≤ limit → need (trim (decode t)) ≤ other → translating t limit buffer ≡ translating t other buffer

-- 02, 2026-05: what a success leaves is the one program of the trimmed circuit that has the discipline.
abbrev pub TranslationIsDisciplined : Type 0
TranslationIsDisciplined =
    (t : List ℕ) (limit : ℕ) (buffer after : List ℕ) (count n : ℕ)
    → translating t limit buffer ≡ leaving (gives (count ∷ n ∷ [])) after
    → Disciplined (trim (decode t)) (instructions_of count after)
    × ((p : List Instruction) → Disciplined (trim (decode t)) p → p ≡ instructions_of count after)

-- So a store can compare programs number by number: circuits that are equal when trimmed have equal ones, whatever the limits and buffers were.
abbrev pub EqualCircuitsEqualPrograms : Type 0
EqualCircuitsEqualPrograms =
    (t t' : List ℕ) (limit limit' : ℕ) (buffer buffer' after after' : List ℕ) (count count' n n' : ℕ) → trim (decode t) ≡ trim (decode t')
    → translating t limit buffer ≡ leaving (gives (count ∷ n ∷ [])) after
    → translating t' limit' buffer' ≡ leaving (gives (count' ∷ n' ∷ [])) after'
    → (count ≡ count') × (n ≡ n') × (take (4 * count) after ≡ take (4 * count') after')

-- 02, 2026-08: what a success leaves is a rival, and the need that is answered is a floor under all rivals.
abbrev pub TranslationIsFloor : Type 0
TranslationIsFloor =
    (t : List ℕ) (limit : ℕ) (buffer after : List ℕ) (count n : ℕ)
    → translating t limit buffer ≡ leaving (gives (count ∷ n ∷ [])) after
    → PlainRival (trim (decode t)) limit (instructions_of count after)
    × ((other : ℕ) (p : List Instruction) → Rival (trim (decode t)) other p
    → (before behind : List Instruction) × (p ≡ before ++ behind) × (n ≤ still_to_be_read (trim (decode t)) other before behind))

-- More than 02, 2026-08, asks: of a circuit that is not refused, with a limit up to 1,024 and a buffer that is long enough, `translate` gives a program
-- wherever there is a rival for that limit. So it pleads 10 only if there is none.
abbrev pub RefusesNoRival : Type 0
RefusesNoRival =
    (t : List ℕ) → refusal t ≡ 0 → (limit : ℕ) (buffer : List ℕ) → program_numbers ≤ length buffer → limit ≤ max_registers
    → (p : List Instruction) → Rival (trim (decode t)) limit p
    → (count : ℕ) × (after : List ℕ) × (translating t limit buffer ≡ leaving (gives (count ∷ need (trim (decode t)) ∷ [])) after)

-- ---- demand 3

-- The whole list is safe, for every circuit, rules, sites and input bytes that are not refused.
abbrev pub DeliveryIsSafe : Type 0
DeliveryIsSafe =
    (circuit rules sites : List ℕ) → refusal circuit ≡ 0 → rules_refusal rules ≡ 0 → sites_refusal sites ≡ 0
    → (bytes : List ℕ) → length bytes ≡ inputs circuit → SafeDelivery circuit rules sites bytes

-- The same in the terms of the two calls, whatever `rewrite` is lent. After it has succeeded with `values` (lines, old D, old N, new D, new N,
-- kept), its result begins with a table of as many lines, its verdicts with one a site, of which as many are 0 as were kept, and the
-- numbers are bounded as above. Given that table, a limit from 1 to 1,024 and a buffer that is long enough, `translate` pleads 10 exactly
-- below the need; and what it leaves after a success, run with its limit, emits the bits of the circuit first read, the new D as the highest
-- level, writes exactly as many different registers as the need, all below it (02, 2026-03), and has the discipline (02, 2026-05).
abbrev pub CallsDeliver : Type 0
CallsDeliver =
    (circuit rules sites result work verdicts values : List ℕ)
    → (rewriting circuit rules sites result work verdicts).answer ≡ gives values
    → (bytes : List ℕ) → length bytes ≡ inputs circuit
    → SafeDelivery circuit rules sites bytes
    × (take (3 * get_or values 0 0) (rewriting circuit rules sites result work verdicts).buffers.result ≡ encode (handed_back circuit rules sites))
    × (take (site_count sites) (rewriting circuit rules sites result work verdicts).buffers.verdicts ≡ all_verdicts circuit rules sites)
    × (get_or values 5 0 ≡ zeros (all_verdicts circuit rules sites))
    × (get_or values 5 0 + 2049 * get_or values 3 0 + get_or values 4 0 ≤ 2049 * get_or values 1 0 + get_or values 2 0)
    × ((limit : ℕ) (buffer : List ℕ) → program_numbers ≤ length buffer → 1 ≤ limit → limit ≤ max_registers
    → (limit < need (handed_back circuit rules sites)
    → translating (encode (handed_back circuit rules sites)) limit buffer ≡ leaving (refused 10 no_table) buffer)
    × (need (handed_back circuit rules sites) ≤ limit
    → (count : ℕ) × (after : List ℕ) × (emitted : List LeveledBit)
    × (translating (encode (handed_back circuit rules sites)) limit buffer ≡ leaving (gives (count ∷ need (handed_back circuit rules sites) ∷ [])) after)
    × (run_on (decode circuit) bytes limit (instructions_of count after) ≡ some emitted)
    × (map (λ b. b.bit) emitted ≡ evaluate (decode circuit) bytes)
    × (largest (map (λ b. b.level) emitted) ≡ get_or values 3 0)
    × WritesExactly (need (handed_back circuit rules sites)) (instructions_of count after)
    × Disciplined (handed_back circuit rules sites) (instructions_of count after)))
