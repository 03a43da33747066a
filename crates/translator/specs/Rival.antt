-- 02, 2026-08: the rivals of the translator's program, as a property of programs. That none gets by with fewer registers, and that the translator's
-- program is one: `FloorOfRegisters`, `NoFewerRegisters` and `ProgramIsRival` in Theorems.antt.
use Rattle.std.specs.Prelude.{ℕ, ◌≡◌, ◌⊎◌, true, false, List, [], ◌∷◌, ◌++◌, map, length, get_or}
use Rattle.std.proofs.Math.Option.{none, some}
use Rattle.circuit.specs.Circuit.{Gate, Circuit, no_gate}
use Rattle.circuit.specs.Path.{is_among, is_operand, is_output}
use Rattle.translator.specs.Machine.{Instruction, emitting, is_load, is_operation, is_emit}
use Rattle.translator.specs.LiveRange.{is_used_from, is_constant_or_input}
use Rattle.translator.specs.Shape.{operation_kinds, loaded_by, occurrences}
use Rattle.translator.specs.Written.{registers_written}
use Rattle.translator.specs.Known.{Known, HoldsReference, known_of}

-- ---- loads and operations

-- a load of a constant or input, into any register
pub record RivalLoad (c : Circuit) (x : Instruction) : Type 0 where
  pub is-load : is_load x ≡ true
  pub loadable : is_constant_or_input c x.arg2 ≡ true

-- the gate whose operation is due, by what is known
abbrev pub due_gate : Circuit → Known → Gate
due_gate c s = get_or c.gates s.operations no_gate

-- 02, 2026-08, 3: registers a and b hold the references of gate g, in either order
abbrev pub HoldOperands : Known → Gate → (a b : ℕ) → Type 0
HoldOperands s g a b =
    (HoldsReference s a g.left × HoldsReference s b g.right) ⊎ (HoldsReference s a g.right × HoldsReference s b g.left)

-- the operation that is due, into any register
pub record RivalOperation (c : Circuit) (s : Known) (x : Instruction) : Type 0 where
  pub is-operation : is_operation x ≡ true
  pub reads-operands : HoldOperands s (due_gate c s) x.arg2 x.arg3

-- x is such a load or operation, where `before` are the instructions before it
abbrev pub LoadsOrOperates : Circuit → (limit : ℕ) (before : List Instruction) → Instruction → Type 0
LoadsOrOperates c limit before x = RivalLoad c x ⊎ RivalOperation c (known_of c limit before) x

-- ---- a rival, in 02's own words

-- p is a rival for circuit c on a machine with `limit` registers, however many these are. The translator's c is trimmed; nothing here asks for that.
pub record PlainRival (c : Circuit) (limit : ℕ) (p : List Instruction) : Type 0 where
  -- 4: every load and operation is before the first emit; `emitted` are the registers that are emitted
  pub body : List Instruction
  pub emitted : List ℕ
  pub emits-last : p ≡ body ++ map emitting emitted
  -- 3: each gate's operation once, in order, from registers that hold the references of that gate. Whichever instruction x of the body is looked at, it
  -- is that, or a load.
  pub each-instruction : (before : List Instruction) (x : Instruction) (behind : List Instruction) → body ≡ before ++ (x ∷ behind)
      → LoadsOrOperates c limit before x
  pub operations : operation_kinds body ≡ map (λ g. g.kind) c.gates
  -- 4: each constant or input that is used is loaded once; that it is before the first use follows, since a register that holds it is read
  pub loads : (v : ℕ) → is_constant_or_input c v ≡ true → is_used_from c 0 v ≡ true → occurrences v (loaded_by body) ≡ 1
  -- 5: the references of the outputs are emitted, in order
  pub outputs : map (λ a. get_or (known_of c limit body).registers a none) emitted ≡ map some c.outputs

-- ---- a rival by what the floor needs

-- Whichever instruction x of p is looked at, it is such a load or operation, or an emit.
abbrev pub EachAllowed : Circuit → (limit : ℕ) → List Instruction → Type 0
EachAllowed c limit p =
    (before : List Instruction) (x : Instruction) (behind : List Instruction) → p ≡ before ++ (x ∷ behind)
    → LoadsOrOperates c limit before x ⊎ (is_emit x ≡ true)

-- The operations of all gates are done, and no more. That they are done follows, in a trimmed circuit, from what is emitted; it is 02's sentence, and
-- stays.
abbrev pub AllGates : Circuit → (limit : ℕ) → List Instruction → Type 0
AllGates c limit p = (known_of c limit p).operations ≡ length c.gates

-- No constant or input is loaded behind an operation that uses it. If it might be, the need would be no floor: `reloading-otherwise` in
-- proofs/RivalExamples.antt.
abbrev pub LoadedBeforeUse : Circuit → (limit : ℕ) → List Instruction → Type 0
LoadedBeforeUse c limit p =
    (before : List Instruction) (x : Instruction) (behind : List Instruction) → p ≡ before ++ (x ∷ behind) → is_operation x ≡ true
    → (v : ℕ) → is_constant_or_input c v ≡ true → is_operand v (due_gate c (known_of c limit before)) ≡ true → is_among v (loaded_by behind) ≡ false

-- Nothing is written behind an emit. If it might be, the need would be no floor: `early-otherwise`, in the same file.
abbrev pub EmitsLast : List Instruction → Type 0
EmitsLast p =
    (before : List Instruction) (x : Instruction) (behind : List Instruction) → p ≡ before ++ (x ∷ behind) → is_emit x ≡ true → registers_written behind ≡ []

-- The reference of each output is emitted, from a register that holds it then.
abbrev pub EmitsOutputs : Circuit → (limit : ℕ) → List Instruction → Type 0
EmitsOutputs c limit p =
    (o : ℕ) → is_output c o ≡ true
    → (before : List Instruction) × (a : ℕ) × (behind : List Instruction)
    × (p ≡ before ++ (emitting a ∷ behind)) × HoldsReference (known_of c limit before) a o

-- More programs than 02's, so that the floor is under more of them; that 02's are among them is `PlainIsRival` in Theorems.antt. It is not asked that an
-- operation has its gate's kind; that what is used is loaded, which follows, or only once: it may be loaded again as long as no operation
-- has used it; that nothing but the outputs is emitted, and each as often as it is an output, in their order. So a rival may even fault, at an
-- emit that is no output's, or at a write beyond the limit: what is written there is held nowhere.
pub record Rival (c : Circuit) (limit : ℕ) (p : List Instruction) : Type 0 where
  pub each-allowed : EachAllowed c limit p
  pub all-gates : AllGates c limit p
  pub loaded-before-use : LoadedBeforeUse c limit p
  pub emits-last : EmitsLast p
  pub emits-outputs : EmitsOutputs c limit p
