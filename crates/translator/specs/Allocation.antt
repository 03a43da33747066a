-- 02, 2026-05: which register each value takes, as the program is computed. A new value takes the register that was freed last of those
-- that are free, or else the lowest never used, and an operation frees its left operand before its right one. 01 leaves this open (Register
-- program, 12). The same as a property of programs is in Discipline.antt.
use Rattle.std.specs.Prelude.{ℕ, suc, Bool, true, false, ◌||◌, List, [], ◌∷◌, ◌++◌, eqb, length, set}
use Rattle.circuit.specs.Circuit.{Gate}
use Rattle.circuit.specs.Path.{is_among}
use Rattle.translator.specs.Machine.{Instruction, loading, operating}
use Rattle.translator.specs.Actions.{Action, load, operate, is_read}
use Rattle.translator.specs.Place.{place_in}

-- `owners` has a place for each register used so far: 0 if the register is free, else 1 more than the reference whose value it holds.
-- `freed` is the stack of free registers, the one freed last on top. `code` is the program so far.
pub record Allocation : Type 0 where
  pub owners : List ℕ
  pub freed : List ℕ
  pub code : List Instruction

abbrev pub no_registers : Allocation
no_registers = record { owners = []; freed = []; code = [] }

-- the register that holds v; as many as there are, if none does
abbrev pub register_of : (owners : List ℕ) (v : ℕ) → ℕ
register_of owners v = place_in owners (suc v)

-- the register that is taken next, the stack without it, and the owners with v in it
abbrev pub next_register : (owners freed : List ℕ) → ℕ
next_register owners [] = length owners
next_register owners (d ∷ ds) = d

abbrev pub still_free : (freed : List ℕ) → List ℕ
still_free [] = []
still_free (d ∷ ds) = ds

abbrev pub owners_with : (v : ℕ) (owners freed : List ℕ) → List ℕ
owners_with v owners [] = owners ++ (suc v ∷ [])
owners_with v owners (d ∷ ds) = set owners d (suc v)

-- v takes a register, by the instruction that `make` gives for it
unfoldable pub assign : (v : ℕ) (make : ℕ → Instruction) → Allocation → Allocation
assign v make s =
    record {
      owners = owners_with v s.owners s.freed;
      freed = still_free s.freed;
      code = s.code ++ (make (next_register s.owners s.freed) ∷ []);
    }

-- v has been read: its register is free from now on, unless v is to be kept
unfoldable pub release : (keep : Bool) (v : ℕ) → Allocation → Allocation
release true v s = s
release false v s =
    record { owners = set s.owners (register_of s.owners v) 0; freed = register_of s.owners v ∷ s.freed; code = s.code }

-- the left operand of a gate, and then the right one, where `wanted` says what is used after it; two equal operands are one value, which goes
-- as the right one
abbrev pub release_left : (wanted : ℕ → Bool) → Gate → Allocation → Allocation
release_left wanted g s = release (eqb g.left g.right || wanted g.left) g.left s

abbrev pub release_right : (wanted : ℕ → Bool) → Gate → Allocation → Allocation
release_right wanted g s = release (wanted g.right) g.right s

unfoldable pub release_operands : (wanted : ℕ → Bool) → Gate → Allocation → Allocation
release_operands wanted g s = let between = release_left wanted g s in release_right wanted g between

-- the load of v
abbrev pub loaded : (v : ℕ) → Allocation → Allocation
loaded v s = assign v (λ d. loading d v) s

-- the operation of gate g, of reference v
abbrev pub operated : (wanted : ℕ → Bool) (v : ℕ) → Gate → Allocation → Allocation
operated wanted v g s =
    assign v (λ d. operating g.kind d (register_of s.owners g.left) (register_of s.owners g.right)) (release_operands wanted g s)

-- the actions in order; what the actions behind it read, or is an output, is kept
unfoldable pub allocate : (outputs : List ℕ) → List Action → Allocation → Allocation
allocate outputs [] s = s
allocate outputs (load v ∷ ss) s = allocate outputs ss (loaded v s)
allocate outputs (operate v g ∷ ss) s = allocate outputs ss (operated (λ r. is_read r ss || is_among r outputs) v g s)
