-- An allocation as the registers and the buffer represent it: a value takes a register, registers are freed, a gate's operation. Assumes nothing.
use mathlib.Core.Path.{◌≡◌, refl, sym, ap, ap₂, ◌∙◌}
use mathlib.Core.Bool.{Bool, true, false, ◌||◌}
use mathlib.Core.List.{List, [], ◌∷◌, ◌++◌}
use Prim.Native.Nat.{ℕ, suc, ◌+◌, ◌≤◌, ◌<◌}
use native.Mathlib.Omega.{arith}
use lib.Dec.{eqb}
use lib.ListN.{length, take, get_or, set, length-append}
use Rattle.circuit.specs.Circuit.{Gate}
use Rattle.circuit.specs.Path.{is_among}
use Rattle.translator.specs.declared.registers.Registers.{Registers}
use Rattle.translator.specs.declared.allocating.Allocator.{Allocator}
use Rattle.translator.specs.Machine.{Instruction, operating, max_registers}
use Rattle.translator.specs.Allocation.{Allocation, register_of, next_register, assign, release, release_operands, loaded, operated}
use Rattle.translator.specs.Allocator.{ensure_loaded}
use Rattle.translator.specs.Registers.{instruction_at, owners_of, allocation_with, code_of, allocation_of, Represents}
use Rattle.translator.specs.RegisterArrays.{stack_of}
use Rattle.translator.proofs.ShapeLaws.{releases-code}
use Rattle.translator.proofs.MomentLaws.{front_length, front-ensure}
use Rattle.translator.proofs.ArrayLaws.{next-fresh, next-freed, owners-fresh, owners_freed, owners-release}
use Rattle.translator.proofs.WritingLaws.{instructions-length, beyond-then}

allocation-same : {ws ws' ds ds' : List ℕ} {is is' : List Instruction} → ws ≡ ws' → ds ≡ ds' → is ≡ is'
    → ◌≡◌ {A = Allocation} (record { owners = ws; freed = ds; code = is }) (record { owners = ws'; freed = ds'; code = is' })
allocation-same e f g = λ i. record { owners = e i; freed = f i; code = g i }

-- ---- a value takes a register, which is d, and r' are the registers then

module _ (r : Registers) (v : ℕ) (r' : Registers) (d : ℕ) (freed : r'.freed.now ≡ r.freed.now) (make : ℕ → Instruction) (code : List Instruction) where
  abbrev Taken : Type 0
  Taken = allocation_with r' (code ++ (make d ∷ [])) ≡ assign v make (allocation_with r code)

  -- one that was never used
  pub taken-fresh : r.free ≡ 0 → r.fresh < max_registers → d ≡ r.fresh → r'.owner.now ≡ set r.owner.now r.fresh (suc v) → r'.free ≡ r.free
      → r'.fresh ≡ r.fresh + 1 → Taken
  unfolding assign
  taken-fresh e l q owner free fresh =
      let o = owners-fresh r.owner.now r.freed.now r.place.now r.free r.fresh r.arrays v e l in
      allocation-same (ap₂ take fresh owner ∙ sym o.0) (ap₂ stack_of freed free ∙ sym o.1)
      (ap (λ x. code ++ (make x ∷ [])) (q ∙ sym (next-fresh r.owner.now r.freed.now r.place.now r.free r.fresh r.arrays e)))

  -- or the one freed last
  pub taken-freed : (n : ℕ) → r.free ≡ n + 1 → d ≡ get_or r.freed.now n 0 → r'.owner.now ≡ set r.owner.now (get_or r.freed.now n 0) (suc v) → r'.free ≡ n
      → r'.fresh ≡ r.fresh → Taken
  unfolding assign
  taken-freed n e q owner free fresh =
      let o = owners_freed r.owner.now r.freed.now r.place.now r.free r.fresh r.arrays v n e in
      allocation-same (ap₂ take fresh owner ∙ sym o.0) (ap₂ stack_of freed free ∙ sym o.1)
      (ap (λ x. code ++ (make x ∷ [])) (q ∙ sym (next-freed r.owner.now r.freed.now r.place.now r.free r.fresh r.arrays n e)))

-- ---- a value has been read: it is kept, or its register is freed

pub release-none : (keep : Bool) (v : ℕ) (s : Allocation) → keep ≡ true → s ≡ release keep v s
unfolding release
release-none keep v s e = rw e

pub release-freed : (r : Registers) (keep : Bool) (v : ℕ) → keep ≡ false → is_among (suc v) (owners_of r) ≡ true → r.free < max_registers
    → (code : List Instruction) → ◌≡◌ {A = Allocation} (record {
      owners = take r.fresh (set r.owner.now (get_or r.place.now v 0) 0);
      freed = stack_of (set r.freed.now r.free (get_or r.place.now v 0)) (r.free + 1);
      code = code;
    }) (release keep v (allocation_with r code))
unfolding release
release-freed r keep v q e h code =
    let o = owners-release r.owner.now r.freed.now r.place.now r.free r.fresh r.arrays v e h in
    rw q (allocation-same o.0 o.1 refl)

-- ---- one part after the other

pub represents-same : {a old : Allocator} {s s' : Allocation} → s ≡ s' → Represents a old s → Represents a old s'
represents-same e r = record { allocation = r.allocation ∙ e; kept = r.kept }

-- as many instructions are written as the allocation has
pub code-written : (a : Allocator) (s : Allocation) → allocation_of a ≡ s → a.written ≡ length s.code
code-written a s e = sym (instructions-length a.written a.program.now) ∙ ap (λ x. length x.code) e

pub represents-then : (old a b : Allocator) (s : Allocation) (f : Allocation → Allocation) → Represents a old s → Represents b a (f (allocation_of a))
    → length s.code ≤ length (f s).code → Represents b old (f s)
represents-then old a b s f p q h =
    let e = q.allocation ∙ ap f p.allocation in
    let m = code-written a s p.allocation in
    let n = code-written b (f s) e in
    record {
      allocation = e;
      kept = beyond-then old.program.now a.program.now b.program.now a.written b.written (omega arith) p.kept q.kept;
    }

-- ---- v takes register d, by an instruction that is written: r are the registers then, and a has both

pub assigned-is : (a : Allocator) (r : Registers) (d v : ℕ) (make : ℕ → Instruction) (s : Allocation)
    → ((make : ℕ → Instruction) (code : List Instruction) → allocation_with r (code ++ (make d ∷ []))
    ≡ assign v make (record { owners = s.owners; freed = s.freed; code = code }))
    → a.registers ≡ r → code_of a ≡ s.code ++ (make d ∷ []) → allocation_of a ≡ assign v make s
assigned-is a r d v make s t e q = ap (λ x. allocation_with x (code_of a)) e ∙ ap (allocation_with r) q ∙ t make s.code

-- ---- a value is loaded, if it is in no register

pub ensure-there : (a : Allocator) (v : ℕ) → is_among (suc v) (allocation_of a).owners ≡ true → Represents a a (ensure_loaded v (allocation_of a))
unfolding ensure_loaded
ensure-there a v e = record { allocation = rw e; kept = record { beyond = refl; long = refl } }

pub ensure-absent : (v : ℕ) (s : Allocation) → is_among (suc v) s.owners ≡ false → loaded v s ≡ ensure_loaded v s
unfolding ensure_loaded
ensure-absent v s e = rw e

-- its load has room, if what is loaded fits
pub ensure-room : (a : Allocator) (v : ℕ) → is_among (suc v) (allocation_of a).owners ≡ false
    → (size : ℕ) → instruction_at (length (ensure_loaded v (allocation_of a)).code) ≤ size → instruction_at (a.written + 1) ≤ size
unfolding assign
ensure-room a v e size h =
    let s = allocation_of a in
    omega (
      arith,
      ap (λ x. length x.code) (ensure-absent v s e),
      length-append s.code (operating 4 (next_register s.owners s.freed) v 0 ∷ []),
      instructions-length a.written a.program.now,
    )

pub ensure-longer : (v : ℕ) (s : Allocation) → length s.code ≤ length (ensure_loaded v s).code
ensure-longer v s = front_length s.code (ensure_loaded v s).code (front-ensure v s)

-- ---- a gate's operation

pub releases : (wanted : ℕ → Bool) (g : Gate) (s s₁ s₂ : Allocation) (left right : Bool) → left ≡ (eqb g.left g.right || wanted g.left) → right ≡ wanted g.right
    → s₁ ≡ release left g.left s → s₂ ≡ release right g.right s₁ → s₂ ≡ release_operands wanted g s
unfolding release_operands
releases wanted g s s₁ s₂ left right p q e f = f ∙ ap₂ (λ k x. release k g.right x) q (e ∙ ap (λ k. release k g.left s) p)

-- from registers x and y, when its operands are released
pub operation-is : (wanted : ℕ → Bool) (v : ℕ) (g : Gate) (s s' : Allocation) (x y : ℕ) → s' ≡ release_operands wanted g s
    → x ≡ register_of s.owners g.left → y ≡ register_of s.owners g.right → assign v (λ d. operating g.kind d x y) s' ≡ operated wanted v g s
operation-is wanted v g s s' x y e p q =
    ap (assign v (λ d. operating g.kind d x y)) e ∙ ap₂ (λ m n. assign v (λ d. operating g.kind d m n) (release_operands wanted g s)) p q

-- which is one instruction more
pub operated-longer : (wanted : ℕ → Bool) (v : ℕ) (g : Gate) (s : Allocation) → length s.code ≤ length (operated wanted v g s).code
unfolding assign
operated-longer wanted v g s =
    omega (
      arith,
      length-append (release_operands wanted g s).code
          (operating g.kind (next_register (release_operands wanted g s).owners (release_operands wanted g s).freed) (register_of s.owners g.left) (register_of s.owners g.right) ∷ []),
      ap length (releases-code wanted g s),
    )
