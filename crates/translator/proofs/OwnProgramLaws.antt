-- The translator's program is a rival, for every limit that is not below the need. Assumes nothing.
use mathlib.Core.Path.{◌≡◌, refl, sym, ap, ap₂, ◌∙◌}
use mathlib.Core.Logic.{inl, inr}
use mathlib.Core.Bool.{Bool, true, false, true≢false, ◌||◌}
use mathlib.Core.List.{List, [], ◌∷◌, ◌++◌, map, map-map}
use mathlib.Core.Option.{Option, none, some}
use Prim.Native.Nat.{ℕ, suc, ◌+◌, ◌≤◌, ◌<◌}
use native.Mathlib.Nat.{suc_inj, suc-ne-zero}
use native.Mathlib.Decide.{ℕ_discrete}
use native.Mathlib.Omega.{arith}
use lib.Dec.{eqb}
use lib.ListN.{length, get_or, set, length-replicate}
use lib.Seq.{take-length, get_or-set_same, get_or-set_other}
use borrow.Author.Tests.{lt-ltb}
use Rattle.lists.specs.First.{first}
use Rattle.lists.proofs.Tests.{both}
use Rattle.circuit.specs.Circuit.{Gate, Circuit, first_gate, no_gate}
use Rattle.circuit.specs.Each.{EachGate}
use Rattle.circuit.specs.Path.{is_among}
use Rattle.circuit.specs.Refusal.{has_gate_kind}
use Rattle.circuit.proofs.EachLaws.{each_at}
use Rattle.translator.specs.Machine.{Instruction, loading, operating, emitting, is_load, is_operation, is_emit}
use Rattle.translator.specs.LiveRange.{is_used_from}
use Rattle.translator.specs.Need.{need}
use Rattle.translator.specs.Pressure.{one_if}
use Rattle.translator.specs.Actions.{Action, load, operate, actions, loads_of, operations_of}
use Rattle.translator.specs.Shape.{without_registers, instruction_of, loaded_by, occurrences}
use Rattle.translator.specs.Written.{is_write}
use Rattle.translator.specs.Allocation.{Allocation, no_registers, register_of, next_register, owners_with, assign, release, release_operands, loaded, operated}
use Rattle.translator.specs.Allocator.{allocation_at_end}
use Rattle.translator.specs.Program.{program}
use Rattle.translator.specs.Known.{Known, nothing_known, HoldsReference, known_after, known_from, known_of}
use Rattle.translator.specs.Rival.{LoadsOrOperates, PlainRival}
use Rattle.translator.proofs.TrimmedLaws.{Trimmed}
use Rattle.translator.proofs.OwnerLaws.{map-among, register-at, freed-owner, Free, owners-next, owners-other, next-inside}
use Rattle.translator.proofs.AllocatorLaws.{end-holds}
use Rattle.translator.proofs.AlongLaws.{carried-outputs}
use Rattle.translator.proofs.ActionLaws.{end-allocated, end-is-program}
use Rattle.translator.proofs.LoadLaws.{operations-actions, actions-occurrences}
use Rattle.translator.proofs.ShapeLaws.{releases-code, code_shape}
use Rattle.translator.proofs.MomentLaws.{kinds-end}
use Rattle.translator.proofs.DisciplineLaws.{operation-no-load}
use Rattle.translator.proofs.SplitLaws.{each_last, no-element}
use Rattle.translator.proofs.KnownLaws.{made_by, registers-after, operations-after, known-append, known-length}
use Rattle.translator.proofs.RivalLaws.{body-writes}

-- ---- an allocation's code as loads and operations of a rival, which has done i gates

record Follows (c : Circuit) (limit i : ℕ) (s : Allocation) : Type 0 where
  each : (before : List Instruction) (x : Instruction) (behind : List Instruction) → s.code ≡ before ++ (x ∷ behind) → LoadsOrOperates c limit before x
  done : (known_of c limit s.code).operations ≡ i
  holds : (d v : ℕ) → get_or s.owners d 0 ≡ suc v → HoldsReference (known_of c limit s.code) d v

module _ (c : Circuit) (limit : ℕ) where
  abbrev after : Allocation → Known
  after s = known_of c limit s.code

  follows-none : Follows c limit 0 no_registers
  unfolding known_from
  follows-none = record { each = λ before x behind e. nothing before x behind e; done = refl; holds = λ d v e. absurd (suc-ne-zero v (sym e)) }
    where
      nothing : (before : List Instruction) (x : Instruction) (behind : List Instruction) → [] ≡ before ++ (x ∷ behind) → LoadsOrOperates c limit before x
      nothing before x behind e = absurd (no-element before x behind e)

  module _ (i : ℕ) (s : Allocation) (f : Follows c limit i s) where
    follows-read : (v : ℕ) → is_among (suc v) s.owners ≡ true → HoldsReference (after s) (register_of s.owners v) v
    follows-read v e = f.holds (register_of s.owners v) v (register-at s.owners v e).0

    follows-release : (keep : Bool) (v : ℕ) → Follows c limit i (release keep v s)
    unfolding release
    follows-release true v = f
    follows-release false v = record { each = f.each; done = f.done; holds = λ d u e. f.holds d u (freed-owner s.owners _ d u e) }

    -- v takes the next register, by an instruction that puts v there
    module _ (v : ℕ) (make : ℕ → Instruction) (free : Free s.owners s.freed) (fits : length (assign v make s).owners ≤ limit) where
      abbrev d : ℕ
      d = next_register s.owners s.freed

      next_fits : d < length (after s).registers
      unfolding assign
      next_fits =
          omega (arith, next-inside v s.owners s.freed free, known-length c s.code (nothing_known limit), length-replicate {A = Option ℕ} limit none)

      follows-assign : (make d).arg1 ≡ d → LoadsOrOperates c limit s.code (make d) → made_by c (after s) (make d) ≡ v
          → (j : ℕ) → first (is_operation (make d)) (suc i) i ≡ j → Follows c limit j (assign v make s)
      unfolding assign known_from
      follows-assign at allowed made j count =
          let x = make d in
          let last : known_of c limit (s.code ++ (x ∷ [])) ≡ known_after c (after s) x = known-append c s.code (x ∷ []) (nothing_known limit) in
          let written : first (is_write x) (set (after s).registers x.arg1 (some (made_by c (after s) x))) (after s).registers
          ≡ set (after s).registers x.arg1 (some (made_by c (after s) x)) = rw (body-writes c limit s.code x allowed) in
          let put : (known_of c limit (s.code ++ (x ∷ []))).registers ≡ set (after s).registers d (some v)
          = ap (λ t. t.registers) last ∙ registers-after c (after s) x ∙ written ∙ ap₂ (λ y w. set (after s).registers y (some w)) at made in
          record {
            each = each_last (LoadsOrOperates c limit) s.code x f.each allowed;
            done = ap (λ t. t.operations) last ∙ operations-after c (after s) x ∙ ap (λ n. first (is_operation x) (suc n) n) f.done ∙ count;
            holds = λ e u q. ap (λ rs. get_or rs e none) put ∙ elim (ℕ_discrete e d) [
              | yes p ↦
                  let same : v ≡ u
                  = suc_inj (sym (owners-next v s.owners s.freed free) ∙ ap (λ y. get_or (owners_with v s.owners s.freed) y 0) (sym p) ∙ q) in
                  ap (λ y. get_or (set (after s).registers d (some v)) y none) p ∙ get_or-set_same (after s).registers d (some v) none next_fits ∙ ap some same
              | no p ↦ get_or-set_other (after s).registers d e (some v) none p ∙ f.holds e u (sym (owners-other v s.owners s.freed e p) ∙ q)
            ];
          }

  module _ (i : ℕ) (s : Allocation) (f : Follows c limit i s) where
    follows-load : (v : ℕ) → Free s.owners s.freed → length (loaded v s).owners ≤ limit → v < first_gate c.inputs → Follows c limit i (loaded v s)
    follows-load v free fits low =
        follows-assign i s f v (λ d. loading d v) free fits refl (inl (record { is-load = refl; loadable = lt-ltb v (first_gate c.inputs) low })) refl i refl

    follows-releases : (w : ℕ → Bool) (g : Gate) → Follows c limit i (release_operands w g s)
    unfolding release_operands
    follows-releases w g = follows-release i _ (follows-release i s f (eqb g.left g.right || w g.left) g.left) (w g.right) g.right

    follows-operate : (w : ℕ → Bool) (g : Gate) → (let u = release_operands w g s in Free u.owners u.freed)
        → length (operated w (first_gate c.inputs + i) g s).owners ≤ limit → has_gate_kind i g ≡ true
        → is_among (suc g.left) s.owners ≡ true → is_among (suc g.right) s.owners ≡ true → get_or c.gates i no_gate ≡ g
        → Follows c limit (suc i) (operated w (first_gate c.inputs + i) g s)
    follows-operate w g free fits kind l r at =
        let u = release_operands w g s in
        let a = register_of s.owners g.left in
        let b = register_of s.owners g.right in
        let x = operating g.kind (next_register u.owners u.freed) a b in
        let fu = follows-releases w g in
        let same : after u ≡ after s = ap (known_of c limit) (releases-code w g s) in
        let gate : g ≡ get_or c.gates (after u).operations no_gate = sym at ∙ ap (λ n. get_or c.gates n no_gate) (sym fu.done) in
        let holds : (y v : ℕ) → HoldsReference (after s) y v → HoldsReference (after u) y v = λ y v h. ap (λ t. get_or t.registers y none) same ∙ h in
        let no-load : is_load x ≡ false = operation-no-load x kind in
        follows-assign i u fu (first_gate c.inputs + i) (λ d. operating g.kind d a b) free fits refl
        (inr (record {
          is-operation = kind;
          reads-operands = inl (
            holds a (get_or c.gates (after u).operations no_gate).left (follows-read i s f g.left l ∙ ap (λ h. some h.left) gate),
            holds b (get_or c.gates (after u).operations no_gate).right (follows-read i s f g.right r ∙ ap (λ h. some h.right) gate),
          );
        }))
        (ap (λ b. first b x.arg2 (first_gate c.inputs + (after u).operations)) no-load ∙ ap (λ n. first_gate c.inputs + n) fu.done) (suc i)
        (ap (λ b. first b (suc i) i) kind)

-- ---- the loads, which are those of the actions

-- registers don't matter
load-shape : (x : Instruction) → (is_load (without_registers x) ≡ is_load x) × (is_load x ≡ true → (without_registers x).arg2 ≡ x.arg2)
unfolding without_registers
load-shape x = go (is_load x) (is_operation x) (is_emit x) refl refl
  where
    go : (a b e : Bool) → is_load x ≡ a → is_operation x ≡ b
        → (is_load (first a (loading 0 x.arg2) (first b (operating x.opcode 0 0 0) (first e (emitting 0) x))) ≡ a)
        × (a ≡ true → (first a (loading 0 x.arg2) (first b (operating x.opcode 0 0 0) (first e (emitting 0) x))).arg2 ≡ x.arg2)
    go true b e q r = (refl, λ z. refl)
    go false true e q r = (operation-no-load (operating x.opcode 0 0 0) r, λ z. absurd (true≢false (sym z)))
    go false false true q r = (refl, λ z. absurd (true≢false (sym z)))
    go false false false q r = (q, λ z. refl)

loaded-shape : (xs : List Instruction) → loaded_by (map without_registers xs) ≡ loaded_by xs
unfolding loaded_by
loaded-shape [] = refl
loaded-shape (x ∷ xs) =
    ap (λ b. first b ((without_registers x).arg2 ∷ loaded_by (map without_registers xs)) (loaded_by (map without_registers xs))) (load-shape x).0
    ∙ go (is_load x) (load-shape x).1 (loaded-shape xs)
  where
    go : (b : Bool) → (b ≡ true → (without_registers x).arg2 ≡ x.arg2) → loaded_by (map without_registers xs) ≡ loaded_by xs
        → first b ((without_registers x).arg2 ∷ loaded_by (map without_registers xs)) (loaded_by (map without_registers xs)) ≡ first b (x.arg2 ∷ loaded_by xs) (loaded_by xs)
    go true e ih = ap₂ ◌∷◌ (e refl) ih
    go false e ih = ih

loaded-actions : (n : ℕ) (ss : List Action) → EachGate (λ m g. has_gate_kind m g ≡ true) n (operations_of ss) → loaded_by (map instruction_of ss) ≡ loads_of ss
unfolding loaded_by loads_of operations_of
loaded-actions n [] k = refl
loaded-actions n (load v ∷ ss) k = ap (λ l. v ∷ l) (loaded-actions n ss k)
loaded-actions n (operate v g ∷ ss) k =
    ap (λ b. first b (0 ∷ loaded_by (map instruction_of ss)) (loaded_by (map instruction_of ss))) (operation-no-load (operating g.kind 0 0 0) k.0)
    ∙ loaded-actions (suc n) ss k.1

-- ---- the program

module _ (c : Circuit) (k : Trimmed c) (limit : ℕ) (enough : need c ≤ limit) where
  follows-end : Follows c limit (length c.gates) (allocation_at_end c)
  follows-end =
      carried-outputs c k limit enough (Follows c limit)
      (record {
        at_first = follows-none c limit;
        by-load = λ i v s free fits low f. follows-load c limit i s f v free fits low;
        by-operation = λ i h s free fits l r f.
            follows-operate c limit i s f (is_used_from c (suc i)) (get_or c.gates i no_gate) free fits
            (each_at (λ m g. has_gate_kind m g ≡ true) (first_gate c.inputs) c.gates k.valid.kinds i h) l r refl;
      })
      (length c.outputs) (omega arith)

  abbrev s : Allocation
  s = allocation_at_end c

  code-loads : loaded_by s.code ≡ loads_of (actions c)
  code-loads =
      sym (loaded-shape s.code) ∙ ap loaded_by (ap (λ s. map without_registers s.code) (sym (end-allocated c k)) ∙ code_shape c k)
      ∙ loaded-actions (first_gate c.inputs) (actions c) (rw (operations-actions c) k.valid.kinds)

  pub program-rival : PlainRival c limit (program c)
  program-rival =
      let ws = s.owners in
      let rs = (known_of c limit s.code).registers in
      record {
        body = s.code;
        emitted = map (register_of ws) c.outputs;
        emits-last = sym (end-is-program c k) ∙ ap (λ l. s.code ++ l) (sym (map-map emitting (register_of ws) c.outputs));
        each-instruction = follows-end.each;
        operations = kinds-end c k ∙ ap (map (λ g. g.kind)) (take-length c.gates);
        loads = λ v low used. ap (occurrences v) code-loads ∙ actions-occurrences c v ∙ ap one_if (both low used);
        outputs = map-map (λ a. get_or rs a none) (register_of ws) c.outputs
            ∙ map-among (λ o. get_or rs (register_of ws o) none) some c.outputs (λ o q. follows-read c limit (length c.gates) s follows-end o (end-holds c k o q));
      }
