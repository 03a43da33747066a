-- The register discipline: two programs of one circuit that have it are the same, and the program of the allocation has it. Assumes nothing.
use mathlib.Core.Path.{◌≡◌, refl, sym, ap, ap₂, subst, ◌∙◌}
use mathlib.Core.Logic.{◌⊎◌, inl, inr}
use mathlib.Core.Bool.{Bool, true, false, true≢false, not, ◌&&◌, ◌||◌}
use mathlib.Core.List.{List, [], ◌∷◌, ◌++◌, map, nil≢cons, head-eq_of_cons-eq, tail-eq_of_cons-eq}
use Prim.Native.Nat.{ℕ, zero, suc, ◌+◌, ◌≤◌, ◌<◌}
use native.Mathlib.Decide.{dec_lt}
use native.Mathlib.Omega.{arith}
use lib.Dec.{eqb}
use lib.ListN.{length, get_or, length-map}
use lib.Seq.{take-length}
use borrow.Author.Tests.{eq-eqb, eqb-true}
use Rattle.lists.specs.First.{first}
use Rattle.lists.proofs.Tests.{left-of, right_of}
use Rattle.circuit.specs.Circuit.{Gate, Circuit, no_gate, first_gate, references}
use Rattle.circuit.specs.Path.{is_among}
use Rattle.circuit.specs.Refusal.{has_gate_kind}
use Rattle.circuit.proofs.EachLaws.{each_at}
use Rattle.translator.specs.Machine.{Instruction, load_opcode, loading, emitting, is_load, is_operation}
use Rattle.translator.specs.LiveRange.{is_used_from}
use Rattle.translator.specs.Shape.{without_registers, operation_kinds}
use Rattle.translator.specs.LoadOrder.{loaded_after}
use Rattle.translator.specs.Allocation.{Allocation, register_of, next_register, assign, release_left, release_operands, loaded}
use Rattle.translator.specs.Allocator.{ensure_loaded, ensure_operands, gate_turn, allocation_after, outputs_loaded, allocation_at_end}
use Rattle.translator.specs.Program.{program}
use Rattle.translator.specs.History.{Change, taken, register_taken_by}
use Rattle.translator.specs.Discipline.{Past, nothing_done, DisciplinedLoad, DisciplinedOperation, left_freed, operands_freed, following, past_from, past_of, Disciplined}
use Rattle.translator.proofs.TrimmedLaws.{Trimmed}
use Rattle.translator.proofs.ReadyLaws.{neither, is_ready, result-new, left-wanted, right-wanted, left-ready, right-ready}
use Rattle.translator.proofs.OwnerLaws.{map-among, Free}
use Rattle.translator.proofs.AllocationLaws.{Allocated}
use Rattle.translator.proofs.AllocatorLaws.{left-ensured, operands-allocated, left-released, both-released, after-allocated, outputs-allocated, end-holds}
use Rattle.translator.proofs.ActionLaws.{end-allocated, end-is-program}
use Rattle.translator.proofs.ShapeLaws.{code_shape}
use Rattle.translator.proofs.LoadOrderLaws.{loaded-once, operand-loaded, output-loaded}
use Rattle.translator.proofs.HistoryLaws.{takes_one, Recorded, recorded-none, recorded-register, next-takes, recorded-assign, recorded-release}
use Rattle.translator.proofs.MomentLaws.{operation, turn-code, kinds-end}

-- ---- one instruction after the other

abbrev Obeys : Circuit → Past → Instruction → Type 0
Obeys c past x = DisciplinedLoad past x ⊎ DisciplinedOperation c past x

-- from a past on
abbrev Along : Circuit → Past → List Instruction → Type 0
Along c past [] = Unit {0}
Along c past (x ∷ xs) = Obeys c past x × Along c (following c past x) xs

module _ (c : Circuit) where
  along-each : (xs : List Instruction) (past : Past)
      → ((before : List Instruction) (x : Instruction) (behind : List Instruction) → xs ≡ before ++ (x ∷ behind) → Obeys c (past_from c past before) x)
      → Along c past xs
  unfolding past_from
  along-each [] past each = tt
  along-each (x ∷ xs) past each = (each [] x xs refl, along-each xs (following c past x) (λ before y behind e. each (x ∷ before) y behind (ap (λ l. x ∷ l) e)))

  each-along : (before : List Instruction) (x : Instruction) (behind : List Instruction) (past : Past) → Along c past (before ++ (x ∷ behind))
      → Obeys c (past_from c past before) x
  unfolding past_from
  each-along [] x behind past a = a.0
  each-along (y ∷ before) x behind past a = each-along before x behind (following c past y) a.1

-- ---- two of them

-- they do the same, but for registers
record Alike (xs ys : List Instruction) : Type 0 where
  kinds : operation_kinds xs ≡ operation_kinds ys
  loads : (i : ℕ) → i ≤ length (operation_kinds xs) → loaded_after i xs ≡ loaded_after i ys

alike-sym : (xs ys : List Instruction) → Alike xs ys → Alike ys xs
alike-sym xs ys s = record { kinds = sym s.kinds; loads = λ i h. sym (s.loads i (omega (arith, ap length s.kinds))) }

-- an operation, or a load, and then others
module _ (x : Instruction) (xs : List Instruction) {b : Bool} (e : is_operation x ≡ b) where
  kinds-first : operation_kinds (x ∷ xs) ≡ first b (x.opcode ∷ operation_kinds xs) (operation_kinds xs)
  unfolding operation_kinds
  kinds-first = rw e

  loads-first : loaded_after zero (x ∷ xs) ≡ first b [] (x.arg2 ∷ loaded_after zero xs)
  unfolding loaded_after
  loads-first = rw e

  loads-later : (i : ℕ) → loaded_after (suc i) (x ∷ xs) ≡ first b (loaded_after i xs) (loaded_after (suc i) xs)
  unfolding loaded_after
  loads-later i = rw e

load_is : (x : Instruction) → is_load x ≡ true → (x.opcode ≡ load_opcode) × (x.arg3 ≡ 0)
load_is x e =
    let a = eqb x.opcode load_opcode in
    let b = eqb x.arg3 0 in
    (eqb-true x.opcode load_opcode (left-of a b e), eqb-true x.arg3 0 (right_of a b e))

pub no-operation : (x : Instruction) → is_load x ≡ true → is_operation x ≡ false
no-operation x e = rw (load_is x e).0

pub operation-no-load : (x : Instruction) → is_operation x ≡ true → is_load x ≡ false
operation-no-load x o = go (is_load x) refl
  where
    go : (b : Bool) → is_load x ≡ b → b ≡ false
    go true e = absurd (true≢false (sym o ∙ no-operation x e))
    go false e = refl

instruction-same : (x y : Instruction) → x.opcode ≡ y.opcode → x.arg1 ≡ y.arg1 → x.arg2 ≡ y.arg2 → x.arg3 ≡ y.arg3 → x ≡ y
instruction-same x y o d a b = λ i. record { opcode = o i; arg1 = d i; arg2 = a i; arg3 = b i }

module _ (c : Circuit) (past : Past) where
  -- one of them has no more than the other
  no_more : (y : Instruction) (ys : List Instruction) → Obeys c past y → Alike [] (y ∷ ys) → ⊥
  unfolding loaded_after operation_kinds
  no_more y ys (inl l) s = nil≢cons (s.loads zero (omega arith) ∙ loads-first y ys (no-operation y l.is-load))
  no_more y ys (inr o) s = nil≢cons (s.kinds ∙ kinds-first y ys o.is-operation)

  first-same : (x : Instruction) (xs : List Instruction) (y : Instruction) (ys : List Instruction) → Obeys c past x → Obeys c past y → Alike (x ∷ xs) (y ∷ ys)
      → (x ≡ y) × Alike xs ys
  first-same x xs y ys (inl l) (inl m) s =
      let p = no-operation x l.is-load in
      let q = no-operation y m.is-load in
      let e = sym (loads-first x xs p) ∙ s.loads zero (omega arith) ∙ loads-first y ys q in
      let k = load_is x l.is-load in
      let n = load_is y m.is-load in (
        instruction-same x y (k.0 ∙ sym n.0) (takes_one past.history x.arg1 y.arg1 l.takes m.takes) (head-eq_of_cons-eq e) (k.1 ∙ sym n.1),
        record { kinds = sym (kinds-first x xs p) ∙ s.kinds ∙ kinds-first y ys q; loads = λ i h. behind p q (tail-eq_of_cons-eq e) i h },
      )
    where
      behind : is_operation x ≡ false → is_operation y ≡ false → loaded_after zero xs ≡ loaded_after zero ys
          → (i : ℕ) → i ≤ length (operation_kinds xs) → loaded_after i xs ≡ loaded_after i ys
      behind p q e zero h = e
      behind p q e (suc i) h = sym (loads-later x xs p i) ∙ s.loads (suc i) (omega (arith, ap length (kinds-first x xs p))) ∙ loads-later y ys q i
  first-same x xs y ys (inl l) (inr m) s =
      absurd (nil≢cons (sym (loads-first y ys m.is-operation) ∙ sym (s.loads zero (omega arith)) ∙ loads-first x xs (no-operation x l.is-load)))
  first-same x xs y ys (inr l) (inl m) s =
      absurd (nil≢cons (sym (loads-first x xs l.is-operation) ∙ s.loads zero (omega arith) ∙ loads-first y ys (no-operation y m.is-load)))
  first-same x xs y ys (inr l) (inr m) s =
      let e = sym (kinds-first x xs l.is-operation) ∙ s.kinds ∙ kinds-first y ys m.is-operation in (
        instruction-same x y (head-eq_of_cons-eq e) (takes_one (operands_freed c past) x.arg1 y.arg1 l.takes m.takes)
            (l.a-is-left ∙ sym m.a-is-left) (l.b-is-right ∙ sym m.b-is-right),
        record {
          kinds = tail-eq_of_cons-eq e;
          loads = λ i h.
              sym (loads-later x xs l.is-operation i) ∙ s.loads (suc i) (omega (arith, ap length (kinds-first x xs l.is-operation)))
              ∙ loads-later y ys m.is-operation i;
        },
      )

module _ (c : Circuit) where
  along-same : (past : Past) (xs ys : List Instruction) → Along c past xs → Along c past ys → Alike xs ys → xs ≡ ys
  along-same past [] [] a b s = refl
  along-same past [] (y ∷ ys) a b s = absurd (no_more c past y ys b.0 s)
  along-same past (x ∷ xs) [] a b s = absurd (no_more c past x xs a.0 (alike-sym (x ∷ xs) [] s))
  along-same past (x ∷ xs) (y ∷ ys) a b s =
      let (e, t) = first-same c past x xs y ys a.0 b.0 s in
      ap₂ ◌∷◌ e (along-same (following c past x) xs ys a.1 (subst (λ z. Along c (following c past z) ys) (sym e) b.1) t)

  -- what each of them does before an operation is fixed by the circuit
  pub disciplined-same : (p q : List Instruction) → Disciplined c p → Disciplined c q → p ≡ q
  disciplined-same p q a b =
      let e = a.operations ∙ sym b.operations in
      let gates = ap length a.operations ∙ length-map c.gates (λ g. g.kind) in
      let s : Alike a.body b.body = record { kinds = e; loads = λ i h. loads i (omega (arith, gates)) } in
      let same = along-same nothing_done a.body b.body (along-each c a.body nothing_done a.each-instruction) (along-each c b.body nothing_done b.each-instruction) s in
      a.emits-last ∙ ap (λ xs. xs ++ map (λ o. emitting (register_taken_by (past_of c xs).history o)) c.outputs) same ∙ sym b.emits-last
    where
      loads : (i : ℕ) → i ≤ length c.gates → loaded_after i a.body ≡ loaded_after i b.body
      loads i h =
          elim (dec_lt i (length c.gates)) [
            | yes l ↦ loaded-once c i _ (loaded_after i a.body) (loaded_after i b.body) (a.operand-loads i l) (b.operand-loads i l)
            | no l ↦
                let n = length c.gates in
                let e : i ≡ n = omega arith in
                rw e (loaded-once c n _ (loaded_after n a.body) (loaded_after n b.body) a.output-loads b.output-loads)
          ]

-- ---- the allocation

module _ (c : Circuit) where
  past-last : (past : Past) (xs : List Instruction) (x : Instruction) → past_from c past (xs ++ (x ∷ [])) ≡ following c (past_from c past xs) x
  unfolding past_from
  past-last past [] x = refl
  past-last past (y ∷ xs) x = past-last (following c past y) xs x

  along-last : (past : Past) (xs : List Instruction) (x : Instruction) → Along c past xs → Obeys c (past_from c past xs) x → Along c past (xs ++ (x ∷ []))
  unfolding past_from
  along-last past [] x a o = (o, tt)
  along-last past (y ∷ xs) x a o = (a.0, along-last (following c past y) xs x a.1 o)

  -- the code of s does i operations with discipline, and its registers are as the past has them
  pub record Followed (i : ℕ) (s : Allocation) : Type 0 where
    pub history : List Change
    pub past : past_of c s.code ≡ record { operations = i; history = history }
    pub recorded : Recorded s.owners s.freed history
    pub along : Along c nothing_done s.code

  -- a value takes a register by one more instruction
  followed-load : (i v : ℕ) (s : Allocation) → Free s.owners s.freed → is_among (suc v) s.owners ≡ false → Followed i s → Followed i (loaded v s)
  unfolding assign following
  followed-load i v s f new k =
      let d = next_register s.owners s.freed in
      record {
        history = taken d v ∷ k.history;
        past = past-last nothing_done s.code (loading d v) ∙ ap (λ p. following c p (loading d v)) k.past;
        recorded = recorded-assign v (λ d. loading d v) s k.history k.recorded f new;
        along = along-last nothing_done s.code (loading d v) k.along
            (inl (record { is-load = refl; takes = rw k.past (next-takes s.owners s.freed k.history k.recorded) }));
      }

  followed-ensure : (i v : ℕ) (s : Allocation) → Free s.owners s.freed → Followed i s → Followed i (ensure_loaded v s)
  unfolding ensure_loaded
  followed-ensure i v s f k = go (is_among (suc v) s.owners) refl
    where
      go : (b : Bool) → is_among (suc v) s.owners ≡ b → Followed i (first b s (loaded v s))
      go true e = k
      go false e = followed-load i v s f e k

  -- a gate's operation: its operands' registers are freed, and then its own value takes one
  following-operation : (past : Past) (x : Instruction) → is_operation x ≡ true
      → following c past x ≡ record { operations = suc past.operations; history = taken x.arg1 (first_gate c.inputs + past.operations) ∷ operands_freed c past }
  unfolding following
  following-operation past x o = rw (operation-no-load x o, o)

  module _ (k : Trimmed c) (i : ℕ) (h : i < length c.gates) (s : Allocation) (a : Allocated (references c) (is_ready c i i) (is_used_from c i) s) where
    abbrev g : Gate
    g = get_or c.gates i no_gate

    abbrev w : ℕ → Bool
    w = is_used_from c (suc i)

    followed-operands : Followed i s → Followed i (ensure_operands g s)
    followed-operands f =
        followed-ensure i g.right (ensure_loaded g.left s) (left-ensured c k i h s a).allocated.free (followed-ensure i g.left s a.free f)

    -- both operands are in registers, and the result is not
    left_there : is_among (suc g.left) (ensure_operands g s).owners ≡ true
    left_there = (operands-allocated c k i h s a).kept g.left (left-ready c k i h) (left-wanted c k i h)

    right_there : is_among (suc g.right) (ensure_operands g s).owners ≡ true
    right_there = (operands-allocated c k i h s a).kept g.right (right-ready c k i h) (right-wanted c k i h)

    right-still : is_among (suc g.right) (release_left w g (ensure_operands g s)).owners ≡ true
    right-still = (left-released c k i h s a).kept g.right (right-ready c k i h) (rw (eq-eqb g.right g.right refl))

    result-out : is_among (suc (first_gate c.inputs + i)) (release_operands w g (ensure_operands g s)).owners ≡ false
    result-out = go (is_among (suc (first_gate c.inputs + i)) (release_operands w g (ensure_operands g s)).owners) refl
      where
        go : (b : Bool) → is_among (suc (first_gate c.inputs + i)) (release_operands w g (ensure_operands g s)).owners ≡ b → b ≡ false
        go true e = sym ((both-released c k i h s a).owned (first_gate c.inputs + i) e) ∙ result-new c k i h
        go false e = refl

    recorded-operands : (hs : List Change) → Recorded (ensure_operands g s).owners (ensure_operands g s).freed hs
        → Recorded (release_operands w g (ensure_operands g s)).owners (release_operands w g (ensure_operands g s)).freed
        (operands_freed c (record { operations = i; history = hs }))
    unfolding release_operands
    recorded-operands hs r =
        let u = ensure_operands g s in
        let past : Past = record { operations = i; history = hs } in
        recorded-release (w g.right) (not (w g.right)) g.right (release_left w g u) (left_freed c past) refl
        (recorded-release (eqb g.left g.right || w g.left) (not (w g.left) && not (eqb g.left g.right)) g.left u hs
        (neither (eqb g.left g.right) (w g.left)) r (operands-allocated c k i h s a).free left_there)
        (left-released c k i h s a).free right-still

    operation-obeys : (hs : List Change) → Recorded (ensure_operands g s).owners (ensure_operands g s).freed hs
        → DisciplinedOperation c (record { operations = i; history = hs }) (operation c i g (ensure_operands g s))
    operation-obeys hs r =
        let u = ensure_operands g s in
        let v = release_operands w g u in
        record {
          is-operation = each_at (λ m g. has_gate_kind m g ≡ true) (first_gate c.inputs) c.gates k.valid.kinds i h;
          a-is-left = sym (recorded-register u.owners u.freed hs r g.left left_there);
          b-is-right = sym (recorded-register u.owners u.freed hs r g.right right_there);
          takes = next-takes v.owners v.freed (operands_freed c (record { operations = i; history = hs })) (recorded-operands hs r);
        }

    followed-turn : Followed i s → Followed (suc i) (gate_turn c i g s)
    unfolding gate_turn
    followed-turn f =
        let u = ensure_operands g s in
        let x = operation c i g u in
        let now = followed-operands f in
        let past : Past = record { operations = i; history = now.history } in
        let obeys = operation-obeys now.history now.recorded in
        record {
          history = taken x.arg1 (first_gate c.inputs + i) ∷ operands_freed c past;
          past = ap (past_of c) (turn-code c i g s) ∙ past-last nothing_done u.code x ∙ ap (λ p. following c p x) now.past
              ∙ following-operation past x obeys.is-operation;
          recorded = recorded-assign (first_gate c.inputs + i) _ (release_operands w g u) (operands_freed c past) (recorded-operands now.history now.recorded)
              (both-released c k i h s a).free result-out;
          along = subst (Along c nothing_done) (sym (turn-code c i g s))
              (along-last nothing_done u.code x now.along (inr (subst (λ p. DisciplinedOperation c p x) (sym now.past) obeys)));
        }

module _ (c : Circuit) (k : Trimmed c) where
  followed-after : (i : ℕ) → i ≤ length c.gates → Followed c i (allocation_after c i)
  unfolding allocation_after past_from
  followed-after zero h = record { history = []; past = refl; recorded = recorded-none; along = tt }
  followed-after (suc i) h = followed-turn c k i h (allocation_after c i) (after-allocated c k i (omega arith)) (followed-after i (omega arith))

  followed-outputs : (j : ℕ) → j ≤ length c.outputs → Followed c (length c.gates) (outputs_loaded c j)
  unfolding outputs_loaded
  followed-outputs zero h = followed-after (length c.gates) (omega arith)
  followed-outputs (suc j) h =
      followed-ensure c (length c.gates) (get_or c.outputs j 0) (outputs_loaded c j) (outputs-allocated c k j (omega arith)).free (followed-outputs j (omega arith))

  pub program-disciplined : Disciplined c (program c)
  program-disciplined =
      let s = allocation_at_end c in
      let f = followed-outputs (length c.outputs) (omega arith) in
      let shape = ap (λ s. map without_registers s.code) (sym (end-allocated c k)) ∙ code_shape c k in
      let emits : map (λ o. emitting (register_of s.owners o)) c.outputs ≡ map (λ o. emitting (register_taken_by (past_of c s.code).history o)) c.outputs
      = map-among _ _ c.outputs (λ o e. ap emitting (sym (recorded-register s.owners s.freed f.history f.recorded o (end-holds c k o e))
      ∙ ap (λ p. register_taken_by p.history o) (sym f.past))) in
      record {
        body = s.code;
        emits-last = sym (end-is-program c k) ∙ ap (λ l. s.code ++ l) emits;
        operations = kinds-end c k ∙ ap (map (λ g. g.kind)) (take-length c.gates);
        operand-loads = operand-loaded c k s.code shape;
        output-loads = output-loaded c k s.code shape;
        each-instruction = λ before x behind e. each-along c before x behind nothing_done (subst (Along c nothing_done) e f.along);
      }
