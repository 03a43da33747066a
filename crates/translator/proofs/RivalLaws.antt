-- A rival has its loads and operations first, and then its emits: what is told of each. Assumes nothing.
use mathlib.Core.Path.{◌≡◌, refl, sym, ap, ap₂, subst, ◌∙◌}
use mathlib.Core.Logic.{◌⊎◌, inl, inr, ⊎_elim}
use mathlib.Core.Bool.{Bool, true, false, true≢false, ◌&&◌, or-true}
use mathlib.Core.Option.{Option, none, some}
use mathlib.Core.List.{List, [], ◌∷◌, ◌++◌, map, append_assoc, append-nil, append-eq-nil_iff, nil≢cons, head-eq_of_cons-eq, tail-eq_of_cons-eq}
use Prim.Native.Nat.{ℕ, suc, ◌+◌, ◌≤◌, ◌<◌}
use native.Mathlib.Omega.{arith}
use lib.Dec.{eqb}
use lib.ListN.{length, get_or, length-map}
use lib.Seq.{append_snoc}
use borrow.Author.Tests.{eq-eqb, eqb-true, ltb-true}
use Rattle.lists.specs.First.{first}
use Rattle.lists.proofs.Tests.{left-of, one_of}
use Rattle.circuit.specs.Circuit.{Circuit, first_gate}
use Rattle.circuit.specs.Path.{is_among, is_operand, is_output}
use Rattle.circuit.proofs.ValidLaws.{among-head, among-tail}
use Rattle.translator.specs.Machine.{Instruction, emit_opcode, emitting, is_load, is_operation, is_emit}
use Rattle.translator.specs.LiveRange.{is_used_from, is_constant_or_input}
use Rattle.translator.specs.Shape.{loaded_by, occurrences}
use Rattle.translator.specs.Written.{is_write, registers_written}
use Rattle.translator.specs.Known.{Known, nothing_known, HoldsReference, known_after, known_from, known_of}
use Rattle.translator.specs.Rival.{due_gate, HoldOperands, LoadsOrOperates, PlainRival, EachAllowed, AllGates, LoadedBeforeUse, EmitsLast, EmitsOutputs, Rival}
use Rattle.translator.specs.StillRead.{reads, is_still_read}
use Rattle.translator.proofs.UseLaws.{used-at}
use Rattle.translator.proofs.LoadLaws.{occurrences-append}
use Rattle.translator.proofs.LoadOrderLaws.{among_of}
use Rattle.translator.proofs.WrittenLaws.{written-append, emits-write}
use Rattle.translator.proofs.DisciplineLaws.{no-operation, operation-no-load}
use Rattle.translator.proofs.SplitLaws.{split-append, each_append, no-element}
use Rattle.translator.proofs.KnownLaws.{operations-after, known-append, operations-count, operations-rise, silent-from, silent-makes, still-there, held-made, input-made}

-- ---- what an instruction is

emit-is : (x : Instruction) → is_emit x ≡ true → x.opcode ≡ emit_opcode
emit-is x e = eqb-true x.opcode emit_opcode (left-of (eqb x.opcode emit_opcode) (eqb x.arg2 0 && eqb x.arg3 0) e)

emit-silent : (x : Instruction) → is_emit x ≡ true → is_write x ≡ false
emit-silent x e = rw (emit-is x e)

emit-no-operation : (x : Instruction) → is_emit x ≡ true → is_operation x ≡ false
emit-no-operation x e = rw (emit-is x e)

-- ---- the references that are loaded

pub loaded-append : (xs ys : List Instruction) → loaded_by (xs ++ ys) ≡ loaded_by xs ++ loaded_by ys
unfolding loaded_by
loaded-append [] ys = refl
loaded-append (x ∷ xs) ys = go (is_load x) (loaded-append xs ys)
  where
    go : (b : Bool) → loaded_by (xs ++ ys) ≡ loaded_by xs ++ loaded_by ys
        → first b (x.arg2 ∷ loaded_by (xs ++ ys)) (loaded_by (xs ++ ys)) ≡ first b (x.arg2 ∷ loaded_by xs) (loaded_by xs) ++ loaded_by ys
    go true ih = ap (λ l. x.arg2 ∷ l) ih
    go false ih = ih

-- each by a load
abbrev Loaded : List Instruction → (u : ℕ) → Type 0
Loaded xs u = (before : List Instruction) × (x : Instruction) × (behind : List Instruction) × (xs ≡ before ++ (x ∷ behind)) × (is_load x ≡ true) × (x.arg2 ≡ u)

loaded_at : (xs : List Instruction) (u : ℕ) → is_among u (loaded_by xs) ≡ true → Loaded xs u
unfolding loaded_by is_among
loaded_at [] u e = absurd (true≢false (sym e))
loaded_at (x ∷ xs) u e = go (is_load x) refl e (loaded_at xs u)
  where
    later : Loaded xs u → Loaded (x ∷ xs) u
    later (before, y, behind, p, l, q) = (x ∷ before, y, behind, ap (λ r. x ∷ r) p, l, q)

    go : (b : Bool) → is_load x ≡ b → is_among u (first b (x.arg2 ∷ loaded_by xs) (loaded_by xs)) ≡ true → (is_among u (loaded_by xs) ≡ true → Loaded xs u)
        → Loaded (x ∷ xs) u
    go true l e ih =
        elim (one_of (eqb u x.arg2) (is_among u (loaded_by xs)) e) [
          | inl q ↦ ([], x, xs, refl, l, sym (eqb-true u x.arg2 q))
          | inr q ↦ later (ih q)
        ]
    go false l e ih = later (ih e)

-- ---- the first emit

-- xs without its emits, which write nothing, and the emits; each emit that is found in xs is among these
record FirstEmit (xs : List Instruction) : Type 0 where
  body : List Instruction
  emits : List Instruction
  parts : xs ≡ body ++ emits
  silent : registers_written emits ≡ []
  among : (before : List Instruction) (a : ℕ) (behind : List Instruction) → xs ≡ before ++ (emitting a ∷ behind)
      → (mid : List Instruction) × (before ≡ body ++ mid) × (emits ≡ mid ++ (emitting a ∷ behind))

first-emit : (xs : List Instruction) → EmitsLast xs → FirstEmit xs
unfolding registers_written
first-emit [] last =
    record { body = []; emits = []; parts = refl; silent = refl; among = λ before a behind e. (before, refl, e) }
first-emit (x ∷ xs) last = go (is_emit x) refl (first-emit xs (λ before y behind e q. last (x ∷ before) y behind (ap (λ r. x ∷ r) e) q))
  where
    go : (b : Bool) → is_emit x ≡ b → FirstEmit xs → FirstEmit (x ∷ xs)
    go true q f =
        record {
          body = [];
          emits = x ∷ xs;
          parts = refl;
          silent = ap (λ b. first b (x.arg1 ∷ registers_written xs) (registers_written xs)) (emit-silent x q) ∙ last [] x xs refl q;
          among = λ before a behind e. (before, refl, e);
        }
    go false q f =
        record {
          body = x ∷ f.body;
          emits = f.emits;
          parts = ap (λ r. x ∷ r) f.parts;
          silent = f.silent;
          among = λ before a behind e. later before a behind e;
        }
      where
        later : (before : List Instruction) (a : ℕ) (behind : List Instruction) → x ∷ xs ≡ before ++ (emitting a ∷ behind)
            → (mid : List Instruction) × (before ≡ x ∷ f.body ++ mid) × (f.emits ≡ mid ++ (emitting a ∷ behind))
        later [] a behind e = absurd (true≢false (ap is_emit (sym (head-eq_of_cons-eq e)) ∙ q))
        later (y ∷ before) a behind e =
            let (mid, p, r) = f.among before a behind (tail-eq_of_cons-eq e) in
            (mid, ap₂ ◌∷◌ (sym (head-eq_of_cons-eq e)) p, r)

-- ---- a rival

-- its loads and operations, and its emits, which are the last to read the outputs
pub record Parted (c : Circuit) (limit : ℕ) (p : List Instruction) : Type 0 where
  pub body : List Instruction
  pub emits : List Instruction
  pub parts : p ≡ body ++ emits
  pub all_done : (known_of c limit body).operations ≡ length c.gates
  pub outputs : (o : ℕ) → is_output c o ≡ true → (a : ℕ) × HoldsReference (known_of c limit body) a o × (is_still_read a emits ≡ true)

module _ (c : Circuit) (limit : ℕ) (p : List Instruction) (r : Rival c limit p) where
  pub rival-parted : Parted c limit p
  unfolding is_still_read
  rival-parted =
      let f = first-emit p r.emits-last in
      let here = known_of c limit f.body in
      let same : known_of c limit p ≡ here
      = ap (known_of c limit) f.parts ∙ known-append c f.body f.emits (nothing_known limit) ∙ silent-from c f.emits here f.silent in
      record {
        body = f.body;
        emits = f.emits;
        parts = f.parts;
        all_done = ap (λ s. s.operations) (sym same) ∙ r.all-gates;
        outputs = λ o q.
            let (before, a, behind, e, holds) = r.emits-outputs o q in
            let (mid, front, back) = f.among before a behind e in
            let quiet = ((append-eq-nil_iff {p = registers_written mid}).0 (sym (written-append mid (emitting a ∷ behind)) ∙ ap registers_written (sym back) ∙ f.silent)).0 in
            let there : HoldsReference (known_from c here mid) a o
            = ap (λ s. get_or s.registers a none) (sym (known-append c f.body mid (nothing_known limit))) ∙ ap (λ xs. get_or (known_of c limit xs).registers a none) (sym front) ∙ holds in
            let (held, on) = still-there c mid here a o (silent-makes c o mid here quiet) there in
            (a, held, ap (is_still_read a) back ∙ on (emitting a ∷ behind) (rw (eq-eqb a a refl)));
      }

-- each constant or input that is used is loaded at most once
abbrev LoadedOnce : Circuit → List Instruction → Type 0
LoadedOnce c p = (v : ℕ) → is_constant_or_input c v ≡ true → is_used_from c 0 v ≡ true → occurrences v (loaded_by p) ≤ 1

-- ---- each of its instructions

module _ (c : Circuit) (limit : ℕ) (p : List Instruction) (each : EachAllowed c limit p) where
  -- an operation reads registers that hold the operands of the next gate
  pub operation-reads : (front : List Instruction) (op : Instruction) (back : List Instruction) → p ≡ front ++ (op ∷ back) → is_operation op ≡ true
      → let s = known_of c limit front in HoldOperands s (due_gate c s) op.arg2 op.arg3
  operation-reads front op back e o =
      elim (each front op back e) [
        | inl k ↦ ⊎_elim (λ l. absurd (true≢false (sym o ∙ no-operation op l.is-load))) (λ g. g.reads-operands) k
        | inr q ↦ absurd (true≢false (sym o ∙ emit-no-operation op q))
      ]

  -- and each of them by one of its two
  pub operand_read : (front : List Instruction) (op : Instruction) (back : List Instruction) → p ≡ front ++ (op ∷ back) → is_operation op ≡ true
      → (v : ℕ) → is_operand v (due_gate c (known_of c limit front)) ≡ true → (d : ℕ) × HoldsReference (known_of c limit front) d v × (reads op d ≡ true)
  operand_read front x back e o v u =
      let s = known_of c limit front in
      let g = due_gate c s in
      let held = operation-reads front x back e o in
      let in-first : HoldsReference s x.arg2 v → (d : ℕ) × HoldsReference s d v × (reads x d ≡ true)
      = λ k. (x.arg2, k, rw (o, eq-eqb x.arg2 x.arg2 refl)) in
      let in-second : HoldsReference s x.arg3 v → (d : ℕ) × HoldsReference s d v × (reads x d ≡ true)
      = λ k. (x.arg3, k, rw (o, eq-eqb x.arg3 x.arg3 refl, or-true (eqb x.arg3 x.arg2))) in
      elim (one_of (eqb v g.left) (eqb v g.right) u) [
        | inl q ↦ let w = sym (eqb-true v g.left q) in ⊎_elim (λ k. in-first (k.0 ∙ ap some w)) (λ k. in-second (k.1 ∙ ap some w)) held
        | inr q ↦ let w = sym (eqb-true v g.right q) in ⊎_elim (λ k. in-second (k.1 ∙ ap some w)) (λ k. in-first (k.0 ∙ ap some w)) held
      ]

  -- only constants and inputs are loaded
  pub loads-low : (u : ℕ) → is_among u (loaded_by p) ≡ true → u < first_gate c.inputs
  loads-low u e =
      let (before, x, behind, q, l, same) = loaded_at p u e in
      elim (each before x behind q) [
        | inl k ↦
            ⊎_elim (λ k. rw (sym same) (ltb-true x.arg2 (first_gate c.inputs) k.loadable)) (λ g. absurd (true≢false (sym g.is-operation ∙ no-operation x l))) k
        | inr q ↦ absurd (true≢false (sym (load-writes x l) ∙ emit-silent x q))
      ]
    where
      load-writes : (x : Instruction) → is_load x ≡ true → is_write x ≡ true
      load-writes x l = rw l

  -- If each that is used is loaded at most once, it is not loaded behind an operation that uses it: that one has found it in a register.
  once-before-use : AllGates c limit p → LoadedOnce c p → LoadedBeforeUse c limit p
  unfolding known_from loaded_by
  once-before-use all once before x behind e o v low u =
      let s = known_of c limit before in
      let below = ltb-true v (first_gate c.inputs) low in
      let (d, held, _) = operand_read before x behind e o v u in
      let again : loaded_by (x ∷ behind) ≡ loaded_by behind = ap (λ b. first b (x.arg2 ∷ loaded_by behind) (loaded_by behind)) (operation-no-load x o) in
      let sum : occurrences v (loaded_by p) ≡ occurrences v (loaded_by before) + occurrences v (loaded_by behind)
      = ap (occurrences v) (ap loaded_by e ∙ loaded-append before (x ∷ behind) ∙ ap (λ l. loaded_by before ++ l) again)
      ∙ occurrences-append v (loaded_by before) (loaded_by behind) in
      let one : first (is_operation x) (suc s.operations) s.operations ≡ suc s.operations = rw o in
      let more : s.operations < length c.gates
      = omega (
        arith,
        all,
        ap (λ xs. (known_of c limit xs).operations) e,
        ap (λ s. s.operations) (known-append c before (x ∷ behind) (nothing_known limit)),
        operations-rise c behind (known_after c s x),
        operations-after c s x,
      ) in
      let used : is_used_from c 0 v ≡ true = rw (used-at v c.gates 0 s.operations (omega arith) more u) in
      let none_left : occurrences v (loaded_by behind) ≡ 0
      = omega (arith, once v low used, held-made c limit before d v held, input-made c v before (nothing_known limit) below) in
      among_of v (loaded_by behind) false none_left

-- ---- loads and operations, and then emits

pub body-writes : (c : Circuit) (limit : ℕ) (before : List Instruction) (x : Instruction) → LoadsOrOperates c limit before x → is_write x ≡ true
body-writes c limit before x (inl l) = rw l.is-load
body-writes c limit before x (inr o) = rw (o.is-operation, or-true)

-- emits alone
emits_load : (ds : List ℕ) → loaded_by (map emitting ds) ≡ []
unfolding loaded_by
emits_load [] = refl
emits_load (a ∷ ds) = emits_load ds

emits-emit : (ds : List ℕ) (mid : List Instruction) (x : Instruction) (behind : List Instruction) → map emitting ds ≡ mid ++ (x ∷ behind) → is_emit x ≡ true
emits-emit [] mid x behind e = absurd (no-element mid x behind e)
emits-emit (a ∷ ds) [] x behind e = ap is_emit (sym (head-eq_of_cons-eq e))
emits-emit (a ∷ ds) (y ∷ mid) x behind e = emits-emit ds mid x behind (tail-eq_of_cons-eq e)

emit-of : (ds : List ℕ) (a : ℕ) → is_among a ds ≡ true
    → (front back : List Instruction) × (map emitting ds ≡ front ++ (emitting a ∷ back)) × (registers_written front ≡ [])
unfolding is_among registers_written
emit-of [] a e = absurd (true≢false (sym e))
emit-of (b ∷ ds) a e =
    elim (one_of (eqb a b) (is_among a ds) e) [
      | inl q ↦ ([], map emitting ds, ap (λ y. emitting y ∷ map emitting ds) (sym (eqb-true a b q)), refl)
      | inr q ↦ let (front, back, p, silent) = emit-of ds a q in (emitting b ∷ front, back, ap (λ l. emitting b ∷ l) p, silent)
    ]

module _ (c : Circuit) (limit : ℕ) (body : List Instruction) (ds : List ℕ)
    (each : (before : List Instruction) (x : Instruction) (behind : List Instruction) → body ≡ before ++ (x ∷ behind) → LoadsOrOperates c limit before x)
    (done : (known_of c limit body).operations ≡ length c.gates)
    (outputs : (o : ℕ) → is_output c o ≡ true → (a : ℕ) × (is_among a ds ≡ true) × HoldsReference (known_of c limit body) a o) where
  abbrev last : List Instruction
  last = map emitting ds

  abbrev here : Known
  here = known_of c limit body

  silent-behind : (mid : List Instruction) (x : Instruction) (behind : List Instruction) → last ≡ mid ++ (x ∷ behind) → registers_written behind ≡ []
  silent-behind mid x behind e =
      ((append-eq-nil_iff {p = registers_written (mid ++ (x ∷ []))}).0
      (sym (written-append (mid ++ (x ∷ [])) behind) ∙ ap registers_written (append_snoc mid x behind ∙ sym e) ∙ emits-write (λ a. a) ds)).1

  pub made-allowed : EachAllowed c limit (body ++ last)
  made-allowed =
      each_append (λ before x. LoadsOrOperates c limit before x ⊎ (is_emit x ≡ true)) body last (λ before x behind e. inl (each before x behind e))
      (λ mid x behind e. inr (emits-emit ds mid x behind e))

  pub made-gates : AllGates c limit (body ++ last)
  made-gates = ap (λ s. s.operations) (known-append c body last (nothing_known limit) ∙ silent-from c last here (emits-write (λ a. a) ds)) ∙ done

  made-loads : loaded_by (body ++ last) ≡ loaded_by body
  made-loads = loaded-append body last ∙ ap (λ l. loaded_by body ++ l) (emits_load ds) ∙ append-nil (loaded_by body)

  pub made-last : EmitsLast (body ++ last)
  made-last before x behind e q =
      elim (split-append body last before x behind e) [
        | inl (mid, p, r) ↦ absurd (true≢false (sym (body-writes c limit before x (each before x mid p)) ∙ emit-silent x q))
        | inr (mid, p, r) ↦ silent-behind mid x behind r
      ]

  pub made-outputs : EmitsOutputs c limit (body ++ last)
  made-outputs o q =
      let (a, among, holds) = outputs o q in
      let (front, back, p, silent) = emit-of ds a among in
      let same : known_of c limit (body ++ front) ≡ here = known-append c body front (nothing_known limit) ∙ silent-from c front here silent in (
        body ++ front,
        a,
        back,
        ap (λ l. body ++ l) p ∙ sym (append_assoc body front (emitting a ∷ back)),
        ap (λ s. get_or s.registers a none) same ∙ holds,
      )

  -- so it is a rival, if each that is used is loaded once
  rival-once : LoadedOnce c body → Rival c limit (body ++ last)
  rival-once once =
      record {
        each-allowed = made-allowed;
        all-gates = made-gates;
        loaded-before-use = once-before-use c limit (body ++ last) made-allowed made-gates (λ v low u. rw made-loads (once v low u));
        emits-last = made-last;
        emits-outputs = made-outputs;
      }

-- ---- 02's own words

-- what is emitted in order is emitted
emitted-from : (rs : List (Option ℕ)) (ds os : List ℕ) → map (λ a. get_or rs a none) ds ≡ map some os → (o : ℕ) → is_among o os ≡ true
    → (a : ℕ) × (is_among a ds ≡ true) × (get_or rs a none ≡ some o)
unfolding is_among
emitted-from rs ds [] e o q = absurd (true≢false (sym q))
emitted-from rs [] (u ∷ os) e o q = absurd (nil≢cons e)
emitted-from rs (d ∷ ds) (u ∷ os) e o q =
    elim (one_of (eqb o u) (is_among o os) q) [
      | inl t ↦ (d, among-head d ds, head-eq_of_cons-eq e ∙ ap some (sym (eqb-true o u t)))
      | inr t ↦ let (a, among, holds) = emitted-from rs ds os (tail-eq_of_cons-eq e) o t in (a, among-tail a d ds among, holds)
    ]

pub plain-rival : (c : Circuit) (limit : ℕ) (p : List Instruction) → PlainRival c limit p → Rival c limit p
plain-rival c limit p r =
    let n = operations-count c r.body (nothing_known limit) in
    let done : (known_of c limit r.body).operations ≡ length c.gates = omega (arith, n, ap length r.operations, length-map c.gates (λ g. g.kind)) in
    subst (Rival c limit) (sym r.emits-last)
    (rival-once c limit r.body r.emitted r.each-instruction done (emitted-from (known_of c limit r.body).registers r.emitted c.outputs r.outputs)
    (λ v low u. omega (arith, r.loads v low u)))
