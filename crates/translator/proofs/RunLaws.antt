-- The machine runs what an allocation has written so far, over any values. Assumes nothing.
use mathlib.Core.Path.{◌≡◌, refl, sym, ap, ◌∙◌}
use mathlib.Core.Logic.{inl, inr}
use mathlib.Core.Bool.{Bool, true, false, ◌||◌}
use mathlib.Core.List.{List, [], ◌∷◌, ◌++◌, map, append-nil}
use mathlib.Core.Option.{Option, none, some, bind, bind-eq-some_iff, none-ne-some, some-injective}
use Prim.Native.Nat.{ℕ, zero, suc, ◌≤◌, ◌<◌}
use native.Mathlib.Nat.{not-suc-le-zero, le_of_suc-le-suc, suc_inj, suc-ne-zero}
use native.Mathlib.Decide.{ℕ_discrete}
use native.Mathlib.Omega.{arith}
use lib.Dec.{eqb, ltb}
use lib.ListN.{length, get_or, set, replicate, get_elem?, length-set, length-replicate}
use lib.Seq.{get_or-set_same, get_or-set_other, append_snoc}
use borrow.Author.Tests.{lt-ltb, ltb-true}
use Rattle.lists.specs.First.{first}
use Rattle.circuit.specs.Circuit.{Gate, xor_kind, and_kind}
use Rattle.circuit.specs.Path.{is_among}
use Rattle.circuit.proofs.RefusalLaws.{either}
use Rattle.circuit.proofs.ValidLaws.{among-head, among-tail}
use Rattle.translator.specs.Machine.{Instruction, loading, operating, emitting, is_load, is_operation, is_emit, Machine, empty_machine, read_from, write_to, emit, execute, run_from}
use Rattle.translator.specs.Fault.{Operates}
use Rattle.translator.specs.Allocation.{Allocation, no_registers, register_of, next_register, owners_with, assign, release, release_operands, loaded, operated}
use Rattle.translator.specs.Program.{emits}
use Rattle.translator.proofs.OwnerLaws.{register-at, freed-owner, Free, owners-next, owners-other, next-inside}

pub element-there : {A : Type 0} (l : List A) (z : A) (i : ℕ) → i < length l → get_elem? l i ≡ some (get_or l i z)
element-there [] z i h = absurd (not-suc-le-zero h)
element-there (x ∷ l) z zero h = refl
element-there (x ∷ l) z (suc i) h = element-there l z i (le_of_suc-le-suc h)

pub empty-register : {A : Type 0} (limit d : ℕ) → read_from (empty_machine {A = A} limit) d ≡ none
empty-register zero d = refl
empty-register (suc limit) zero = refl
empty-register (suc limit) (suc d) = empty-register limit d

module _ {A : Type 0} (start : List A) (op : ℕ → A → A → A) where
  pub run-append : (is js : List Instruction) (m : Machine A) → run_from start op (is ++ js) m ≡ bind (run_from start op is m) (run_from start op js)
  unfolding run_from bind
  run-append [] js m = refl
  run-append (i ∷ is) js m = go (execute start op i m) (run-append is js)
    where
      go : (r : Option (Machine A)) → ((m : Machine A) → run_from start op (is ++ js) m ≡ bind (run_from start op is m) (run_from start op js))
          → bind r (run_from start op (is ++ js)) ≡ bind (bind r (run_from start op is)) (run_from start op js)
      go none ih = refl
      go (some m') ih = ih m'

  -- ---- what each instruction does where it is no fault

  module _ (m : Machine A) (d : ℕ) (h : d < length m.registers) where
    pub load-executes : (v : ℕ) (x : A) → get_elem? start v ≡ some x
        → execute start op (loading d v) m ≡ some (record { registers = set m.registers d (some x); emitted = m.emitted })
    unfolding execute bind
    load-executes v x e = rw (e, lt-ltb d (length m.registers) h)

    pub operation-executes : (kind a b : ℕ) (x y : A) → Operates kind → read_from m a ≡ some x → read_from m b ≡ some y
        → execute start op (operating kind d a b) m ≡ some (record { registers = set m.registers d (some (op kind x y)); emitted = m.emitted })
    unfolding execute bind
    operation-executes kind a b x y (inl q) e f = rw (q, e, f, lt-ltb d (length m.registers) h)
    operation-executes kind a b x y (inr q) e f = rw (q, e, f, lt-ltb d (length m.registers) h)

  pub emit-executes : (m : Machine A) (a : ℕ) (x : A) → read_from m a ≡ some x
      → execute start op (emitting a) m ≡ some (record { registers = m.registers; emitted = m.emitted ++ (x ∷ []) })
  unfolding execute bind
  emit-executes m a x e = rw e

-- ---- what an instruction did that was no fault

-- x was written into register d
pub record Wrote {A : Type 0} (m m' : Machine A) (d : ℕ) (x : A) : Type 0 where
  pub inside : d < length m.registers
  pub result : m' ≡ record { registers = set m.registers d (some x); emitted = m.emitted }

pub data Did {A : Type 0} (start : List A) (op : ℕ → A → A → A) (i : Instruction) (m m' : Machine A) : Type 0 where
  did-load : is_load i ≡ true → (x : A) → get_elem? start i.arg2 ≡ some x → Wrote m m' i.arg1 x → Did start op i m m'
  did-operation : is_load i ≡ false → is_operation i ≡ true → (a b : A) → read_from m i.arg2 ≡ some a → read_from m i.arg3 ≡ some b
      → Wrote m m' i.arg1 (op i.opcode a b) → Did start op i m m'
  did-emit : is_load i ≡ false → is_operation i ≡ false → is_emit i ≡ true → (a : A) → read_from m i.arg1 ≡ some a → emit m a ≡ m' → Did start op i m m'

module _ {A : Type 0} (start : List A) (op : ℕ → A → A → A) (i : Instruction) (m m' : Machine A) where
  write-wrote : (d : ℕ) (x : A) → write_to m d x ≡ some m' → Wrote m m' d x
  write-wrote d x e = go (ltb d (length m.registers)) refl e
    where
      go : (b : Bool) → ltb d (length m.registers) ≡ b
          → first b (some (record { registers = set m.registers d (some x); emitted = m.emitted })) none ≡ some m' → Wrote m m' d x
      go true q f = record { inside = ltb-true d (length m.registers) q; result = sym (some-injective _ m' f) }
      go false q f = absurd (none-ne-some m' f)

  pub execute-did : execute start op i m ≡ some m' → Did start op i m m'
  unfolding execute
  execute-did = go (is_load i) (is_operation i) (is_emit i) refl refl refl
    where
      go : (l o e : Bool) → is_load i ≡ l → is_operation i ≡ o → is_emit i ≡ e
          → first l (bind (get_elem? start i.arg2) (write_to m i.arg1))
          (first o (bind (read_from m i.arg2) (λ a. bind (read_from m i.arg3) (λ b. write_to m i.arg1 (op i.opcode a b))))
          (first e (bind (read_from m i.arg1) (λ a. some (emit m a)))
          none)) ≡ some m'
          → Did start op i m m'
      go true o e p q r f =
          let (x, s, t) = (bind-eq-some_iff (get_elem? start i.arg2) (write_to m i.arg1)).0 f in
          did-load p x s (write-wrote i.arg1 x t)
      go false true e p q r f =
          let (a, s, t) = (bind-eq-some_iff (read_from m i.arg2) (λ a. bind (read_from m i.arg3) (λ b. write_to m i.arg1 (op i.opcode a b)))).0 f in
          let (b, u, w) = (bind-eq-some_iff (read_from m i.arg3) (λ b. write_to m i.arg1 (op i.opcode a b))).0 t in
          did-operation p q a b s u (write-wrote i.arg1 (op i.opcode a b) w)
      go false false true p q r f =
          let (a, s, t) = (bind-eq-some_iff (read_from m i.arg1) (λ a. some (emit m a))).0 f in
          did-emit p q r a s (some-injective (emit m a) m' t)
      go false false false p q r f = absurd (none-ne-some m' f)

-- ---- an allocation's code, run

-- `registers` is what the machine holds behind it, where `value` says each reference's value
pub record Runs {A : Type 0} (start : List A) (op : ℕ → A → A → A) (limit : ℕ) (value : ℕ → A) (s : Allocation) (registers : List (Option A)) : Type 0 where
  pub runs : run_from start op s.code (empty_machine limit) ≡ some (record { registers = registers; emitted = [] })
  pub wide : length registers ≡ limit
  pub holds : (d v : ℕ) → get_or s.owners d 0 ≡ suc v → get_or registers d none ≡ some (value v)

module _ {A : Type 0} (start : List A) (op : ℕ → A → A → A) (limit : ℕ) (value : ℕ → A) where
  abbrev Running : Allocation → List (Option A) → Type 0
  Running = Runs start op limit value

  pub runs_none : Running no_registers (replicate limit none)
  unfolding run_from
  runs_none = record { runs = refl; wide = length-replicate limit none; holds = λ d v e. absurd (suc-ne-zero v (sym e)) }

  module _ (s : Allocation) (r : List (Option A)) (run : Running s r) where
    -- a value that is in a register can be read there
    pub runs-read : (v : ℕ) → is_among (suc v) s.owners ≡ true → get_or r (register_of s.owners v) none ≡ some (value v)
    runs-read v e = run.holds (register_of s.owners v) v (register-at s.owners v e).0

    pub runs-release : (keep : Bool) (v : ℕ) → Running (release keep v s) r
    unfolding release
    runs-release true v = run
    runs-release false v = record { runs = run.runs; wide = run.wide; holds = λ d u e. run.holds d u (freed-owner s.owners _ d u e) }

    module _ (v : ℕ) (make : ℕ → Instruction) (f : Free s.owners s.freed) (fits : length (assign v make s).owners ≤ limit) where
      abbrev d : ℕ
      d = next_register s.owners s.freed

      pub next_fits : d < length r
      unfolding assign
      next_fits = omega (arith, next-inside v s.owners s.freed f, run.wide)

      pub runs_assign : execute start op (make d) (record { registers = r; emitted = [] }) ≡ some (record { registers = set r d (some (value v)); emitted = [] })
          → Running (assign v make s) (set r d (some (value v)))
      unfolding assign run_from bind
      runs_assign e =
          record {
            runs = run-append start op s.code (make d ∷ []) (empty_machine limit) ∙ rw (run.runs, e);
            wide = rw length-set run.wide;
            holds = λ j u q. elim (ℕ_discrete j d) [
              | yes p ↦
                  let i : v ≡ u = suc_inj (sym (owners-next v s.owners s.freed f) ∙ ap (λ x. get_or (owners_with v s.owners s.freed) x 0) (sym p) ∙ q) in
                  rw (p, get_or-set_same r d (some (value v)) none next_fits, i)
              | no p ↦
                  get_or-set_other r d j (some (value v)) none p ∙ run.holds j u (sym (owners-other v s.owners s.freed j p) ∙ q)
            ];
          }

  module _ (s : Allocation) (r : List (Option A)) (run : Running s r) where
    pub runs-load : (v : ℕ) → Free s.owners s.freed → length (loaded v s).owners ≤ limit → get_elem? start v ≡ some (value v)
        → Running (loaded v s) (set r (next_register s.owners s.freed) (some (value v)))
    runs-load v f fits e = runs_assign s r run v _ f fits (load-executes start op _ _ (next_fits s r run v _ f fits) v (value v) e)

    runs-releases : (w : ℕ → Bool) (g : Gate) → Running (release_operands w g s) r
    unfolding release_operands
    runs-releases w g = runs-release _ r (runs-release s r run (eqb g.left g.right || w g.left) g.left) (w g.right) g.right

    pub runs-operate : (w : ℕ → Bool) (v : ℕ) (g : Gate) → (let u = release_operands w g s in Free u.owners u.freed) → length (operated w v g s).owners ≤ limit
        → eqb g.kind xor_kind || eqb g.kind and_kind ≡ true
        → is_among (suc g.left) s.owners ≡ true → is_among (suc g.right) s.owners ≡ true
        → value v ≡ op g.kind (value g.left) (value g.right)
        → let u = release_operands w g s in Running (operated w v g s) (set r (next_register u.owners u.freed) (some (value v)))
    runs-operate w v g f fits k l q e =
        let u = release_operands w g s in
        let after = runs-releases w g in
        runs_assign u r after v _ f fits
        (operation-executes start op (record { registers = r; emitted = [] }) _ (next_fits u r after v _ f fits) g.kind (register_of s.owners g.left)
        (register_of s.owners g.right) (value g.left) (value g.right) (either g.kind k) (runs-read s r run g.left l) (runs-read s r run g.right q)
        ∙ ap (λ x. some (record { registers = set r (next_register u.owners u.freed) (some x); emitted = [] })) (sym e))

  -- ---- the emits

  pub runs-emits : (ws : List ℕ) (r : List (Option A)) (es : List A) (os : List ℕ)
      → ((o : ℕ) → is_among o os ≡ true → get_or r (register_of ws o) none ≡ some (value o))
      → run_from start op (emits ws os) (record { registers = r; emitted = es }) ≡ some (record { registers = r; emitted = es ++ map value os })
  unfolding run_from bind
  runs-emits ws r es [] h = ap (λ l. some (record { registers = r; emitted = l })) (sym (append-nil es))
  runs-emits ws r es (o ∷ os) h =
      rw (emit-executes start op (record { registers = r; emitted = es }) (register_of ws o) (value o) (h o (among-head o os)))
      (runs-emits ws r (es ++ (value o ∷ [])) os (λ x e. h x (among-tail x o os e))
      ∙ ap (λ l. some (record { registers = r; emitted = l })) (append_snoc es (value o) (map value os)))
