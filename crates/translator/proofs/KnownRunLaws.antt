-- The registers of 01's machine hold the values of the references that they are known by, over any values. Assumes nothing.
use mathlib.Core.Path.{◌≡◌, sym, ap, ap₂, subst, ◌∙◌}
use mathlib.Core.Logic.{⊎_elim}
use mathlib.Core.Bool.{true}
use mathlib.Core.List.{List, [], ◌∷◌, ◌++◌, map, append-nil}
use mathlib.Core.Option
use mathlib.Core.Option.{Option, none, some, bind-eq-some_iff, none-ne-some, some-injective}
use Prim.Native.Nat.{ℕ, ◌+◌, ◌<◌}
use native.Mathlib.Decide.{dec_lt, ℕ_discrete}
use native.Mathlib.Omega.{arith}
use lib.ListN.{length, get_or, set, length-set, length-map, length-append, length-replicate, get_or-map}
use lib.Seq.{get_or-set_same, get_or-set_other, get_or-append_seam, append_snoc}
use Rattle.lists.specs.First.{first}
use Rattle.circuit.specs.Circuit.{Circuit, first_gate, no_gate}
use Rattle.translator.specs.Machine.{Instruction, is_operation, Machine, empty_machine, read_from, execute, run_from}
use Rattle.translator.specs.Shape.{operation_kinds}
use Rattle.translator.specs.Known.{Known, nothing_known, HoldsReference, known_after, known_from, known_of}
use Rattle.translator.specs.Rival.{EachAllowed}
use Rattle.translator.proofs.TrimmedLaws.{Trimmed}
use Rattle.translator.proofs.RunLaws.{empty-register, Wrote, Did, did-load, did-operation, did-emit, execute-did}
use Rattle.translator.proofs.FaultLaws.{beyond}
use Rattle.translator.proofs.ComputeLaws.{value, value-start, value-gate}
use Rattle.translator.proofs.MomentLaws.{kinds-append}
use Rattle.translator.proofs.KnownLaws.{registers-after, silent-after, known-append, operations-count}
use Rattle.translator.proofs.RivalLaws.{operation-reads}

module _ {A : Type 0} (op : ℕ → A → A → A) (z : A) (start : List A) (c : Circuit) (k : Trimmed c) (long : length start ≡ first_gate c.inputs)
    (either_order : (kind : ℕ) (a b : A) → op kind a b ≡ op kind b a) where
  abbrev val : ℕ → A
  val = value op z start c k long

  record Agrees (s : Known) (m : Machine A) : Type 0 where
    wide : length m.registers ≡ length s.registers
    same : (d : ℕ) → read_from m d ≡ Option.map val (get_or s.registers d none)

  agrees-none : (limit : ℕ) → Agrees (nothing_known limit) (empty_machine limit)
  agrees-none limit =
      record {
        wide = length-replicate {A = Option A} limit none ∙ sym (length-replicate {A = Option ℕ} limit none);
        same = λ d. empty-register limit d ∙ ap (Option.map val) (sym (empty-register limit d));
      }

  agrees-write : (s t : Known) (m m' : Machine A) (d v : ℕ) (x : A) → Agrees s m → Wrote m m' d x → x ≡ val v → t.registers ≡ set s.registers d (some v)
      → Agrees t m'
  agrees-write s t m m' d v x h w e put =
      record {
        wide = ap (λ n. length n.registers) w.result ∙ length-set m.registers d (some x) ∙ h.wide ∙ sym (length-set s.registers d (some v))
            ∙ ap length (sym put);
        same = λ j.
            ap (λ n. read_from n j) w.result
            ∙ elim (ℕ_discrete j d) [
              | yes p ↦
                  ap (λ y. get_or (set m.registers d (some x)) y none) p ∙ get_or-set_same m.registers d (some x) none w.inside ∙ ap some e
                  ∙ ap (Option.map val) (sym (get_or-set_same s.registers d (some v) none (omega (arith, h.wide, w.inside))))
                  ∙ ap (λ y. Option.map val (get_or (set s.registers d (some v)) y none)) (sym p)
              | no p ↦
                  get_or-set_other m.registers d j (some x) none p ∙ h.same j
                  ∙ ap (Option.map val) (sym (get_or-set_other s.registers d j (some v) none p))
            ]
            ∙ ap (λ rs. Option.map val (get_or rs j none)) (sym put);
      }

  module _ (limit : ℕ) (p : List Instruction) (each : EachAllowed c limit p) (kinds : operation_kinds p ≡ map (λ g. g.kind) c.gates) where
    -- an operation is of its gate's kind
    module _ (front : List Instruction) (x : Instruction) (back : List Instruction) (e : p ≡ front ++ (x ∷ back)) (o : is_operation x ≡ true) where
      abbrev n : ℕ
      n = (known_of c limit front).operations

      kinds-split : map (λ g. g.kind) c.gates ≡ operation_kinds front ++ (x.opcode ∷ operation_kinds back)
      unfolding operation_kinds
      kinds-split = sym kinds ∙ ap operation_kinds e ∙ kinds-append front (x ∷ back) ∙ ap (λ b. operation_kinds front ++ first b (x.opcode ∷ operation_kinds back) (operation_kinds back)) o

      kind_at : x.opcode ≡ (get_or c.gates n no_gate).kind
      kind_at =
          let number : n ≡ length (operation_kinds front) = omega (arith, operations-count c front (nothing_known limit)) in
          sym (get_or-append_seam (operation_kinds front) x.opcode (operation_kinds back) 0) ∙ ap₂ (λ l i. get_or l i 0) (sym kinds-split) (sym number)
          ∙ get_or-map (λ g. g.kind) c.gates n no_gate

      number-below : n < length c.gates
      number-below =
          omega (
            arith,
            operations-count c front (nothing_known limit),
            length-append (operation_kinds front) (x.opcode ∷ operation_kinds back),
            ap length kinds-split,
            length-map c.gates (λ g. g.kind),
          )

    -- one instruction, of which the machine has made no fault
    agrees_after : (front : List Instruction) (x : Instruction) (back : List Instruction) → p ≡ front ++ (x ∷ back) → (m m' : Machine A)
        → Agrees (known_of c limit front) m → Did start op x m m' → Agrees (known_after c (known_of c limit front) x) m'
    agrees_after front x back e m m' h (did-load l y q w) =
        let s = known_of c limit front in
        let low : x.arg2 < first_gate c.inputs
        = elim (dec_lt x.arg2 (first_gate c.inputs)) [
          | yes h ↦ h
          | no h ↦ absurd (none-ne-some y (sym (beyond start x.arg2 (omega arith)) ∙ q))
        ] in
        agrees-write s (known_after c s x) m m' x.arg1 x.arg2 y h w (some-injective y (val x.arg2) (sym q ∙ value-start op z start c k long x.arg2 low))
        (registers-after c s x ∙ rw l)
    agrees_after front x back e m m' h (did-operation l o a b q t w) =
        let s = known_of c limit front in
        let g = get_or c.gates s.operations no_gate in
        let known : (d v : ℕ) (y : A) → read_from m d ≡ some y → HoldsReference s d v → y ≡ val v
        = λ d v y f i. some-injective y (val v) (sym f ∙ h.same d ∙ ap (Option.map val) i) in
        let operands : op x.opcode a b ≡ op x.opcode (val g.left) (val g.right)
        = ⊎_elim (λ u. ap₂ (op x.opcode) (known x.arg2 g.left a q u.0) (known x.arg3 g.right b t u.1))
        (λ u. ap₂ (op x.opcode) (known x.arg2 g.right a q u.0) (known x.arg3 g.left b t u.1) ∙ either_order x.opcode (val g.right) (val g.left))
        (operation-reads c limit p each front x back e o) in
        let result : op x.opcode a b ≡ val (first_gate c.inputs + s.operations)
        = operands ∙ ap (λ y. op y (val g.left) (val g.right)) (kind_at front x back e o) ∙ sym (value-gate op z start c k long s.operations (number-below front x back e o)) in
        agrees-write s (known_after c s x) m m' x.arg1 (first_gate c.inputs + s.operations) (op x.opcode a b) h w result (registers-after c s x ∙ rw (l, o))
    agrees_after front x back e m m' h (did-emit l o q a t w) =
        let s = known_of c limit front in
        let silent : known_after c s x ≡ s = silent-after c s x (rw (l, o)) in
        record {
          wide = ap (λ n. length n.registers) (sym w) ∙ h.wide ∙ ap (λ s. length s.registers) (sym silent);
          same = λ d. ap (λ n. read_from n d) (sym w) ∙ h.same d ∙ ap (λ s. Option.map val (get_or s.registers d none)) (sym silent);
        }

    -- and so of several
    agrees-run : (front xs back : List Instruction) → p ≡ front ++ (xs ++ back) → (m m' : Machine A) → Agrees (known_of c limit front) m
        → run_from start op xs m ≡ some m' → Agrees (known_of c limit (front ++ xs)) m'
    unfolding run_from known_from
    agrees-run front [] back e m m' h f = subst (λ l. Agrees (known_of c limit l) m') (sym (append-nil front)) (subst (Agrees (known_of c limit front)) (some-injective m m' f) h)
    agrees-run front (x ∷ xs) back e m m' h f =
        let (n, i, j) = (bind-eq-some_iff (execute start op x m) (run_from start op xs)).0 f in
        let one = agrees_after front x (xs ++ back) e m n h (execute-did start op x m n i) in
        let on = agrees-run (front ++ (x ∷ [])) xs back (e ∙ sym (append_snoc front x (xs ++ back))) n m'
        (subst (λ s. Agrees s n) (sym (known-append c front (x ∷ []) (nothing_known limit))) one) j in
        subst (λ l. Agrees (known_of c limit l) m') (append_snoc front x xs) on

    pub known-held : (before behind : List Instruction) → p ≡ before ++ behind → (m : Machine A) → run_from start op before (empty_machine limit) ≡ some m
        → (d : ℕ) → read_from m d ≡ Option.map val (get_or (known_of c limit before).registers d none)
    unfolding known_from
    known-held before behind e m f = (agrees-run [] before behind e (empty_machine limit) m (agrees-none limit) f).same
