-- Which references registers hold while any instructions are run: what each puts where, and that what is in a register and is not put there on the
-- way was there all the time. Assumes nothing.
use mathlib.Core.Path.{◌≡◌, refl, sym, ap, ap₂, ◌∙◌}
use mathlib.Core.Logic.{◌≢◌}
use mathlib.Core.Bool.{Bool, true, false, not, ◌&&◌, ◌||◌, or-true, and-false}
use mathlib.Core.List.{List, [], ◌∷◌, ◌++◌, cons≢nil}
use mathlib.Core.Option.{Option, none, some, none-ne-some, some-injective}
use Prim.Native.Nat.{ℕ, zero, suc, ◌+◌, ◌≤◌, ◌<◌}
use native.Mathlib.Decide.{ℕ_discrete}
use native.Mathlib.Omega.{arith}
use lib.Dec.{eqb}
use lib.ListN.{length, get_or, set, length-set}
use lib.Seq.{get_or-set_other}
use borrow.Author.Tests.{eq-eqb, ne_eqb}
use Rattle.lists.specs.First.{first}
use Rattle.lists.proofs.Tests.{left-fails, right-fails}
use Rattle.circuit.specs.Circuit.{Circuit, first_gate}
use Rattle.circuit.specs.Path.{is_among}
use Rattle.circuit.proofs.ValidLaws.{among-head, among-tail}
use Rattle.translator.specs.Machine.{Instruction, is_load, is_operation}
use Rattle.translator.specs.Pressure.{one_if}
use Rattle.translator.specs.Shape.{operation_kinds, loaded_by, occurrences}
use Rattle.translator.specs.Written.{is_write, registers_written}
use Rattle.translator.specs.Known.{Known, nothing_known, HoldsReference, known_after, known_from}
use Rattle.translator.specs.StillRead.{reads, overwrites, is_still_read}
use Rattle.translator.proofs.RunLaws.{empty-register}
use Rattle.translator.proofs.DisciplineLaws.{no-operation}

-- ---- registers

-- what is in a register into which u was put, if it is full
put_holds : (rs : List (Option ℕ)) (d u v : ℕ) → get_or (set rs d (some u)) d none ≡ some v → u ≡ v
put_holds [] d u v e = absurd (none-ne-some v e)
put_holds (r ∷ rs) zero u v e = some-injective u v e
put_holds (r ∷ rs) (suc d) u v e = put_holds rs d u v e

none-occurs : (v : ℕ) (xs : List ℕ) → is_among v xs ≡ false → occurrences v xs ≡ 0
unfolding occurrences is_among
none-occurs v [] e = refl
none-occurs v (x ∷ xs) e =
    rw (left-fails (eqb v x) (is_among v xs) e) (omega (arith, none-occurs v xs (right-fails (eqb v x) (is_among v xs) e)))

-- an instruction that does not overwrite the register passes it on
passes : (a o r : Bool) → o ≡ false → r ≡ true → a || (not o && r) ≡ true
passes a o r e f = rw (e, f, or-true a)

module _ (c : Circuit) where
  -- ---- one instruction

  -- the reference that a load or an operation puts into its register
  abbrev pub made_by : Known → Instruction → ℕ
  made_by s x = first (is_load x) x.arg2 (first_gate c.inputs + s.operations)

  module _ (s : Known) (x : Instruction) where
    pub registers-after : (known_after c s x).registers ≡ first (is_write x) (set s.registers x.arg1 (some (made_by s x))) s.registers
    unfolding known_after
    registers-after = go (is_load x) (is_operation x)
      where
        go : (l o : Bool)
            → (first l (record { registers = set s.registers x.arg1 (some x.arg2); operations = s.operations })
            (first o (record { registers = set s.registers x.arg1 (some (first_gate c.inputs + s.operations)); operations = suc s.operations })
            s)).registers
            ≡ first (l || o) (set s.registers x.arg1 (some (first l x.arg2 (first_gate c.inputs + s.operations)))) s.registers
        go true o = refl
        go false true = refl
        go false false = refl

    pub operations-after : (known_after c s x).operations ≡ first (is_operation x) (suc s.operations) s.operations
    unfolding known_after
    operations-after = go (is_load x) (is_operation x) (no-operation x)
      where
        go : (l o : Bool) → (l ≡ true → o ≡ false)
            → (first l (record { registers = set s.registers x.arg1 (some x.arg2); operations = s.operations })
            (first o (record { registers = set s.registers x.arg1 (some (first_gate c.inputs + s.operations)); operations = suc s.operations })
            s)).operations
            ≡ first o (suc s.operations) s.operations
        go true o h = rw (h refl)
        go false true h = refl
        go false false h = refl

    operations-grow : s.operations ≤ (known_after c s x).operations
    operations-grow = rw operations-after (go (is_operation x))
      where
        go : (b : Bool) → s.operations ≤ first b (suc s.operations) s.operations
        go true = omega arith
        go false = omega arith

    -- one that writes nothing changes nothing
    pub silent-after : is_write x ≡ false → known_after c s x ≡ s
    unfolding known_after
    silent-after w = rw (left-fails (is_load x) (is_operation x) w, right-fails (is_load x) (is_operation x) w)

  -- ---- several

  pub known-append : (xs ys : List Instruction) (s : Known) → known_from c s (xs ++ ys) ≡ known_from c (known_from c s xs) ys
  unfolding known_from
  known-append [] ys s = refl
  known-append (x ∷ xs) ys s = known-append xs ys (known_after c s x)

  pub known-length : (xs : List Instruction) (s : Known) → length (known_from c s xs).registers ≡ length s.registers
  unfolding known_from
  known-length [] s = refl
  known-length (x ∷ xs) s = known-length xs (known_after c s x) ∙ ap length (registers-after s x) ∙ go (is_write x)
    where
      go : (b : Bool) → length (first b (set s.registers x.arg1 (some (made_by s x))) s.registers) ≡ length s.registers
      go true = length-set s.registers x.arg1 (some (made_by s x))
      go false = refl

  -- as many operations are done as there are
  pub operations-count : (xs : List Instruction) (s : Known) → (known_from c s xs).operations ≡ s.operations + length (operation_kinds xs)
  unfolding known_from operation_kinds
  operations-count [] s = omega arith
  operations-count (x ∷ xs) s = operations-count xs (known_after c s x) ∙ ap (λ n. n + length (operation_kinds xs)) (operations-after s x) ∙ go (is_operation x)
    where
      go : (b : Bool) → first b (suc s.operations) s.operations + length (operation_kinds xs)
          ≡ s.operations + length (first b (x.opcode ∷ operation_kinds xs) (operation_kinds xs))
      go true = omega arith
      go false = refl

  pub operations-rise : (xs : List Instruction) (s : Known) → s.operations ≤ (known_from c s xs).operations
  unfolding known_from
  operations-rise [] s = omega arith
  operations-rise (x ∷ xs) s = omega (arith, operations-grow s x, operations-rise xs (known_after c s x))

  -- how often v is put into a register
  unfoldable pub makings : (v : ℕ) → Known → List Instruction → ℕ
  makings v s [] = 0
  makings v s (x ∷ xs) = one_if (is_write x && eqb v (made_by s x)) + makings v (known_after c s x) xs

  pub makings-append : (v : ℕ) (xs ys : List Instruction) (s : Known) → makings v s (xs ++ ys) ≡ makings v s xs + makings v (known_from c s xs) ys
  unfolding makings known_from
  makings-append v [] ys s = omega arith
  makings-append v (x ∷ xs) ys s = omega (arith, makings-append v xs ys (known_after c s x))

  -- instructions that write nothing
  pub silent-from : (xs : List Instruction) (s : Known) → registers_written xs ≡ [] → known_from c s xs ≡ s
  unfolding known_from registers_written
  silent-from [] s e = refl
  silent-from (x ∷ xs) s e = go (is_write x) refl e (silent-from xs (known_after c s x))
    where
      go : (b : Bool) → is_write x ≡ b → first b (x.arg1 ∷ registers_written xs) (registers_written xs) ≡ []
          → (registers_written xs ≡ [] → known_from c (known_after c s x) xs ≡ known_after c s x) → known_from c (known_after c s x) xs ≡ s
      go true w e ih = absurd (cons≢nil e)
      go false w e ih = ih e ∙ silent-after s x w

  pub silent-makes : (v : ℕ) (xs : List Instruction) (s : Known) → registers_written xs ≡ [] → makings v s xs ≡ 0
  unfolding makings registers_written
  silent-makes v [] s e = refl
  silent-makes v (x ∷ xs) s e = go (is_write x) e (silent-makes v xs (known_after c s x))
    where
      go : (b : Bool) → first b (x.arg1 ∷ registers_written xs) (registers_written xs) ≡ [] → (registers_written xs ≡ [] → makings v (known_after c s x) xs ≡ 0)
          → one_if (b && eqb v (made_by s x)) + makings v (known_after c s x) xs ≡ 0
      go true e ih = absurd (cons≢nil e)
      go false e ih = omega (arith, ih e)

  -- What is in a register behind some instructions, and was not put into any by them, was there before, and they don't overwrite it.
  pub still-there : (xs : List Instruction) (s : Known) (d v : ℕ) → makings v s xs ≡ 0 → HoldsReference (known_from c s xs) d v
      → HoldsReference s d v × ((ys : List Instruction) → is_still_read d ys ≡ true → is_still_read d (xs ++ ys) ≡ true)
  unfolding known_from makings is_still_read
  still-there [] s d v m e = (e, λ ys r. r)
  still-there (x ∷ xs) s d v m e = go (is_write x) refl (ℕ_discrete d x.arg1) (still-there xs (known_after c s x) d v (omega arith) e)
    where
      go : (b : Bool) → is_write x ≡ b → Dec (d ≡ x.arg1)
          → HoldsReference (known_after c s x) d v × ((ys : List Instruction) → is_still_read d ys ≡ true → is_still_read d (xs ++ ys) ≡ true)
          → HoldsReference s d v × ((ys : List Instruction) → is_still_read d ys ≡ true → reads x d || (not (overwrites x d) && is_still_read d (xs ++ ys)) ≡ true)
      go true w (yes q) ih =
          let put : (known_after c s x).registers ≡ set s.registers x.arg1 (some (made_by s x)) = registers-after s x ∙ rw w in
          let made : made_by s x ≡ v = put_holds s.registers x.arg1 (made_by s x) v (ap₂ (λ rs y. get_or rs y none) (sym put) (sym q) ∙ ih.0) in
          let one : one_if (is_write x && eqb v (made_by s x)) ≡ 1 = rw (w, eq-eqb v (made_by s x) (sym made)) in
          let z : ⊥ = omega arith in
          absurd z
      go true w (no q) ih =
          let put : (known_after c s x).registers ≡ set s.registers x.arg1 (some (made_by s x)) = registers-after s x ∙ rw w in (
            sym (get_or-set_other s.registers x.arg1 d (some (made_by s x)) none q) ∙ ap (λ rs. get_or rs d none) (sym put) ∙ ih.0,
            λ ys r. passes (reads x d) (overwrites x d) (is_still_read d (xs ++ ys)) (ap (λ b. is_write x && b) (ne_eqb d x.arg1 q) ∙ and-false (is_write x)) (ih.1 ys r),
          )
      go false w q ih = (
        ap (λ t. get_or t.registers d none) (sym (silent-after s x w)) ∙ ih.0,
        λ ys r. passes (reads x d) (overwrites x d) (is_still_read d (xs ++ ys)) (ap (λ b. b && eqb d x.arg1) w) (ih.1 ys r),
      )

  -- so what is held from an empty machine on was put there
  pub held-made : (limit : ℕ) (xs : List Instruction) (d v : ℕ) → HoldsReference (known_from c (nothing_known limit) xs) d v → 1 ≤ makings v (nothing_known limit) xs
  held-made limit xs d v o =
      elim (ℕ_discrete (makings v (nothing_known limit) xs) 0) [
        | yes z ↦ absurd (none-ne-some v (sym (empty-register limit d) ∙ (still-there xs (nothing_known limit) d v z o).0))
        | no z ↦ omega arith
      ]

  -- ---- what is put into a register, by what it is

  -- a constant or input: by its loads
  pub input-made : (v : ℕ) (xs : List Instruction) (s : Known) → v < first_gate c.inputs → makings v s xs ≡ occurrences v (loaded_by xs)
  unfolding makings loaded_by occurrences
  input-made v [] s lo = refl
  input-made v (x ∷ xs) s lo = go (is_load x) (is_operation x) (input-made v xs (known_after c s x) lo)
    where
      go : (l o : Bool) → makings v (known_after c s x) xs ≡ occurrences v (loaded_by xs)
          → one_if ((l || o) && eqb v (first l x.arg2 (first_gate c.inputs + s.operations))) + makings v (known_after c s x) xs
          ≡ occurrences v (first l (x.arg2 ∷ loaded_by xs) (loaded_by xs))
      go true o ih = rw ih
      go false true ih =
          let ne : v ≢ first_gate c.inputs + s.operations = λ q. omega arith in
          rw (ne_eqb v (first_gate c.inputs + s.operations) ne) (omega (arith, ih))
      go false false ih = omega (arith, ih)

  pub input-not-made : (v : ℕ) (xs : List Instruction) (s : Known) → v < first_gate c.inputs → is_among v (loaded_by xs) ≡ false → makings v s xs ≡ 0
  input-not-made v xs s lo e = input-made v xs s lo ∙ none-occurs v (loaded_by xs) e

  -- a gate that is done is not done again, if only constants and inputs are loaded
  pub gate-made : (v : ℕ) (xs : List Instruction) (s : Known) → ((u : ℕ) → is_among u (loaded_by xs) ≡ true → u < first_gate c.inputs)
      → first_gate c.inputs ≤ v → v < first_gate c.inputs + s.operations → makings v s xs ≡ 0
  unfolding makings loaded_by
  gate-made v [] s low lo hi = refl
  gate-made v (x ∷ xs) s low lo hi =
      go (is_load x) (is_operation x) low (λ rest. gate-made v xs (known_after c s x) rest lo (omega (arith, operations-grow s x)))
    where
      go : (l o : Bool) → ((u : ℕ) → is_among u (first l (x.arg2 ∷ loaded_by xs) (loaded_by xs)) ≡ true → u < first_gate c.inputs)
          → (((u : ℕ) → is_among u (loaded_by xs) ≡ true → u < first_gate c.inputs) → makings v (known_after c s x) xs ≡ 0)
          → one_if ((l || o) && eqb v (first l x.arg2 (first_gate c.inputs + s.operations))) + makings v (known_after c s x) xs ≡ 0
      go true o low ih =
          let ne : v ≢ x.arg2 = λ q. omega (arith, low x.arg2 (among-head x.arg2 (loaded_by xs))) in
          rw (ne_eqb v x.arg2 ne) (omega (arith, ih (λ u e. low u (among-tail u x.arg2 (loaded_by xs) e))))
      go false true low ih =
          let ne : v ≢ first_gate c.inputs + s.operations = λ q. omega arith in
          rw (ne_eqb v (first_gate c.inputs + s.operations) ne) (omega (arith, ih low))
      go false false low ih = omega (arith, ih low)

-- ---- the operation of gate j

pub record OperationAt (c : Circuit) (xs : List Instruction) (s : Known) (j : ℕ) : Type 0 where
  pub front : List Instruction
  pub op : Instruction
  pub back : List Instruction
  pub parts : xs ≡ front ++ (op ∷ back)
  pub at : (known_from c s front).operations ≡ j
  pub is-operation : is_operation op ≡ true

pub operation-at : (c : Circuit) (xs : List Instruction) (s : Known) (j : ℕ) → s.operations ≤ j → j < (known_from c s xs).operations → OperationAt c xs s j
unfolding known_from
operation-at c [] s j lo hi = let z : ⊥ = omega arith in absurd z
operation-at c (x ∷ xs) s j lo hi = go (is_operation x) refl (ℕ_discrete s.operations j) (λ l. operation-at c xs (known_after c s x) j l hi)
  where
    later : OperationAt c xs (known_after c s x) j → OperationAt c (x ∷ xs) s j
    later o =
        record {
          front = x ∷ o.front;
          op = o.op;
          back = o.back;
          parts = ap (λ r. x ∷ r) o.parts;
          at = o.at;
          is-operation = o.is-operation;
        }

    go : (b : Bool) → is_operation x ≡ b → Dec (s.operations ≡ j) → ((known_after c s x).operations ≤ j → OperationAt c xs (known_after c s x) j)
        → OperationAt c (x ∷ xs) s j
    go true o (yes e) ih = record { front = []; op = x; back = xs; parts = refl; at = e; is-operation = o }
    go true o (no e) ih =
        let after : (known_after c s x).operations ≡ suc s.operations = operations-after c s x ∙ rw o in
        later (ih (omega arith))
    go false o e ih =
        let after : (known_after c s x).operations ≡ s.operations = operations-after c s x ∙ rw o in
        later (ih (omega arith))
