-- Which loads stand before each operation and before the emits: those that 01 asks for, in its order, and there is only one such order.
-- Assumes nothing.
use mathlib.Core.Path.{◌≡◌, refl, sym, ap, ◌∙◌, subst}
use mathlib.Core.Logic.{◌≢◌}
use mathlib.Core.Bool.{Bool, true, false, true≢false, not, ◌&&◌, ◌||◌, or-false}
use mathlib.Core.List.{List, [], ◌∷◌, ◌++◌, map, append-nil, cons≢nil}
use Prim.Native.Nat.{ℕ, zero, suc, ◌+◌, ◌<◌}
use native.Mathlib.Nat.{add-zero, not-suc-le-zero}
use native.Mathlib.Decide.{ℕ_discrete}
use native.Mathlib.Omega.{arith}
use lib.Dec.{eqb}
use lib.ListN.{length, take, drop, get_or, drop_of_length-le}
use lib.Seq.{drop-cons}
use borrow.Author.Tests.{eq-eqb, ne_eqb, eqb-true, not-true}
use Rattle.lists.specs.First.{first}
use Rattle.lists.proofs.Tests.{same_test, left-of, right_of}
use Rattle.circuit.specs.Circuit.{Gate, Circuit, first_gate, no_gate}
use Rattle.circuit.specs.Each.{EachGate}
use Rattle.circuit.specs.Path.{is_among}
use Rattle.circuit.specs.Refusal.{has_gate_kind}
use Rattle.circuit.proofs.ValidLaws.{among-head, among-tail}
use Rattle.translator.specs.Machine.{Instruction, emit_opcode, load_opcode, loading, operating, emitting, is_load, is_operation, is_emit}
use Rattle.translator.specs.Actions.{Action, load, operate, load_if, is_unloaded, operand_loads, output_loads, actions_from, actions, loads_of, operations_of}
use Rattle.translator.specs.Place.{place_in}
use Rattle.translator.specs.LoadOrder.{loaded_after, Ascending, LoadedFor}
use Rattle.translator.specs.Pressure.{one_if}
use Rattle.translator.specs.Shape.{without_registers, instruction_of, occurrences}
use Rattle.translator.proofs.TrimmedLaws.{Trimmed}
use Rattle.translator.proofs.LoadLaws.{output-operations, operand-operations, operand-occurrences, output-occurrences}

-- ---- one order

among-other : (v y : ℕ) (ms : List ℕ) → v ≢ y → is_among v (y ∷ ms) ≡ true → is_among v ms ≡ true
unfolding is_among
among-other v y ms ne a = rw (ne_eqb v y ne) at a

module _ (place : ℕ → ℕ) where
  -- of two lists with the same members, whose first ones are the same, the rest of the one is in the rest of the other
  rest-among : (x y : ℕ) (ls ms : List ℕ) → x ≡ y → ((v : ℕ) → is_among v (x ∷ ls) ≡ is_among v (y ∷ ms)) → Ascending place (x ∷ ls)
      → (v : ℕ) → is_among v ls ≡ true → is_among v ms ≡ true
  rest-among x y ls ms h e p v a =
      among-other v y ms (λ q. omega (arith, p.0 v a, ap place (q ∙ sym h))) (sym (e v) ∙ among-tail v x ls a)

  ascending-once : (ls ms : List ℕ) → ((v : ℕ) → is_among v ls ≡ is_among v ms) → Ascending place ls → Ascending place ms → ls ≡ ms
  unfolding is_among
  ascending-once [] [] e p q = refl
  ascending-once [] (y ∷ ms) e p q = absurd (true≢false (sym (among-head y ms) ∙ sym (e y)))
  ascending-once (x ∷ ls) [] e p q = absurd (true≢false (sym (among-head x ls) ∙ e x))
  ascending-once (x ∷ ls) (y ∷ ms) e p q =
      let h : x ≡ y = heads (ℕ_discrete x y) in
      rw h (ap (λ l. y ∷ l) (ascending-once ls ms (λ v.
      same_test (is_among v ls) (is_among v ms) (rest-among x y ls ms h e p v) (rest-among y x ms ls (sym h) (λ v. sym (e v)) q v)) p.1 q.1))
    where
      heads : Dec (x ≡ y) → x ≡ y
      heads (yes h) = h
      heads (no ne) =
          let lower = p.0 y (among-other y x ls (λ h. ne (sym h)) (e y ∙ among-head y ms)) in
          let higher = q.0 x (among-other x y ms ne (sym (e x) ∙ among-head x ls)) in
          absurd (omega arith)

pub loaded-once : (c : Circuit) (i : ℕ) (uses ls ms : List ℕ) → LoadedFor c i uses ls → LoadedFor c i uses ms → ls ≡ ms
loaded-once c i uses ls ms a b = ascending-once _ ls ms (λ v. a.exactly v ∙ sym (b.exactly v)) a.in_order b.in_order

-- ---- registers do not matter

shape_same : (x : Instruction) → (is_operation (without_registers x) ≡ is_operation x) × (is_operation x ≡ false → (without_registers x).arg2 ≡ x.arg2)
unfolding without_registers
shape_same x = go (is_load x) (is_operation x) (is_emit x) refl refl refl
  where
    shape : (l o e : Bool) → Instruction
    shape l o e = first l (loading 0 x.arg2) (first o (operating x.opcode 0 0 0) (first e (emitting 0) x))

    go : (l o e : Bool) → is_load x ≡ l → is_operation x ≡ o → is_emit x ≡ e
        → (is_operation (shape l o e) ≡ is_operation x) × (is_operation x ≡ false → (shape l o e).arg2 ≡ x.arg2)
    go true o e p q r = (rw (eqb-true x.opcode load_opcode (left-of (eqb x.opcode load_opcode) (eqb x.arg3 0) p)), λ n. refl)
    go false true e p q r = (refl, λ n. absurd (true≢false (sym q ∙ n)))
    go false false true p q r =
        let zeros = right_of (eqb x.opcode emit_opcode) (eqb x.arg2 0 && eqb x.arg3 0) r in
        (sym q, λ n. sym (eqb-true x.arg2 0 (left-of (eqb x.arg2 0) (eqb x.arg3 0) zeros)))
    go false false false p q r = (refl, λ n. refl)

loaded-shape : (i : ℕ) (is : List Instruction) → loaded_after i (map without_registers is) ≡ loaded_after i is
unfolding loaded_after
loaded-shape i [] = refl
loaded-shape zero (x ∷ xs) = rw ((shape_same x).0, loaded-shape zero xs) (go (is_operation x) (shape_same x).1)
  where
    go : (b : Bool) → (b ≡ false → (without_registers x).arg2 ≡ x.arg2)
        → first b [] ((without_registers x).arg2 ∷ loaded_after zero xs) ≡ first b [] (x.arg2 ∷ loaded_after zero xs)
    go true n = refl
    go false n = rw (n refl)
loaded-shape (suc i) (x ∷ xs) = rw ((shape_same x).0, loaded-shape i xs, loaded-shape (suc i) xs)

-- ---- loads, and then an operation or the end

module _ (rest : List Action) where
  loads-skipped : (i : ℕ) (ss : List Action) → operations_of ss ≡ [] → loaded_after (suc i) (map instruction_of (ss ++ rest)) ≡ loaded_after (suc i) (map instruction_of rest)
  unfolding loaded_after operations_of
  loads-skipped i [] e = refl
  loads-skipped i (load v ∷ ss) e = loads-skipped i ss e
  loads-skipped i (operate v g ∷ ss) e = absurd (cons≢nil e)

  loads-told : (ss : List Action) → operations_of ss ≡ [] → loaded_after zero (map instruction_of rest) ≡ [] → loaded_after zero (map instruction_of (ss ++ rest)) ≡ loads_of ss
  unfolding loaded_after operations_of loads_of
  loads-told [] e h = h
  loads-told (load v ∷ ss) e h = ap (λ l. v ∷ l) (loads-told ss e h)
  loads-told (operate v g ∷ ss) e h = absurd (cons≢nil e)

module _ (c : Circuit) where
  operands-only : (i : ℕ) (g : Gate) → operations_of (operand_loads c i g) ≡ []
  unfolding operations_of
  operands-only i g = ap operations_of (sym (append-nil (operand_loads c i g))) ∙ operand-operations c i g []

  gate-skipped : (i j : ℕ) (g : Gate) (gs : List Gate) → has_gate_kind j g ≡ true
      → loaded_after (suc i) (map instruction_of (actions_from c j (g ∷ gs))) ≡ loaded_after i (map instruction_of (actions_from c (suc j) gs))
  unfolding loaded_after actions_from
  gate-skipped i j g gs k =
      loads-skipped (operate (first_gate c.inputs + j) g ∷ actions_from c (suc j) gs) i (operand_loads c j g) (operands-only j g) ∙ rw k

  operands-told : (n i j : ℕ) (gs : List Gate) → EachGate (λ m g. has_gate_kind m g ≡ true) n gs → i < length gs
      → loaded_after i (map instruction_of (actions_from c j gs)) ≡ loads_of (operand_loads c (j + i) (get_or gs i no_gate))
  unfolding loaded_after actions_from
  operands-told n i j [] k h = absurd (not-suc-le-zero h)
  operands-told n zero j (g ∷ gs) k h =
      rw (add-zero j) (loads-told (operate (first_gate c.inputs + j) g ∷ actions_from c (suc j) gs) (operand_loads c j g) (operands-only j g) (rw k.0))
  operands-told n (suc i) j (g ∷ gs) k h =
      let e : j + suc i ≡ suc j + i = omega arith in
      rw e (gate-skipped i j g gs k.0 ∙ operands-told (suc n) i (suc j) gs k.1 (omega arith))

  outputs-told : (n j : ℕ) (gs : List Gate) → EachGate (λ m g. has_gate_kind m g ≡ true) n gs
      → loaded_after (length gs) (map instruction_of (actions_from c j gs)) ≡ loads_of (output_loads c 0 c.outputs)
  unfolding loaded_after actions_from
  outputs-told n j [] k =
      ap (λ ss. loaded_after zero (map instruction_of ss)) (sym (append-nil (output_loads c 0 c.outputs)))
      ∙ loads-told [] (output_loads c 0 c.outputs) (output-operations c 0 c.outputs) refl
  outputs-told n j (g ∷ gs) k = gate-skipped (length gs) j g gs k.0 ∙ outputs-told (suc n) (suc j) gs k.1

-- ---- which they are

pub among_of : (v : ℕ) (xs : List ℕ) (b : Bool) → occurrences v xs ≡ one_if b → is_among v xs ≡ b
unfolding occurrences is_among
among_of v [] true e = absurd (omega arith)
among_of v [] false e = refl
among_of v (x ∷ xs) b e = go (eqb v x) b e (among_of v xs b)
  where
    go : (a b : Bool) → first a 1 0 + occurrences v xs ≡ one_if b → (occurrences v xs ≡ one_if b → is_among v xs ≡ b) → a || is_among v xs ≡ b
    go true true e ih = refl
    go true false e ih = absurd (omega arith)
    go false b e ih = ih (omega arith)

-- ---- and in which order

-- what is not among the first j + 1 has a higher place than the last of them
place-before : (us : List ℕ) (j v : ℕ) → j < length us → is_among v (take (suc j) us) ≡ false → place_in us (get_or us j 0) < place_in us v
unfolding place_in is_among
place-before [] j v h e = absurd (not-suc-le-zero h)
place-before (u ∷ us) zero v h e = rw (eq-eqb u u refl, sym (or-false (eqb v u)) ∙ e) (omega arith)
place-before (u ∷ us) (suc j) v h e = go (eqb (get_or us j 0) u) (eqb v u) e (place-before us j v (omega arith))
  where
    go : (a b : Bool) → b || is_among v (take (suc j) us) ≡ false
        → (is_among v (take (suc j) us) ≡ false → place_in us (get_or us j 0) < place_in us v)
        → first a 0 (suc (place_in us (get_or us j 0))) < first b 0 (suc (place_in us v))
    go a true q ih = absurd (true≢false q)
    go true false q ih = omega arith
    go false false q ih = omega (arith, ih q)

operands-ascend : (a b : Bool) (l r : ℕ) → Ascending (place_in (l ∷ r ∷ [])) (loads_of (load_if a l ++ load_if (b && not (eqb r l)) r))
unfolding loads_of is_among
operands-ascend a b l r = go a (b && not (eqb r l)) (λ q. not-true (eqb r l) (right_of b (not (eqb r l)) q))
  where
    go : (a d : Bool) → (d ≡ true → eqb r l ≡ false) → Ascending (place_in (l ∷ r ∷ [])) (loads_of (load_if a l ++ load_if d r))
    go true true q = (
      λ v m. let e : v ≡ r = eqb-true v r (sym (or-false (eqb v r)) ∙ m) in place-before (l ∷ r ∷ []) 0 v (omega arith) (rw (e, q refl)),
      (λ v m. absurd (true≢false (sym m)), tt),
    )
    go true false q = (λ v m. absurd (true≢false (sym m)), tt)
    go false true q = (λ v m. absurd (true≢false (sym m)), tt)
    go false false q = tt

module _ (c : Circuit) where
  outputs-ascend : (m j : ℕ) → j + m ≡ length c.outputs → Ascending (place_in c.outputs) (loads_of (output_loads c j (drop j c.outputs)))
  unfolding output_loads loads_of
  outputs-ascend zero j h = let e : drop j c.outputs ≡ [] = drop_of_length-le c.outputs {i = j} (omega arith) in rw e tt
  outputs-ascend (suc m) j h =
      let o = get_or c.outputs j 0 in
      rw (drop-cons c.outputs j 0 (omega arith)) (go (new o && not (is_among o (take j c.outputs))) (outputs-ascend m (suc j) (omega arith)))
    where
      new : ℕ → Bool
      new = is_unloaded c (length c.gates)

      later : List Action
      later = output_loads c (suc j) (drop (suc j) c.outputs)

      behind : (v : ℕ) → is_among v (loads_of later) ≡ true → is_among v (take (suc j) c.outputs) ≡ false
      behind v a =
          let seen = is_among v (take (suc j) c.outputs) in
          let there = is_among v (drop (suc j) c.outputs) in
          let e = among_of v (loads_of later) (new v && (not seen && there)) (output-occurrences c v m (suc j) (omega arith)) in
          not-true seen (left-of (not seen) there (right_of (new v) (not seen && there) (sym e ∙ a)))

      go : (b : Bool) → Ascending (place_in c.outputs) (loads_of later)
          → Ascending (place_in c.outputs) (loads_of (load_if b (get_or c.outputs j 0) ++ later))
      go true rest = (λ v a. place-before c.outputs j v (omega arith) (behind v a), rest)
      go false rest = rest

-- ---- the program's loads

module _ (c : Circuit) (k : Trimmed c) (is : List Instruction) (e : map without_registers is ≡ map instruction_of (actions c)) where
  pub output-loaded : LoadedFor c (length c.gates) c.outputs (loaded_after (length c.gates) is)
  unfolding is_among actions
  output-loaded =
      let n = length c.gates in
      let told = outputs-told c (first_gate c.inputs) 0 c.gates k.valid.kinds in
      subst (LoadedFor c n c.outputs) (sym told ∙ ap (loaded_after n) (sym e) ∙ loaded-shape n is) (record {
        exactly = λ v. among_of v (loads_of (output_loads c 0 c.outputs)) _ (output-occurrences c v (length c.outputs) 0 (omega arith));
        in_order = outputs-ascend c (length c.outputs) 0 (omega arith);
      })

  pub operand-loaded : (i : ℕ) → i < length c.gates
      → LoadedFor c i ((get_or c.gates i no_gate).left ∷ (get_or c.gates i no_gate).right ∷ []) (loaded_after i is)
  unfolding is_among actions
  operand-loaded i h =
      let g = get_or c.gates i no_gate in
      let z : 0 + i ≡ i = omega arith in
      let told = rw z at (operands-told c (first_gate c.inputs) i 0 c.gates k.valid.kinds h) in
      subst (LoadedFor c i (g.left ∷ g.right ∷ [])) (sym told ∙ ap (loaded_after i) (sym e) ∙ loaded-shape i is) (record {
        exactly = λ v. among_of v (loads_of (operand_loads c i g)) _ (operand-occurrences c v i g)
            ∙ ap (λ b. is_unloaded c i v && (eqb v g.left || b)) (sym (or-false (eqb v g.right)));
        in_order = operands-ascend (is_unloaded c i g.left) (is_unloaded c i g.right) g.left g.right;
      })
