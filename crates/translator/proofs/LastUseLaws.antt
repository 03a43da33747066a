-- The table of last uses, as two loops fill it, and what it says. Assumes nothing.
use mathlib.Core.Path.{◌≡◌, refl, sym, ap, ap₂, subst, ◌∙◌}
use mathlib.Core.Logic.{◌≢◌}
use mathlib.Core.Bool.{Bool, true, false, ◌||◌, or-true, or-false}
use mathlib.Core.List.{List, [], ◌∷◌, ◌++◌}
use Prim.Native.Nat.{ℕ, zero, suc, ◌+◌, ◌-◌, ◌≤◌, ◌<◌}
use native.Mathlib.Nat.{add-zero, add-suc}
use native.Mathlib.Decide.{ℕ_discrete}
use native.Mathlib.Numerals.{add-one}
use native.Mathlib.Omega.{arith}
use lib.Dec.{eqb, ltb}
use lib.ListN.{length, take, drop, get_or, set, length-set, length-drop, drop_of_length-le}
use lib.Seq.{get_or-drop, take-suc, take_all, get_or-set_same, get_or-set_other}
use borrow.Author.Tests.{eq-eqb, ne_eqb, lt-ltb, le-ltb}
use Rattle.lists.specs.First.{first}
use Rattle.lists.proofs.First.{first_either}
use Rattle.circuit.specs.Circuit.{Gate, Circuit, no_gate}
use Rattle.circuit.specs.Table.{gates, outputs, gate_lines, decode}
use Rattle.circuit.specs.Path.{is_among, is_operand, is_output, is_used}
use Rattle.circuit.proofs.TableLaws.{gates-length, outputs-length, output-next}
use Rattle.circuit.proofs.ReverseDepthLaws.{operand-left, operand-right}
use Rattle.translator.specs.LiveRange.{is_used_from}
use Rattle.translator.specs.LastUse.{last_gate, last_use, count_distinct}
use Rattle.translator.proofs.CountLaws.{added-there}
use Rattle.translator.proofs.UseLaws.{used-append}

-- ---- what the table says

module _ (gs : List Gate) (v : ℕ) where
  last-most : (k : ℕ) → last_gate gs k v ≤ k
  unfolding last_gate
  last-most zero = omega arith
  last-most (suc k) = first_either (λ x. x ≤ suc k) (is_operand v (get_or gs k no_gate)) (omega arith) (omega (arith, last-most k))

  -- one of k gates from gate j on uses v exactly if the last that does is behind gate j
  last-used : (j k : ℕ) → j + k ≤ length gs → is_used v (take k (drop j gs)) ≡ ltb j (last_gate gs (j + k) v)
  unfolding last_gate is_used
  last-used j zero h = rw (add-zero j) (sym (le-ltb j (last_gate gs j v) (last-most j)))
  last-used j (suc k) h =
      let g = get_or gs (j + k) no_gate in
      let e : get_or (drop j gs) k no_gate ≡ g = get_or-drop j gs k no_gate in
      rw (add-suc j k) (
      ap (is_used v) (take-suc (drop j gs) k no_gate (rw length-drop (omega arith)) ∙ ap (λ x. take k (drop j gs) ++ (x ∷ [])) e)
      ∙ used-append v (take k (drop j gs)) (g ∷ []) ∙ ap₂ ◌||◌ (last-used j k (omega arith)) (or-false (is_operand v g))
      ∙ go (is_operand v g)
      )
    where
      go : (b : Bool) → (ltb j (last_gate gs (j + k) v) || b) ≡ ltb j (first b (suc (j + k)) (last_gate gs (j + k) v))
      go true = or-true (ltb j (last_gate gs (j + k) v)) ∙ sym (lt-ltb j (suc (j + k)) (omega arith))
      go false = or-false (ltb j (last_gate gs (j + k) v))

-- whether v is used from gate j on is a compare
pub used-from : (c : Circuit) (j v : ℕ) → j ≤ length c.gates → is_used_from c j v ≡ ltb j (last_use c v)
unfolding last_use
used-from c j v h =
    let gs = c.gates in
    let k : j + (length gs - j) ≡ length gs = omega arith in
    let all : take (length gs - j) (drop j gs) ≡ drop j gs = take_all (length gs - j) (drop j gs) (rw length-drop (omega arith)) in
    ap (λ b. b || is_output c v)
    (ap (is_used v) (sym all) ∙ last-used gs v j (length gs - j) (omega arith) ∙ ap (λ n. ltb j (last_gate gs n v)) k)
    ∙ go (is_output c v)
  where
    go : (b : Bool) → (ltb j (last_gate c.gates (length c.gates) v) || b) ≡ ltb j (first b (suc (length c.gates)) (last_gate c.gates (length c.gates) v))
    go true = or-true (ltb j (last_gate c.gates (length c.gates) v)) ∙ sym (lt-ltb j (suc (length c.gates)) (omega arith))
    go false = or-false (ltb j (last_gate c.gates (length c.gates) v))

-- ---- a loop that stores x at both operands of a gate

pub operands-set : {A : Type 0} (g : Gate) (d : List A) (x z : A) → g.left < length d → g.right < length d
    → (v : ℕ) → get_or (set (set d g.left x) g.right x) v z ≡ first (is_operand v g) x (get_or d v z)
operands-set {A} g d x z l r v = at (ℕ_discrete v g.right) (ℕ_discrete v g.left)
  where
    once : List A
    once = set d g.left x

    at : Dec (v ≡ g.right) → Dec (v ≡ g.left) → get_or (set once g.right x) v z ≡ first (is_operand v g) x (get_or d v z)
    at (yes e) q =
        rw (e, operand-right g) (get_or-set_same once g.right x z (rw length-set r))
    at (no e) (yes q) =
        get_or-set_other once g.right v x z e ∙ rw (q, operand-left g) (get_or-set_same d g.left x z l)
    at (no e) (no q) =
        get_or-set_other once g.right v x z e ∙ get_or-set_other d g.left v x z q ∙ rw (ne_eqb v g.left q, ne_eqb v g.right e)

-- the first i gates are in the table
abbrev pub LastTo : (gs : List Gate) (d : List ℕ) (i : ℕ) → Type 0
LastTo gs d i = (v : ℕ) → get_or d v 0 ≡ last_gate gs i v

pub last_none : (gs : List Gate) (d : List ℕ) → ((v : ℕ) → get_or d v 0 ≡ 0) → LastTo gs d 0
unfolding last_gate
last_none gs d e v = e v

pub last_more : (gs : List Gate) (d : List ℕ) (i : ℕ) (g : Gate) → LastTo gs d i → get_or gs i no_gate ≡ g → g.left < length d → g.right < length d
    → LastTo gs (set (set d g.left (i + 1)) g.right (i + 1)) (i + 1)
unfolding last_gate
last_more gs d i g inv e l r v =
    operands-set g d (i + 1) 0 l r v ∙ rw add-one (ap₂ (λ x y. first (is_operand v x) (suc i) y) (sym e) (inv v))

pub last-all : (t d : List ℕ) (i : ℕ) → i ≡ gates t → LastTo (gate_lines t) d i → LastTo (gate_lines t) d (gates t)
last-all t d i e inv v = inv v ∙ ap (λ k. last_gate (gate_lines t) k v) e

-- ---- a loop from the last output to the first, which marks outputs with x, one behind the last gate, and counts those that are new

-- d has x at the outputs os and F elsewhere, and n of them are different
pub record MarkedFrom (F : ℕ → ℕ) (x : ℕ) (os d : List ℕ) (n : ℕ) : Type 0 where
  pub marks : (v : ℕ) → get_or d v 0 ≡ first (is_among v os) x (F v)
  pub count : n ≡ count_distinct os

marked-none : (F : ℕ → ℕ) (x : ℕ) (d : List ℕ) → ((v : ℕ) → get_or d v 0 ≡ F v) → MarkedFrom F x [] d 0
unfolding is_among count_distinct
marked-none F x d e = record { marks = e; count = refl }

-- output o is the one before them
module _ (F : ℕ → ℕ) (x : ℕ) (other : (v : ℕ) → F v ≢ x) (os d : List ℕ) (n o : ℕ) (m : MarkedFrom F x os d n) where
  marked-old : get_or d o 0 ≡ x → MarkedFrom F x (o ∷ os) d n
  unfolding is_among count_distinct
  marked-old h =
      let old : is_among o os ≡ true = go (is_among o os) (sym (m.marks o) ∙ h) in
      record {
        marks = λ v. m.marks v ∙ ap (λ b. first b x (F v)) (sym (added-there (λ u. is_among u os) o old v));
        count = rw old m.count;
      }
    where
      go : (b : Bool) → first b x (F o) ≡ x → b ≡ true
      go true e = refl
      go false e = absurd (other o e)

  marked-new : get_or d o 0 ≢ x → o < length d → MarkedFrom F x (o ∷ os) (set d o x) (n + 1)
  unfolding is_among count_distinct
  marked-new h l =
      let new : is_among o os ≡ false = go (is_among o os) (m.marks o) in
      record {
        marks = λ v. at v (ℕ_discrete v o);
        count = rw new (ap (λ k. k + 1) m.count);
      }
    where
      go : (b : Bool) → get_or d o 0 ≡ first b x (F o) → b ≡ false
      go true e = absurd (h e)
      go false e = refl

      at : (v : ℕ) → Dec (v ≡ o) → get_or (set d o x) v 0 ≡ first (eqb v o || is_among v os) x (F v)
      at v (yes e) = rw (e, eq-eqb o o refl) (get_or-set_same d o x 0 l)
      at v (no e) = rw (ne_eqb v o e) (get_or-set_other d o v x 0 e ∙ m.marks v)

-- of a table: its gates are in d, and its outputs from output i on
abbrev pub UsesFrom : (t d : List ℕ) (n i : ℕ) → Type 0
UsesFrom t d n i = MarkedFrom (last_gate (gate_lines t) (gates t)) (gates t + 1) (drop i (decode t).outputs) d n

module _ (t d : List ℕ) where
  pub uses-none : ((v : ℕ) → get_or d v 0 ≡ last_gate (gate_lines t) (gates t) v) → UsesFrom t d 0 (outputs t)
  uses-none e = rw (drop_of_length-le (decode t).outputs {i = outputs t} (omega (arith, outputs-length t))) (marked-none _ (gates t + 1) d e)

  -- no gate's mark is that of the outputs
  last-other : (v : ℕ) → last_gate (gate_lines t) (gates t) v ≢ gates t + 1
  last-other v e = omega (arith, last-most (gate_lines t) v (gates t))

  -- output j, which is o, is the one before
  module _ (n i j o : ℕ) (m : UsesFrom t d n i) (q : i ≡ j + 1) (h : j < outputs t) (e : o ≡ get_or (decode t).outputs j 0) where
    before : o ∷ drop i (decode t).outputs ≡ drop j (decode t).outputs
    before = sym (output-next t j h ∙ ap₂ (λ x k. x ∷ drop k (decode t).outputs) (sym e) (sym q))

    pub uses-old : get_or d o 0 ≡ gates t + 1 → UsesFrom t d n j
    uses-old k =
        subst (λ os. MarkedFrom (last_gate (gate_lines t) (gates t)) (gates t + 1) os d n) before
        (marked-old (last_gate (gate_lines t) (gates t)) (gates t + 1) last-other (drop i (decode t).outputs) d n o m k)

    pub uses-new : get_or d o 0 ≢ gates t + 1 → o < length d → UsesFrom t (set d o (gates t + 1)) (n + 1) j
    uses-new k l =
        subst (λ os. MarkedFrom (last_gate (gate_lines t) (gates t)) (gates t + 1) os (set d o (gates t + 1)) (n + 1)) before
        (marked-new (last_gate (gate_lines t) (gates t)) (gates t + 1) last-other (drop i (decode t).outputs) d n o m k l)

  -- all outputs: d is the table of last uses
  pub uses-all : (n i : ℕ) → i ≡ 0 → UsesFrom t d n i → (n ≡ count_distinct (decode t).outputs) × ((v : ℕ) → get_or d v 0 ≡ last_use (decode t) v)
  unfolding last_use
  uses-all n i q m =
      let all : UsesFrom t d n 0 = subst (λ k. UsesFrom t d n k) q m in
      (all.count, λ v. all.marks v ∙ rw (gates-length t, add-one (gates t)))
