-- The actions as 01 says them: the operations in order, and each load once and where it belongs. Assumes nothing.
use mathlib.Core.Path.{◌≡◌, refl, sym, ap, ap₂, ◌∙◌}
use mathlib.Core.Bool.{Bool, true, false, not, ◌&&◌, ◌||◌, and-true, and-false, or_assoc}
use mathlib.Core.List.{List, [], ◌∷◌, ◌++◌, append_assoc}
use Prim.Native.Nat.{ℕ, zero, suc, ◌+◌, ◌≤◌, ◌<◌}
use native.Mathlib.Decide.{ℕ_discrete}
use native.Mathlib.Omega.{arith}
use lib.Dec.{eqb}
use lib.ListN.{length, take, drop, get_or, drop_of_length-le}
use lib.Seq.{take-suc, drop-cons, drop-length}
use borrow.Author.Tests.{eq-eqb, ne_eqb}
use Rattle.lists.specs.First.{first}
use Rattle.circuit.specs.Circuit.{Gate, Circuit, first_gate, no_gate}
use Rattle.circuit.specs.Path.{is_among, is_output, is_operand, is_used}
use Rattle.translator.specs.Need.{count_below}
use Rattle.translator.specs.LiveRange.{is_used_before, is_used_from, is_constant_or_input}
use Rattle.translator.specs.Actions.{Action, load, operate, load_if, is_unloaded, operand_loads, output_loads, actions_from, actions, loads_of, operations_of}
use Rattle.translator.specs.Pressure.{one_if}
use Rattle.translator.specs.Shape.{occurrences}
use Rattle.translator.proofs.CountLaws.{count_none, count-more}
use Rattle.translator.proofs.UseLaws.{used-take, used-drop}
use Rattle.translator.proofs.ReadyLaws.{wanted-end}
use Rattle.translator.proofs.OwnerLaws.{among-last}

-- ---- lists of actions

module _ (ss : List Action) where
  pub loads-append : (rs : List Action) → loads_of (rs ++ ss) ≡ loads_of rs ++ loads_of ss
  unfolding loads_of
  loads-append [] = refl
  loads-append (load v ∷ rs) = ap (λ l. v ∷ l) (loads-append rs)
  loads-append (operate v g ∷ rs) = loads-append rs

  pub operations-append : (rs : List Action) → operations_of (rs ++ ss) ≡ operations_of rs ++ operations_of ss
  unfolding operations_of
  operations-append [] = refl
  operations-append (load v ∷ rs) = operations-append rs
  operations-append (operate v g ∷ rs) = ap (λ l. g ∷ l) (operations-append rs)

pub actions-length : (ss : List Action) → length ss ≡ length (loads_of ss) + length (operations_of ss)
unfolding loads_of operations_of
actions-length [] = refl
actions-length (load v ∷ ss) = omega (arith, actions-length ss)
actions-length (operate v g ∷ ss) = omega (arith, actions-length ss)

load-operations : (b : Bool) (v : ℕ) (ss : List Action) → operations_of (load_if b v ++ ss) ≡ operations_of ss
unfolding operations_of
load-operations true v ss = refl
load-operations false v ss = refl

-- ---- operations

module _ (c : Circuit) where
  pub output-operations : (j : ℕ) (os : List ℕ) → operations_of (output_loads c j os) ≡ []
  unfolding output_loads operations_of
  output-operations j [] = refl
  output-operations j (o ∷ os) =
      load-operations (is_unloaded c (length c.gates) o && not (is_among o (take j c.outputs))) o (output_loads c (suc j) os) ∙ output-operations (suc j) os

  pub operand-operations : (i : ℕ) (g : Gate) (ss : List Action) → operations_of (operand_loads c i g ++ ss) ≡ operations_of ss
  operand-operations i g ss =
      let l = is_unloaded c i g.left in
      let r = is_unloaded c i g.right && not (eqb g.right g.left) in
      ap operations_of (append_assoc (load_if l g.left) (load_if r g.right) ss)
      ∙ load-operations l g.left (load_if r g.right ++ ss) ∙ load-operations r g.right ss

  pub operations-from : (i : ℕ) (gs : List Gate) → operations_of (actions_from c i gs) ≡ gs
  unfolding actions_from operations_of
  operations-from i [] = output-operations 0 c.outputs
  operations-from i (g ∷ gs) =
      operand-operations i g (operate (first_gate c.inputs + i) g ∷ actions_from c (suc i) gs) ∙ ap (λ l. g ∷ l) (operations-from (suc i) gs)

  pub operations-actions : operations_of (actions c) ≡ c.gates
  unfolding actions
  operations-actions = operations-from 0 c.gates

  -- ---- the actions before gate i, and from it on

  pub actions-split : (i : ℕ) → i ≤ length c.gates
      → (before : List Action) × (actions c ≡ before ++ actions_from c i (drop i c.gates)) × (operations_of before ≡ take i c.gates)
  unfolding actions actions_from operations_of
  actions-split zero h = ([], refl, refl)
  actions-split (suc i) h =
      let g = get_or c.gates i no_gate in
      let (before, e, q) = actions-split i (omega arith) in
      let now = operand_loads c i g ++ (operate (first_gate c.inputs + i) g ∷ []) in
      let rest = actions_from c (suc i) (drop (suc i) c.gates) in (
        before ++ now,
        e ∙ ap (λ gs. before ++ actions_from c i gs) (drop-cons c.gates i no_gate h)
            ∙ ap (λ l. before ++ l) (sym (append_assoc (operand_loads c i g) (operate (first_gate c.inputs + i) g ∷ []) rest))
            ∙ sym (append_assoc before now rest),
        operations-append now before ∙ ap₂ ◌++◌ q (operand-operations i g (operate (first_gate c.inputs + i) g ∷ []))
            ∙ sym (take-suc c.gates i no_gate h),
      )

-- ---- how often a reference is loaded

pub occurrences-append : (v : ℕ) (xs ys : List ℕ) → occurrences v (xs ++ ys) ≡ occurrences v xs + occurrences v ys
unfolding occurrences
occurrences-append v [] ys = omega arith
occurrences-append v (x ∷ xs) ys = omega (arith, occurrences-append v xs ys)

load-occurrences : (b : Bool) (x v : ℕ) → occurrences v (loads_of (load_if b x)) ≡ one_if (b && eqb v x)
unfolding occurrences loads_of
load-occurrences true x v = omega arith
load-occurrences false x v = refl

-- a list in which exactly those that pass the test are, each once, is as long as there are such
pub occurrences-count : (xs : List ℕ) (p : ℕ → Bool) (m : ℕ) → ((v : ℕ) → p v ≡ true → v < m) → ((v : ℕ) → occurrences v xs ≡ one_if (p v)) → length xs ≡ count_below p m
unfolding occurrences
occurrences-count [] p m low e = sym (count_none p m (λ v. none (p v) (e v)))
  where
    none : (b : Bool) → ◌≡◌ {A = ℕ} 0 (one_if b) → b ≡ false
    none true q = absurd (omega arith)
    none false q = refl
occurrences-count (x ∷ xs) p m low e =
    let px : p x ≡ true = here (p x) (rw (eq-eqb x x refl) at (e x)) in
    omega (
      arith,
      occurrences-count xs others m (λ v q. low v (first_of (p v) (not (eqb v x)) q)) (λ v. rest v (eqb v x) (p v) refl refl (e v)),
      count-more others p x m (low x px) (rw (eq-eqb x x refl) (and-false (p x))) px (λ v ne. rw (ne_eqb v x ne) (and-true (p v))),
    )
  where
    others : ℕ → Bool
    others v = p v && not (eqb v x)

    here : (b : Bool) → 1 + occurrences x xs ≡ one_if b → b ≡ true
    here true q = refl
    here false q = absurd (omega arith)

    first_of : (a b : Bool) → a && b ≡ true → a ≡ true
    first_of true b q = refl
    first_of false b q = q

    rest : (v : ℕ) (a b : Bool) → eqb v x ≡ a → p v ≡ b → first a 1 0 + occurrences v xs ≡ one_if b → occurrences v xs ≡ one_if (b && not a)
    rest v true true q f g = omega arith
    rest v true false q f g = absurd (omega arith)
    rest v false true q f g = omega arith
    rest v false false q f g = omega arith

-- the loads of two operands, of an output, of a gate and those behind it
two-loads : (new : ℕ → Bool) (v l r : ℕ)
    → one_if (new l && eqb v l) + one_if ((new r && not (eqb r l)) && eqb v r) ≡ one_if (new v && (eqb v l || eqb v r))
two-loads new v l r = at (ℕ_discrete v l) (ℕ_discrete v r)
  where
    at : Dec (v ≡ l) → Dec (v ≡ r)
        → one_if (new l && eqb v l) + one_if ((new r && not (eqb r l)) && eqb v r) ≡ one_if (new v && (eqb v l || eqb v r))
    at (yes e) (yes f) =
        rw (eq-eqb v l e, eq-eqb r l (sym f ∙ e), eq-eqb v r f, ap new (sym e), ap new (sym f), and-true (new v), and-false (new v)) (omega arith)
    at (yes e) (no f) = rw (eq-eqb v l e, ne_eqb v r f, ap new (sym e), and-false (new r && not (eqb r l))) (omega arith)
    at (no e) (yes f) = rw (ne_eqb v l e, ne_eqb r l (λ q. e (f ∙ q)), eq-eqb v r f, ap new (sym f), and-false (new l), and-true (new v && true)) (omega arith)
    at (no e) (no f) = rw (ne_eqb v l e, ne_eqb v r f, and-false (new l), and-false (new r && not (eqb r l)), and-false (new v))

next-output : (new seen : ℕ → Bool) (v o : ℕ) (later : Bool)
    → one_if ((new o && not (seen o)) && eqb v o) + one_if (new v && (not (eqb v o || seen v) && later)) ≡ one_if (new v && (not (seen v) && (eqb v o || later)))
next-output new seen v o later = at (ℕ_discrete v o)
  where
    at : Dec (v ≡ o)
        → one_if ((new o && not (seen o)) && eqb v o) + one_if (new v && (not (eqb v o || seen v) && later)) ≡ one_if (new v && (not (seen v) && (eqb v o || later)))
    at (yes e) = rw (eq-eqb v o e, ap new (sym e), ap seen (sym e), and-true (new v && not (seen v)), and-true (not (seen v)), and-false (new v)) (omega arith)
    at (no e) = rw (ne_eqb v o e, and-false (new o && not (seen o))) (omega arith)

next-gate : (low before uses later : Bool) → one_if ((low && not before) && uses) + one_if ((low && not (before || uses)) && later) ≡ one_if ((low && not before) && (uses || later))
next-gate false before uses later = refl
next-gate true true uses later = refl
next-gate true false true later = refl
next-gate true false false true = refl
next-gate true false false false = refl

module _ (c : Circuit) (v : ℕ) where
  -- before gate i: what it is the first to use
  pub operand-occurrences : (i : ℕ) (g : Gate) → occurrences v (loads_of (operand_loads c i g)) ≡ one_if (is_unloaded c i v && is_operand v g)
  operand-occurrences i g =
      let l = is_unloaded c i g.left in
      let r = is_unloaded c i g.right && not (eqb g.right g.left) in
      ap (occurrences v) (loads-append (load_if r g.right) (load_if l g.left))
      ∙ occurrences-append v (loads_of (load_if l g.left)) (loads_of (load_if r g.right))
      ∙ ap₂ ◌+◌ (load-occurrences l g.left v) (load-occurrences r g.right v) ∙ two-loads (is_unloaded c i) v g.left g.right

  -- behind the last gate, where the first j outputs are loaded: what only outputs use
  pub output-occurrences : (m j : ℕ) → j + m ≡ length c.outputs
      → occurrences v (loads_of (output_loads c j (drop j c.outputs)))
      ≡ one_if (is_unloaded c (length c.gates) v && (not (is_among v (take j c.outputs)) && is_among v (drop j c.outputs)))
  unfolding output_loads loads_of occurrences is_among
  output-occurrences zero j h =
      let e : drop j c.outputs ≡ [] = drop_of_length-le c.outputs {i = j} (omega arith) in
      rw (e, and-false (not (is_among v (take j c.outputs))), and-false (is_unloaded c (length c.gates) v))
  output-occurrences (suc m) j h =
      let l : j < length c.outputs = omega arith in
      let o = get_or c.outputs j 0 in
      let os = drop (suc j) c.outputs in
      let new = is_unloaded c (length c.gates) in
      let b = new o && not (is_among o (take j c.outputs)) in
      let e : is_among v (take (suc j) c.outputs) ≡ eqb v o || is_among v (take j c.outputs)
      = ap (is_among v) (take-suc c.outputs j 0 l) ∙ among-last v (take j c.outputs) o in
      ap (λ l. occurrences v (loads_of (output_loads c j l))) (drop-cons c.outputs j 0 l)
      ∙ ap (occurrences v) (loads-append (output_loads c (suc j) os) (load_if b o))
      ∙ occurrences-append v (loads_of (load_if b o)) (loads_of (output_loads c (suc j) os))
      ∙ ap₂ ◌+◌ (load-occurrences b o v) (output-occurrences m (suc j) (omega arith) ∙ ap (λ x. one_if (new v && (not x && is_among v os))) e)
      ∙ next-output new (λ x. is_among x (take j c.outputs)) v o (is_among v os)
      ∙ ap (λ l. one_if (new v && (not (is_among v (take j c.outputs)) && is_among v l))) (sym (drop-cons c.outputs j 0 l))

  -- from gate i on: what no gate before it uses
  pub from-occurrences : (m i : ℕ) → i + m ≡ length c.gates
      → occurrences v (loads_of (actions_from c i (drop i c.gates))) ≡ one_if (is_unloaded c i v && is_used_from c i v)
  unfolding actions_from loads_of is_among
  from-occurrences zero i h =
      let n = length c.gates in
      let e : i ≡ n = omega arith in
      rw e (
      ap (λ gs. occurrences v (loads_of (actions_from c n gs))) (drop-length c.gates) ∙ output-occurrences (length c.outputs) 0 (omega arith)
      ∙ ap (λ b. one_if (is_unloaded c n v && b)) (sym (wanted-end c v))
      )
  from-occurrences (suc m) i h =
      let l : i < length c.gates = omega arith in
      let g = get_or c.gates i no_gate in
      let rest = actions_from c (suc i) (drop (suc i) c.gates) in
      ap (λ gs. occurrences v (loads_of (actions_from c i gs))) (drop-cons c.gates i no_gate l)
      ∙ ap (occurrences v) (loads-append (operate (first_gate c.inputs + i) g ∷ rest) (operand_loads c i g))
      ∙ occurrences-append v (loads_of (operand_loads c i g)) (loads_of rest)
      ∙ ap₂ ◌+◌ (operand-occurrences i g) (from-occurrences m (suc i) (omega arith)
      ∙ ap (λ b. one_if ((is_constant_or_input c v && not b) && is_used_from c (suc i) v)) (used-take v c.gates i l))
      ∙ next-gate (is_constant_or_input c v) (is_used_before c i v) (is_operand v g) (is_used_from c (suc i) v)
      ∙ ap (λ b. one_if (is_unloaded c i v && b)) (sym (or_assoc (is_operand v g) (is_used v (drop (suc i) c.gates)) (is_output c v))
      ∙ ap (λ b. b || is_output c v) (sym (used-drop v c.gates i l)))

  pub actions-occurrences : occurrences v (loads_of (actions c)) ≡ one_if (is_constant_or_input c v && is_used_from c 0 v)
  unfolding actions is_used
  actions-occurrences =
      from-occurrences (length c.gates) 0 (omega arith) ∙ ap (λ b. one_if (b && is_used_from c 0 v)) (and-true (is_constant_or_input c v))
