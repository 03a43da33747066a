-- Starting lines that are right: the walk over them, what each says, and the levels that they give. Assumes nothing.
use mathlib.Core.Path.{◌≡◌, refl, sym, ap, ◌∙◌}
use mathlib.Core.Bool.{true, false, not, ◌&&◌}
use mathlib.Core.List.{List, [], ◌∷◌, ◌++◌, map}
use Prim.Native.Nat.{ℕ, zero, suc, ◌+◌, ◌*◌, ◌≤◌, ◌<◌}
use native.Mathlib.Nat.{not-suc-le-zero, le_of_suc-le-suc}
use native.Mathlib.Omega.{arith}
use lib.Dec.{leb, ltb}
use lib.ListN.{length, drop, get_or, set, replicate, length-set, length-replicate}
use lib.Seq.{get_or-set_same, get_or-set_other, set-append_left, drop-nil}
use borrow.Author.Tests.{le-leb, leb-true, lt-ltb, ltb-true}
use Rattle.lists.specs.First.{first}
use Rattle.lists.proofs.Tests.{both, left-of, right_of}
use Rattle.lines.specs.Text.{is_partial}
use Rattle.circuit.specs.Circuit.{Start, Circuit, start_kind, min_level, max_level, constants, first_gate, no_start}
use Rattle.circuit.specs.Table.{inputs, start_run, starts, gates_from, lines_of, start_of, decode, encode_lines, encode}
use Rattle.circuit.specs.Refusal.{head_in_limits, lines_as_head_says, is_start, starts_ascend, starts_ok, gate_kinds_ok, closing_kinds_ok, operands_ok, closing_references_ok, refusal}
use Rattle.circuit.specs.Depth.{set_levels, start_levels}
use Rattle.circuit.specs.Theorems.{StartsAreRight, StartsAreInputs, StartsAtLevel, EmptyRun}
use Rattle.circuit.proofs.TableLaws.{starts-length}
use Rattle.circuit.proofs.StartRunLaws.{line-front, run_step}
use Rattle.circuit.proofs.PassLaws.{zeros-at}

-- ---- the walk

-- what the starting lines that a list begins with say
abbrev said : List ℕ → List Start
said l = map start_of (lines_of (start_run l) l)

-- It has come to place p of a table, the line before was of input b, and the lines so far are right.
abbrev pub Walked : (t : List ℕ) (top b p : ℕ) → Type 0
Walked t top b p =
    (p + 3 * start_run (drop p t) ≡ gates_from t) × (starts_ascend top (suc b) (said (drop p t)) ≡ starts_ascend top constants (said (drop 3 t)))

module _ (t : List ℕ) (top b p : ℕ) (w : Walked t top b p) where
  -- no line of the run comes here
  pub walked_all : start_run (drop p t) ≡ 0 → (p ≡ gates_from t) × (true ≡ starts_ascend top constants (said (drop 3 t)))
  unfolding starts_ascend lines_of
  walked_all e = (omega (arith, w.0), rw e at w.1)

  -- a line does
  module _ (h : p + 2 < length t) (k : get_or t p 0 ≡ start_kind) where
    abbrev here : Start
    here = record { input = get_or t (p + 1) 0; level = get_or t (p + 2) 0 }

    line : said (drop p t) ≡ here ∷ said (drop (p + 3) t)
    unfolding lines_of
    line =
        ap (λ n. map start_of (lines_of n (drop p t))) (run_step t p h k)
        ∙ ap (λ l. map start_of (lines_of (suc (start_run (drop (p + 3) t))) l)) (line-front t p (omega arith))

    pub walked_more : is_start top (suc b) here ≡ true → Walked t top (get_or t (p + 1) 0) (p + 3)
    unfolding starts_ascend
    walked_more e = (omega (arith, w.0, run_step t p h k), rw (line, e) at w.1)

    pub walked-wrong : is_start top (suc b) here ≡ false → false ≡ starts_ascend top constants (said (drop 3 t))
    unfolding starts_ascend
    walked-wrong e = rw (line, e) at w.1

-- ---- what a right line says

pub record Right (top low : ℕ) (s : Start) : Type 0 where
  pub above : low ≤ s.input
  pub below : s.input < top
  pub some : min_level ≤ s.level
  pub limit : s.level ≤ max_level

pub right-of-test : (top low : ℕ) (s : Start) → is_start top low s ≡ true → Right top low s
right-of-test top low s e =
    let a = leb low s.input in
    let b = ltb s.input top in
    let c = leb min_level s.level in
    let d = leb s.level max_level in
    let h1 = right_of a (b && (c && d)) e in
    let h2 = right_of b (c && d) h1 in
    record {
      above = leb-true _ _ (left-of a (b && (c && d)) e);
      below = ltb-true _ _ (left-of b (c && d) h1);
      some = leb-true _ _ (left-of c d h2);
      limit = leb-true _ _ (right_of c d h2);
    }

module _ (top low : ℕ) (s : Start) (ss : List Start) (e : starts_ascend top low (s ∷ ss) ≡ true) where
  pub right-head : Right top low s
  unfolding starts_ascend
  right-head = right-of-test top low s (left-of (is_start top low s) (starts_ascend top (suc s.input) ss) e)

  pub right-tail : starts_ascend top (suc s.input) ss ≡ true
  unfolding starts_ascend
  right-tail = right_of (is_start top low s) (starts_ascend top (suc s.input) ss) e

-- line i
pub right-at : (top low : ℕ) (ss rest : List Start) (i : ℕ) (s : Start) → starts_ascend top low ss ≡ true → drop i ss ≡ s ∷ rest → Right top low s
right-at top low [] rest i s e d = let z : ◌≡◌ {A = ℕ} 0 1 = cc (d, drop-nil {A = Start} i) in let y : ⊥ = omega arith in absurd y
right-at top low (x ∷ ss) rest zero s e d = let q : x ≡ s = cc in rw (← q) (right-head top low x ss e)
right-at top low (x ∷ ss) rest (suc i) s e d =
    let r = right-at top (suc x.input) ss rest i s (right-tail top low x ss e) d in
    let x = right-head top low x ss e in
    record { above = omega arith; below = r.below; some = r.some; limit = r.limit }

-- no more of them than there are inputs
pub right-count : (top low : ℕ) (ss : List Start) → starts_ascend top low ss ≡ true → low ≤ top → low + length ss ≤ top
right-count top low [] e h = omega arith
right-count top low (s ∷ ss) e h =
    let r = right-head top low s ss e in
    omega (arith, right-count top (suc s.input) ss (right-tail top low s ss e) (omega arith))

-- ---- levels in their places

pub levels-length : (ss : List Start) (d : List ℕ) → length (set_levels ss d) ≡ length d
unfolding set_levels
levels-length [] d = refl
levels-length (s ∷ ss) d = levels-length ss (set d s.input s.level) ∙ length-set d s.input s.level

-- a longer array, of which the front alone has inputs
pub levels-front : (top low : ℕ) (ss : List Start) (a b : List ℕ) → starts_ascend top low ss ≡ true → length a ≡ top → set_levels ss (a ++ b) ≡ set_levels ss a ++ b
unfolding set_levels
levels-front top low [] a b e l = refl
levels-front top low (s ∷ ss) a b e l =
    let r = right-head top low s ss e in
    ap (set_levels ss) (set-append_left a b s.input s.level (omega arith))
    ∙ levels-front top (suc s.input) ss (set a s.input s.level) b (right-tail top low s ss e) (length-set a s.input s.level ∙ l)

levels-low : (top low : ℕ) (ss : List Start) (d : List ℕ) (v : ℕ) → starts_ascend top low ss ≡ true → v < low → get_or (set_levels ss d) v 0 ≡ get_or d v 0
unfolding set_levels
levels-low top low [] d v e h = refl
levels-low top low (s ∷ ss) d v e h =
    let r = right-head top low s ss e in
    levels-low top (suc s.input) ss (set d s.input s.level) v (right-tail top low s ss e) (omega arith)
    ∙ get_or-set_other d s.input v s.level 0 (λ q. omega arith)

levels-listed : (top low : ℕ) (ss : List Start) (d : List ℕ) (i : ℕ) → starts_ascend top low ss ≡ true → length d ≡ top → i < length ss
    → get_or (set_levels ss d) (get_or ss i no_start).input 0 ≡ (get_or ss i no_start).level
unfolding set_levels
levels-listed top low [] d i e l h = absurd (not-suc-le-zero h)
levels-listed top low (s ∷ ss) d zero e l h =
    let r = right-head top low s ss e in
    levels-low top (suc s.input) ss (set d s.input s.level) s.input (right-tail top low s ss e) (omega arith)
    ∙ get_or-set_same d s.input s.level 0 (omega arith)
levels-listed top low (s ∷ ss) d (suc i) e l h =
    levels-listed top (suc s.input) ss (set d s.input s.level) i (right-tail top low s ss e) (length-set d s.input s.level ∙ l) (le_of_suc-le-suc h)

levels-other : (ss : List Start) (d : List ℕ) (v : ℕ) → ((i : ℕ) → i < length ss → (get_or ss i no_start).input ≡ v → ⊥) → get_or (set_levels ss d) v 0 ≡ get_or d v 0
unfolding set_levels
levels-other [] d v f = refl
levels-other (s ∷ ss) d v f =
    levels-other ss (set d s.input s.level) v (λ i h. f (suc i) (omega arith))
    ∙ get_or-set_other d s.input v s.level 0 (λ q. f zero (omega arith) (sym q))

pub start-length : (c : Circuit) → length (start_levels c) ≡ first_gate c.inputs
unfolding start_levels
start-length c = levels-length c.starts (replicate (first_gate c.inputs) 0) ∙ length-replicate {A = ℕ} (first_gate c.inputs) 0

pub starts-at-level : StartsAtLevel
unfolding start_levels
starts-at-level c e = (
  start-length c,
  λ i h. levels-listed (first_gate c.inputs) constants c.starts (replicate (first_gate c.inputs) 0) i e (length-replicate {A = ℕ} (first_gate c.inputs) 0) h,
  λ v f. levels-other c.starts (replicate (first_gate c.inputs) 0) v f ∙ zeros-at (first_gate c.inputs) v,
)

-- ---- in the request's words

-- what the walk asks of each line, by its number
right-line : (top low : ℕ) (ss : List Start) → starts_ascend top low ss ≡ true → (i : ℕ) → i < length ss → Right top low (get_or ss i no_start)
right-line top low [] e i h = absurd (not-suc-le-zero h)
right-line top low (s ∷ ss) e zero h = right-head top low s ss e
right-line top low (s ∷ ss) e (suc i) h =
    let r = right-line top (suc s.input) ss (right-tail top low s ss e) i (le_of_suc-le-suc h) in
    let x = right-head top low s ss e in
    record { above = omega arith; below = r.below; some = r.some; limit = r.limit }

right-ascends : (top low : ℕ) (ss : List Start) → starts_ascend top low ss ≡ true → (i : ℕ) → suc i < length ss
    → (get_or ss i no_start).input < (get_or ss (suc i) no_start).input
right-ascends top low [] e i h = absurd (not-suc-le-zero h)
right-ascends top low (s ∷ ss) e zero h = (right-line top (suc s.input) ss (right-tail top low s ss e) 0 (le_of_suc-le-suc h)).above
right-ascends top low (s ∷ ss) e (suc i) h = right-ascends top (suc s.input) ss (right-tail top low s ss e) i (le_of_suc-le-suc h)

ascends-right : (top low : ℕ) (ss : List Start) → ((i : ℕ) → i < length ss → (get_or ss i no_start).input < top)
    → ((i : ℕ) → i < length ss → (min_level ≤ (get_or ss i no_start).level) × ((get_or ss i no_start).level ≤ max_level))
    → ((i : ℕ) → suc i < length ss → (get_or ss i no_start).input < (get_or ss (suc i) no_start).input)
    → (0 < length ss → low ≤ (get_or ss 0 no_start).input) → starts_ascend top low ss ≡ true
unfolding starts_ascend
ascends-right top low [] below levels up first = refl
ascends-right top low (s ∷ ss) below levels up first =
    both {a = is_start top low s}
    (both {a = leb low s.input} (le-leb low s.input (first (omega arith)))
    (both {a = ltb s.input top} (lt-ltb s.input top (below 0 (omega arith)))
    (both {a = leb min_level s.level} (le-leb min_level s.level (levels 0 (omega arith)).0) (le-leb s.level max_level (levels 0 (omega arith)).1))))
    (ascends-right top (suc s.input) ss (λ i h. below (suc i) (omega arith)) (λ i h. levels (suc i) (omega arith)) (λ i h. up (suc i) (omega arith))
    (λ h. up 0 (omega arith)))

pub starts-are-right : StartsAreRight
starts-are-right c = (
  λ e.
      let line = right-line (first_gate c.inputs) constants c.starts e in
      record {
        names-input = λ i h. ((line i h).above, (line i h).below);
        level-limits = λ i h. ((line i h).some, (line i h).limit);
        ascends = right-ascends (first_gate c.inputs) constants c.starts e;
      },
  λ s. ascends-right (first_gate c.inputs) constants c.starts (λ i h. (s.names-input i h).1) s.level-limits s.ascends (λ h. (s.names-input 0 h).0),
)

pub starts-are-inputs : StartsAreInputs
starts-are-inputs t w =
    omega (arith, right-count (first_gate (decode t).inputs) constants (decode t).starts w.starts-right (omega arith), starts-length t)

-- ---- without starting lines

module _ (t : List ℕ) (e : starts t ≡ 0) where
  none_said : (decode t).starts ≡ []
  unfolding lines_of
  none_said = rw e

  none-refused : refusal t
      ≡ first (is_partial 3 t) 1
      (first (not (head_in_limits t)) 4
      (first (not (lines_as_head_says t)) 5
      (first (not (gate_kinds_ok t && closing_kinds_ok t)) 6
      (first (not (operands_ok t && closing_references_ok t)) 7
      0))))
  unfolding refusal starts_ascend
  none-refused =
      let right : starts_ok t ≡ true = ap (starts_ascend (first_gate (inputs t)) constants) none_said in
      rw right

pub empty-run : EmptyRun
unfolding encode encode_lines start_levels set_levels
empty-run = (
  λ t e. (ap (λ n. 3 + 3 * n) e, none_said t e, none-refused t e),
  λ c e. (rw e, rw e),
)
