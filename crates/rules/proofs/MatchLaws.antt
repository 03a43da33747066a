-- The match as its branches and its loop run it. Assumes nothing.
use mathlib.Core.Path.{◌≡◌, refl, sym, ap, ap₂, ◌∙◌}
use mathlib.Core.Bool.{Bool, true, false, not}
use mathlib.Core.List.{List}
use mathlib.Core.Option.{Option, none, some, bind, some-injective, none-ne-some}
use Prim.Native.Nat.{ℕ, zero, suc, ◌+◌, ◌-◌, ◌*◌, ◌≤◌, ◌<◌}
use native.Mathlib.Nat.{not-suc-le-zero}
use native.Mathlib.Numerals.{add-one}
use native.Mathlib.Omega.{arith}
use lib.Dec.{eqb}
use lib.ListN.{drop, get_or, set}
use borrow.Author.Tests.{eqb-true, eq-eqb, ne_eqb}
use Rattle.lists.specs.First.{first}
use Rattle.lists.proofs.Tests.{same_test}
use Rattle.circuit.specs.Circuit.{Gate, Circuit, first_gate, no_gate, gate_at}
use Rattle.circuit.specs.Table.{inputs, gates, refs, line_at, decode}
use Rattle.circuit.specs.Path.{is_gate}
use Rattle.circuit.proofs.TableLaws.{lines-length, refs-decode}
use Rattle.circuit.proofs.GateLaws.{is-gate, gate-low, gate-high, gate-to}
use Rattle.rules.specs.Rule.{Rule}
use Rattle.rules.specs.RuleTable.{holes_at, lefts_at, left_from, rule_at}
use Rattle.rules.specs.Match.{optional, binding, bound_to, bind_after, bind_reference, bind_operands, match_gate, match_left, is_swapped, match_gates, unbound, start_bindings, match_rule, attempt}
use Rattle.rules.proofs.LineLaws.{line_of}

-- ---- one reference

-- what a place holds where it is bound, as a number
pub some-coded : (b : List ℕ) (r v : ℕ) → binding b r ≡ some v → get_or b r 0 ≡ v + 1
some-coded b r v e = go (get_or b r 0) e
  where
    go : (x : ℕ) → optional x ≡ some v → x ≡ v + 1
    go zero e = absurd (none-ne-some v e)
    go (suc w) e = omega (arith, some-injective w v e)

pub coded-some : (b : List ℕ) (r v : ℕ) → get_or b r 0 ≡ v + 1 → binding b r ≡ some v
coded-some b r v e = ap optional (e ∙ add-one v)

-- by the number in its place
pub bind-coded : (r v : ℕ) (b : List ℕ) → bind_reference r v b ≡ first (eqb (get_or b r 0) 0) (some (set b r (v + 1))) (first (eqb (get_or b r 0) (v + 1)) (some b) none)
unfolding bind_reference
bind-coded r v b = go (get_or b r 0)
  where
    go : (x : ℕ) → bind_after r v b (optional x) ≡ first (eqb x 0) (some (set b r (v + 1))) (first (eqb x (v + 1)) (some b) none)
    go zero = refl
    go (suc w) =
        rw (
          ne_eqb (suc w) 0 (λ z. omega arith),
          same_test (eqb (suc w) (v + 1)) (eqb w v)
              (λ h. eq-eqb w v (omega (arith, eqb-true (suc w) (v + 1) h))) (λ h. eq-eqb (suc w) (v + 1) (omega (arith, eqb-true w v h))),
        )

pub bind-new : (r v : ℕ) (b : List ℕ) → get_or b r 0 ≡ 0 → attempt true (set b r (v + 1)) ≡ bind_reference r v b
bind-new r v b e = rw (bind-coded r v b, eq-eqb (get_or b r 0) 0 e)

pub bind-old : (r v : ℕ) (b : List ℕ) → (get_or b r 0 ≡ 0 → ⊥) → attempt (eqb (get_or b r 0) (v + 1)) b ≡ bind_reference r v b
bind-old r v b e = rw (bind-coded r v b, ne_eqb (get_or b r 0) 0 e) (go (eqb (get_or b r 0) (v + 1)))
  where
    go : (x : Bool) → attempt x b ≡ first x (some b) none
    go true = refl
    go false = refl

-- ---- one after the other: x and b are what the first left

module _ (o : Option (List ℕ)) (f : List ℕ → Option (List ℕ)) (x : Bool) (b : List ℕ) (e : attempt x b ≡ o) where
  pub then_some : x ≡ true → f b ≡ bind o f
  unfolding bind
  then_some h = ap (λ y. bind (attempt y b) f) (sym h) ∙ ap (λ p. bind p f) e

  pub then-none : x ≡ false → none ≡ bind o f
  unfolding bind
  then-none h = ap (λ y. bind (attempt y b) f) (sym h) ∙ ap (λ p. bind p f) e

-- ---- one left gate's part, by its tests on what the place of m holds

-- a gate of the circuit that the table t says
pub gate-below : (t : List ℕ) (v : ℕ) → is_gate (decode t) v ≡ true → v < refs t
gate-below t v e = omega (arith, refs-decode t, gate-to (decode t) v e)

-- left gate i of a rule's table, where the left gate lines are found to begin at q
pub left-line : (t : List ℕ) (p i : ℕ) → i < lefts_at t p → (q : ℕ) → q ≡ left_from t p → line_at t (q + 3 * i) ≡ get_or (rule_at t p).lefts i no_gate
left-line t p i h q e = ap (λ q. line_at t (q + 3 * i)) e ∙ sym (line_of (lefts_at t p) (left_from t p) t i h)

-- 0, which stands for what is unbound too, is no gate
pub gate-coded : (c : Circuit) (m : ℕ) (g : Gate) (swap : Bool) (b : List ℕ) → match_gate c m g swap b
    ≡ first (not (is_gate c (bound_to b m))) none
    (first (not (eqb (gate_at c (bound_to b m)).kind g.kind)) none
    (first swap (bind_operands g (gate_at c (bound_to b m)).right (gate_at c (bound_to b m)).left b)
    (bind_operands g (gate_at c (bound_to b m)).left (gate_at c (bound_to b m)).right b)))
unfolding match_gate bind
gate-coded c m g swap b = go (get_or b m 0)
  where
    part : (v : ℕ) → Option (List ℕ)
    part v =
        first (not (is_gate c v)) none
        (first (not (eqb (gate_at c v).kind g.kind)) none
        (first swap (bind_operands g (gate_at c v).right (gate_at c v).left b)
        (bind_operands g (gate_at c v).left (gate_at c v).right b)))

    go : (x : ℕ) → bind (optional x) part ≡ part (x - 1)
    go zero = rw (gate-low c 0 (omega arith))
    go (suc w) = let e : suc w - 1 ≡ w = omega arith in ap part (sym e)

-- where the circuit is said by the table t
module _ (t : List ℕ) (m : ℕ) (g : Gate) (swap : Bool) (b : List ℕ) where
  -- unbound, or bound to a constant or input
  pub match_low : get_or b m 0 ≤ first_gate (inputs t) → none ≡ match_gate (decode t) m g swap b
  match_low h = rw (gate-coded (decode t) m g swap b, gate-low (decode t) (bound_to b m) (omega arith))

  module _ (lo : first_gate (inputs t) < get_or b m 0) where
    -- bound to what is beyond the circuit
    pub match-high : gates t ≤ get_or b m 0 - 1 - first_gate (inputs t) → none ≡ match_gate (decode t) m g swap b
    match-high h = rw (gate-coded (decode t) m g swap b, gate-high (decode t) (bound_to b m) (omega (arith, refs-decode t)))

    -- bound to a gate of the circuit, x
    module _ (hi : get_or b m 0 - 1 - first_gate (inputs t) < gates t) (x : Gate) (e : x ≡ get_or (decode t).gates (get_or b m 0 - 1 - first_gate (inputs t)) no_gate) where
      gate : is_gate (decode t) (bound_to b m) ≡ true
      gate = is-gate (decode t) (bound_to b m) (omega arith) (omega (arith, refs-decode t))

      pub match-kind : eqb x.kind g.kind ≡ false → none ≡ match_gate (decode t) m g swap b
      match-kind d = rw (gate-coded (decode t) m g swap b, gate, ← e, d)

      module _ (d : eqb x.kind g.kind ≡ true) where
        pub match-cross : swap ≡ true → bind_operands g x.right x.left b ≡ match_gate (decode t) m g swap b
        match-cross s = rw (gate-coded (decode t) m g swap b, gate, ← e, d, s)

        pub match-plain : swap ≡ false → bind_operands g x.left x.right b ≡ match_gate (decode t) m g swap b
        match-plain s = rw (gate-coded (decode t) m g swap b, gate, ← e, d, s)

-- ---- the loop, from the last left gate to the first, with i of them left

module _ (c : Circuit) (u : Rule) (mask : ℕ) where
  more : (i : ℕ) (b b' : List ℕ) (x : Bool) → 0 < i
      → attempt x b' ≡ match_left c u (i - 1) (is_swapped mask (i - 1)) b → x ≡ true
      → match_gates c u mask (i - 1) b' ≡ match_gates c u mask i b
  unfolding match_gates
  more zero b b' x h e t = absurd (not-suc-le-zero h)
  more (suc i) b b' x h e t =
      let s : suc i - 1 ≡ i = omega arith in
      ap (λ k. match_gates c u mask k b') s
      ∙ then_some (match_left c u i (is_swapped mask i) b) (match_gates c u mask i) x b' (rw s at e) t

  fail : (i : ℕ) (b b' : List ℕ) (x : Bool) → 0 < i
      → attempt x b' ≡ match_left c u (i - 1) (is_swapped mask (i - 1)) b → x ≡ false
      → none ≡ match_gates c u mask i b
  unfolding match_gates
  fail zero b b' x h e t = absurd (not-suc-le-zero h)
  fail (suc i) b b' x h e t =
      let s : suc i - 1 ≡ i = omega arith in
      then-none (match_left c u i (is_swapped mask i) b) (match_gates c u mask i) x b' (rw s at e) t

  pub gates-done : (i : ℕ) (b : List ℕ) → i ≡ 0 → some b ≡ match_gates c u mask i b
  unfolding match_gates
  gates-done i b e = rw e

-- of the rule at number p of a table: x and b' are what its left gate i - 1 left
module _ (c : Circuit) (t : List ℕ) (p mask i : ℕ) (b b' : List ℕ) (x : Bool) (some_left : 0 < i)
    (e : attempt x b' ≡ match_left c (rule_at t p) (i - 1) (is_swapped mask (i - 1)) b) where
  pub gates-more : x ≡ true → match_gates c (rule_at t p) mask (i - 1) b' ≡ match_gates c (rule_at t p) mask i b
  gates-more h = more c (rule_at t p) mask i b b' x some_left e h

  pub gates-fail : x ≡ false → none ≡ match_gates c (rule_at t p) mask i b
  gates-fail h = fail c (rule_at t p) mask i b b' x some_left e h

-- the match starts from the constants and the site's gate, by the table's number of left gates
pub start-at : (t : List ℕ) (p gate : ℕ) (b : List ℕ) → b ≡ unbound
    → set (set (set b 0 1) 1 2) (first_gate (holes_at t p) + lefts_at t p - 1) (gate + 1) ≡ start_bindings (rule_at t p) gate
start-at t p gate b z =
    ap₂ (λ (d : List ℕ) (k : ℕ). set (set (set d 0 1) 1 2) (first_gate (holes_at t p) + k - 1) (gate + 1))
    z (sym (lines-length (lefts_at t p) (drop (left_from t p) t)))

pub match-start : (c : Circuit) (t : List ℕ) (p gate mask : ℕ)
    → match_gates c (rule_at t p) mask (lefts_at t p) (start_bindings (rule_at t p) gate) ≡ match_rule c (rule_at t p) gate mask
unfolding match_rule
match-start c t p gate mask =
    ap (λ (k : ℕ). match_gates c (rule_at t p) mask k (start_bindings (rule_at t p) gate)) (sym (lines-length (lefts_at t p) (drop (left_from t p) t)))
