-- The bindings of a match are a substitution, and its holes stand for references below the site's gate. Assumes nothing.
use mathlib.Core.Path.{◌≡◌, refl, sym, ap, ◌∙◌, subst}
use mathlib.Core.Logic.{◌≢◌}
use mathlib.Core.Bool.{Bool, true, false, not, ◌||◌}
use mathlib.Core.List.{List, [], ◌∷◌}
use mathlib.Core.Option.{none, some, bind-eq-some_iff, some-injective, none-ne-some}
use Prim.Native.Nat.{ℕ, zero, suc, ◌+◌, ◌-◌, ◌≤◌, ◌<◌}
use native.Mathlib.Nat.{not-suc-le-zero, le_refl}
use native.Mathlib.Decide.{dec_lt, ℕ_discrete}
use native.Mathlib.Omega.{arith}
use lib.Dec.{eqb}
use lib.ListN.{length, get_or, set, replicate, length-set}
use lib.Seq.{get_or-set_same, get_or-set_other}
use borrow.Author.Tests.{eqb-true, eq-eqb, ne_eqb}
use Rattle.lists.specs.First.{first}
use Rattle.lists.specs.Below.{all_below}
use Rattle.lists.proofs.Tests.{left-of}
use Rattle.lists.proofs.First.{first-false, first_either}
use Rattle.lists.proofs.Below.{below_at}
use Rattle.circuit.specs.Circuit.{Gate, Circuit, first_gate, no_gate, gate_at}
use Rattle.circuit.specs.Valuation.{Ordered}
use Rattle.circuit.specs.Path.{is_gate, is_operand, is_used}
use Rattle.circuit.proofs.EachLaws.{each_at}
use Rattle.circuit.proofs.GateLaws.{gate-from, operands-below-gate}
use Rattle.circuit.proofs.PassLaws.{zeros-at}
use Rattle.rules.specs.Rule.{Rule, hole, root, max_left_references}
use Rattle.rules.specs.RuleRefusal.{hole_used}
use Rattle.rules.specs.WellFormed.{ValidRule}
use Rattle.rules.specs.Match.{optional, bound_to, bind_reference, bind_operands, match_gate, match_left, is_swapped, match_gates, start_bindings, match_rule}
use Rattle.rules.specs.Substitution.{BoundGate, Substitution}
use Rattle.rules.specs.Theorems.{MatchGivesSubstitution}
use Rattle.rules.proofs.MatchLaws.{some-coded, coded-some, bind-coded, gate-coded}

-- ---- what a run of the match keeps; place s holds at most cap s

module _ (cap : ℕ → ℕ) where
  abbrev pub Low : List ℕ → Type 0
  Low b = (s : ℕ) → get_or b s 0 ≤ cap s

  -- what is bound stays so
  pub record Extends (b b' : List ℕ) : Type 0 where
    pub stays : (s : ℕ) → 0 < get_or b s 0 → get_or b' s 0 ≡ get_or b s 0
    pub long : length b' ≡ length b
    pub low : Low b → Low b'

  extends-refl : (b : List ℕ) → Extends b b
  extends-refl b = record { stays = λ s h. refl; long = refl; low = λ l. l }

  extends-trans : (a b c : List ℕ) → Extends a b → Extends b c → Extends a c
  extends-trans a b c p q =
      record {
        stays = λ s h. q.stays s (rw (p.stays s h) h) ∙ p.stays s h;
        long = q.long ∙ p.long;
        low = λ l. q.low (p.low l);
      }

  put : (r v : ℕ) (b : List ℕ) → get_or b r 0 ≡ 0 → r < length b → v < cap r → Extends b (set b r (v + 1)) × (get_or (set b r (v + 1)) r 0 ≡ v + 1)
  put r v b e h l = (
    record {
      stays = λ s k. get_or-set_other b r s (v + 1) 0 (λ z. other s k z);
      long = length-set b r (v + 1);
      low = λ k s. elim (ℕ_discrete s r) [
        | yes z ↦ rw (z, get_or-set_same b r (v + 1) 0 h) (omega arith)
        | no z ↦ rw (get_or-set_other b r s (v + 1) 0 z) (k s)
      ];
    },
    get_or-set_same b r (v + 1) 0 h,
  )
    where
      other : (s : ℕ) → 0 < get_or b s 0 → s ≡ r → ⊥
      other s k z = let y : 0 < get_or b r 0 = rw z at k in omega arith

  reference-sound : (r v : ℕ) (b b' : List ℕ) → bind_reference r v b ≡ some b' → r < length b → v < cap r → Extends b b' × (get_or b' r 0 ≡ v + 1)
  reference-sound r v b b' e h l = go (eqb (get_or b r 0) 0) refl (eqb (get_or b r 0) (v + 1)) refl
    where
      coded : first (eqb (get_or b r 0) 0) (some (set b r (v + 1))) (first (eqb (get_or b r 0) (v + 1)) (some b) none) ≡ some b'
      coded = sym (bind-coded r v b) ∙ e

      go : (p : Bool) → eqb (get_or b r 0) 0 ≡ p → (q : Bool) → eqb (get_or b r 0) (v + 1) ≡ q → Extends b b' × (get_or b' r 0 ≡ v + 1)
      go true x q y =
          subst (λ z. Extends b z × (get_or z r 0 ≡ v + 1)) (some-injective _ _ (rw x at coded)) (put r v b (eqb-true _ _ x) h l)
      go false x true y =
          subst (λ z. Extends b z × (get_or z r 0 ≡ v + 1)) (some-injective _ _ (rw (x, y) at coded)) (extends-refl b, eqb-true _ _ y)
      go false x false y = absurd (none-ne-some b' (rw (x, y) at coded))

  operands-sound : (g : Gate) (x y : ℕ) (b b' : List ℕ) → bind_operands g x y b ≡ some b' → g.left < length b → g.right < length b
      → x < cap g.left → y < cap g.right → Extends b b' × (get_or b' g.left 0 ≡ x + 1) × (get_or b' g.right 0 ≡ y + 1)
  unfolding bind_operands
  operands-sound g x y b b' e hl hr cl cr =
      let (b₁, p, q) = (bind-eq-some_iff (bind_reference g.left x b) (bind_reference g.right y)).0 e in
      let s = reference-sound g.left x b b₁ p hl cl in
      let t = reference-sound g.right y b₁ b' q (omega (arith, s.0.long)) cr in
      (extends-trans b b₁ b' s.0 t.0, t.0.stays g.left (omega (arith, s.1)) ∙ s.1, t.1)

-- what the places of a bound gate and its operands hold, as numbers
module _ (c : Circuit) (b : List ℕ) (m : ℕ) (g : Gate) (swap : Bool) (f : BoundGate c b m g swap) where
  pub bound-coded : get_or b m 0 ≡ bound_to b m + 1
  bound-coded = some-coded b m (bound_to b m) f.bound

  pub left-coded : get_or b g.left 0 ≡ first swap (gate_at c (bound_to b m)).right (gate_at c (bound_to b m)).left + 1
  left-coded = some-coded b g.left (first swap (gate_at c (bound_to b m)).right (gate_at c (bound_to b m)).left) f.left

  pub right-coded : get_or b g.right 0 ≡ first swap (gate_at c (bound_to b m)).left (gate_at c (bound_to b m)).right + 1
  right-coded = some-coded b g.right (first swap (gate_at c (bound_to b m)).left (gate_at c (bound_to b m)).right) f.right

-- a bound gate stays one
bound-extends : (cap : ℕ → ℕ) (c : Circuit) (b b' : List ℕ) (m : ℕ) (g : Gate) (swap : Bool) → Extends cap b b' → BoundGate c b m g swap → BoundGate c b' m g swap
bound-extends cap c b b' m g swap x f =
    let e : get_or b' m 0 ≡ get_or b m 0 = x.stays m (omega (arith, bound-coded c b m g swap f)) in
    let k : bound_to b m ≡ bound_to b' m = omega arith in
    record {
      bound = rw (← k) (ap optional e ∙ f.bound);
      is-gate = rw (← k) f.is-gate;
      kind = rw (← k) f.kind;
      left = rw (← k) (ap optional (x.stays g.left (omega (arith, left-coded c b m g swap f))) ∙ f.left);
      right = rw (← k) (ap optional (x.stays g.right (omega (arith, right-coded c b m g swap f))) ∙ f.right);
    }

-- the tests of one left gate's part, where it succeeds
gate-tests : (c : Circuit) (m : ℕ) (g : Gate) (swap : Bool) (b b' : List ℕ) → match_gate c m g swap b ≡ some b'
    → (is_gate c (bound_to b m) ≡ true) × ((gate_at c (bound_to b m)).kind ≡ g.kind)
    × (bind_operands g (first swap (gate_at c (bound_to b m)).right (gate_at c (bound_to b m)).left) (first swap (gate_at c (bound_to b m)).left (gate_at c (bound_to b m)).right) b ≡ some b')
gate-tests c m g swap b b' e = go (is_gate c (bound_to b m)) refl (eqb (gate_at c (bound_to b m)).kind g.kind) refl swap (sym (gate-coded c m g swap b) ∙ e)
  where
    h : Gate
    h = gate_at c (bound_to b m)

    go : (p : Bool) → is_gate c (bound_to b m) ≡ p → (q : Bool) → eqb h.kind g.kind ≡ q → (s : Bool)
        → first (not p) none (first (not q) none (first s (bind_operands g h.right h.left b) (bind_operands g h.left h.right b))) ≡ some b'
        → (is_gate c (bound_to b m) ≡ true) × (h.kind ≡ g.kind) × (bind_operands g (first s h.right h.left) (first s h.left h.right) b ≡ some b')
    go false p q y s e = absurd (none-ne-some b' e)
    go true p false y s e = absurd (none-ne-some b' e)
    go true p true y true e = (p, eqb-true _ _ y, e)
    go true p true y false e = (p, eqb-true _ _ y, e)

module _ (c : Circuit) (ok : Ordered (first_gate c.inputs) c.gates) (cap : ℕ → ℕ) (top : ℕ)
    (cap-lo : (s : ℕ) → top ≤ cap s) (cap-hi : (s : ℕ) → cap s ≤ suc top) where
  gate-sound : (m : ℕ) (g : Gate) (swap : Bool) (b b' : List ℕ) → match_gate c m g swap b ≡ some b' → Low cap b
      → g.left < length b → g.right < length b → Extends cap b b' × BoundGate c b' m g swap
  gate-sound m g swap b b' e low hl hr =
      let t = gate-tests c m g swap b b' e in
      let h = gate_at c (bound_to b m) in
      let lo = gate-from c (bound_to b m) t.0 in
      let under : bound_to b m ≤ top = omega (arith, low m, cap-hi m) in
      let o = operands-below-gate c (bound_to b m) t.0 ok in
      let x : first swap h.right h.left < bound_to b m = first_either (λ k. k < bound_to b m) swap o.1 o.0 in
      let y : first swap h.left h.right < bound_to b m = first_either (λ k. k < bound_to b m) swap o.0 o.1 in
      let s = operands-sound cap g (first swap h.right h.left) (first swap h.left h.right) b b' t.2 hl hr
      (omega (arith, cap-lo g.left)) (omega (arith, cap-lo g.right)) in
      let q : get_or b' m 0 ≡ get_or b m 0 = s.0.stays m (omega arith) in
      let k : bound_to b m ≡ bound_to b' m = omega arith in
      let up : get_or b m 0 ≡ bound_to b m + 1 = omega arith in (
        s.0,
        record {
          bound = rw (← k) (coded-some b' m (bound_to b m) (q ∙ up));
          is-gate = rw (← k) t.0;
          kind = rw (← k) t.1;
          left = rw (← k) (coded-some b' g.left (first swap h.right h.left) s.1);
          right = rw (← k) (coded-some b' g.right (first swap h.left h.right) s.2);
        },
      )

  -- the whole run
  gates-sound : (u : Rule) (mask : ℕ) → Ordered (first_gate u.holes) u.lefts → (i : ℕ) → i ≤ length u.lefts → (b b' : List ℕ)
      → first_gate u.holes + i ≤ length b → Low cap b → match_gates c u mask i b ≡ some b'
      → Extends cap b b' × ((j : ℕ) → j < i → BoundGate c b' (first_gate u.holes + j) (get_or u.lefts j no_gate) (is_swapped mask j))
  unfolding match_gates
  gates-sound u mask ol zero h b b' room low e =
      (subst (Extends cap b) (some-injective b b' e) (extends-refl cap b), λ j l. absurd (not-suc-le-zero l))
  gates-sound u mask ol (suc i) h b b' room low e =
      let n₀ = first_gate u.holes in
      let g = get_or u.lefts i no_gate in
      let (b₁, p, q) = (bind-eq-some_iff (match_gate c (n₀ + i) g (is_swapped mask i) b) (match_gates c u mask i)).0 e in
      let o = each_at (λ m g. (g.left < m) × (g.right < m)) n₀ u.lefts ol i h in
      let s = gate-sound (n₀ + i) g (is_swapped mask i) b b₁ p low (omega (arith, o)) (omega (arith, o)) in
      let t = gates-sound u mask ol i (omega arith) b₁ b' (omega (arith, s.0.long)) (s.0.low low) q in (
        extends-trans cap b b₁ b' s.0 t.0,
        λ j l. elim (dec_lt j i) [
          | yes k ↦ t.1 j k
          | no k ↦
              let z : j ≡ i = omega arith in
              rw z (bound-extends cap c b₁ b' (n₀ + i) g (is_swapped mask i) t.0 s.1)
        ],
      )

-- ---- from the start

-- the user of a reference that is used
pub user-of : (r : ℕ) (gs : List Gate) → is_used r gs ≡ true → (i : ℕ) × (i < length gs) × (is_operand r (get_or gs i no_gate) ≡ true)
unfolding is_used
user-of r [] h = let z : ◌≡◌ {A = ℕ} 0 1 = cc in absurd (omega arith)
user-of r (g ∷ gs) h = go (is_operand r g) refl h (user-of r gs)
  where
    go : (x : Bool) → is_operand r g ≡ x → (x || is_used r gs) ≡ true → (is_used r gs ≡ true → (i : ℕ) × (i < length gs) × (is_operand r (get_or gs i no_gate) ≡ true))
        → (i : ℕ) × (i < suc (length gs)) × (is_operand r (get_or (g ∷ gs) i no_gate) ≡ true)
    go true e h f = (0, omega arith, e)
    go false e h f = let (i, l, k) = f h in (suc i, omega arith, k)

-- an operand of a bound gate is bound
operand-bound : (c : Circuit) (b : List ℕ) (m : ℕ) (g : Gate) (swap : Bool) → BoundGate c b m g swap → (r : ℕ) → is_operand r g ≡ true → 0 < get_or b r 0
operand-bound c b m g swap f r h = go (eqb r g.left) refl h
  where
    go : (x : Bool) → eqb r g.left ≡ x → (x || eqb r g.right) ≡ true → 0 < get_or b r 0
    go true e h = rw (eqb-true r g.left e) (omega (arith, left-coded c b m g swap f))
    go false e h = rw (eqb-true r g.right h) (omega (arith, right-coded c b m g swap f))

-- the last of i left gates is bound to a gate
root-gate : (c : Circuit) (u : Rule) (mask i : ℕ) (b b' : List ℕ) → 0 < i → match_gates c u mask i b ≡ some b' → is_gate c (bound_to b (first_gate u.holes + (i - 1))) ≡ true
unfolding match_gates
root-gate c u mask zero b b' h e = absurd (not-suc-le-zero h)
root-gate c u mask (suc i) b b' h e =
    let (b₁, p, q) = (bind-eq-some_iff (match_left c u i (is_swapped mask i) b) (match_gates c u mask i)).0 e in
    let s : suc i - 1 ≡ i = omega arith in
    rw s (gate-tests c (first_gate u.holes + i) (get_or u.lefts i no_gate) (is_swapped mask i) b b₁ p).0

-- the bindings before the site's gate is bound
abbrev blank : List ℕ
blank = 1 ∷ 2 ∷ replicate (max_left_references - 2) 0

blank-length : length blank ≡ max_left_references
blank-length = refl

blank-low : (s : ℕ) → get_or blank s 0 ≤ 2
blank-low zero = omega arith
blank-low (suc zero) = omega arith
blank-low (suc (suc s)) = omega (arith, zeros-at (max_left_references - 2) s)

module _ (u : Rule) (w : ValidRule u) (gate : ℕ) where
  root-from : 2 ≤ root u
  root-from = omega (arith, w.lefts-some)

  root-to : root u < length blank
  root-to = rw blank-length (omega (arith, w.lefts-some, w.lefts-limit, w.holes-limit))

  pub start-long : length (start_bindings u gate) ≡ max_left_references
  start-long = length-set blank (root u) (gate + 1) ∙ blank-length

  pub start-root : get_or (start_bindings u gate) (root u) 0 ≡ gate + 1
  start-root = get_or-set_same blank (root u) (gate + 1) 0 root-to

  start-other : (s : ℕ) → s ≢ root u → get_or (start_bindings u gate) s 0 ≡ get_or blank s 0
  start-other s n = get_or-set_other blank (root u) s (gate + 1) 0 n

  pub start-zero : get_or (start_bindings u gate) 0 0 ≡ 1
  start-zero = start-other 0 (λ z. omega (arith, root-from))

  pub start-one : get_or (start_bindings u gate) 1 0 ≡ 2
  start-one = start-other 1 (λ z. omega (arith, root-from))

  pub start-else : (s : ℕ) → s + 2 ≢ root u → get_or (start_bindings u gate) (s + 2) 0 ≡ 0
  start-else s n =
      let e : s + 2 ≡ suc (suc s) = omega arith in
      start-other (s + 2) n ∙ ap (λ k. get_or blank k 0) e ∙ zeros-at (max_left_references - 2) s

module _ (c : Circuit) (ok : Ordered (first_gate c.inputs) c.gates) (u : Rule) (w : ValidRule u) (gate mask : ℕ) (b : List ℕ)
    (e : match_rule c u gate mask ≡ some b) where
  from_start : match_gates c u mask (length u.lefts) (start_bindings u gate) ≡ some b
  unfolding match_rule
  from_start = e

  pub matched-gate : is_gate c gate ≡ true
  matched-gate =
      let g = root-gate c u mask (length u.lefts) (start_bindings u gate) b w.lefts-some from_start in
      let r : first_gate u.holes + (length u.lefts - 1) ≡ root u = omega (arith, w.lefts-some) in
      let k : bound_to (start_bindings u gate) (first_gate u.holes + (length u.lefts - 1)) ≡ gate =
      ap (λ s. get_or (start_bindings u gate) s 0 - 1) r ∙ omega (arith, start-root u w gate) in
      rw k at g

  -- only the site's gate is bound to it
  cap : ℕ → ℕ
  cap s = first (eqb s (root u)) (gate + 1) gate

  cap-lo : (s : ℕ) → gate ≤ cap s
  unfolding cap
  cap-lo s = first_either (λ k. gate ≤ k) (eqb s (root u)) (omega arith) (omega arith)

  cap-hi : (s : ℕ) → cap s ≤ suc gate
  unfolding cap
  cap-hi s = first_either (λ k. k ≤ suc gate) (eqb s (root u)) (omega arith) (omega arith)

  start-low : Low cap (start_bindings u gate)
  unfolding cap
  start-low s =
      elim (ℕ_discrete s (root u)) [
        | yes z ↦ rw (eq-eqb s (root u) z) (omega (arith, ap (λ k. get_or (start_bindings u gate) k 0) z, start-root u w gate))
        | no z ↦
            rw (ne_eqb s (root u) z)
            (omega (arith, start-other u w gate s z, blank-low s, gate-from c gate matched-gate))
      ]

  run : Extends cap (start_bindings u gate) b
      × ((j : ℕ) → j < length u.lefts → BoundGate c b (first_gate u.holes + j) (get_or u.lefts j no_gate) (is_swapped mask j))
  run =
      gates-sound c ok cap gate cap-lo cap-hi u mask w.lefts-ordered (length u.lefts) (le_refl _) (start_bindings u gate) b
      (omega (arith, start-long u w gate, w.lefts-limit, w.holes-limit)) start-low from_start

  kept : (s x : ℕ) → get_or (start_bindings u gate) s 0 ≡ x → 0 < x → get_or b s 0 ≡ x
  kept s x q h = run.0.stays s (rw q h) ∙ q

  low-at : (r : ℕ) → r < first_gate u.holes → bound_to b r < gate
  unfolding cap
  low-at r h =
      let n : r ≢ root u = λ z. omega (arith, w.lefts-some) in
      let k : cap r ≡ gate = first-false (gate + 1) gate (ne_eqb r (root u) n) in
      omega (arith, run.0.low start-low r, gate-from c gate matched-gate)

  hole-at : (j : ℕ) → j < u.holes → 0 < get_or b (hole j) 0
  hole-at j h =
      let (i, l, k) = user-of (hole j) u.lefts
      (below_at (hole_used u) u.holes j (left-of (all_below (hole_used u) u.holes) _ w.uses) h) in
      operand-bound c b (first_gate u.holes + i) (get_or u.lefts i no_gate) (is_swapped mask i) (run.1 i l) (hole j) k

  substitution : Substitution c u gate mask b
  substitution =
      record {
        long = run.0.long ∙ start-long u w gate;
        zero-bound = coded-some b 0 0 (kept 0 1 (start-zero u w gate) (omega arith));
        one-bound = coded-some b 1 1 (kept 1 2 (start-one u w gate) (omega arith));
        root-bound = coded-some b (root u) gate (kept (root u) (gate + 1) (start-root u w gate) (omega arith));
        gates-bound = run.1;
        holes-bound = λ j h. let k = hole-at j h in coded-some b (hole j) (bound_to b (hole j)) (omega arith);
        below-gate = low-at;
      }

pub match-gives-substitution : MatchGivesSubstitution
match-gives-substitution = substitution
