-- Where there is a substitution, the match finds it. Assumes nothing.
use mathlib.Core.Path.{◌≡◌, refl, sym, ap, ◌∙◌}
use mathlib.Core.Bool.{Bool, true, false}
use mathlib.Core.List.{List}
use mathlib.Core.Option.{none, some, bind}
use Prim.Native.Nat.{ℕ, zero, suc, ◌+◌, ◌-◌, ◌≤◌, ◌<◌}
use native.Mathlib.Nat.{le_refl}
use native.Mathlib.Decide.{dec_lt, ℕ_discrete}
use native.Mathlib.Omega.{arith}
use lib.Dec.{eqb}
use lib.ListN.{length, drop, get_or, set, length-set, length-drop}
use lib.Seq.{get_or-set_same, get_or-set_other, get_or-drop}
use borrow.Author.Tests.{eqb-false, eq-eqb}
use Rattle.lists.specs.First.{first}
use Rattle.lists.specs.Below.{all_below}
use Rattle.lists.proofs.Tests.{right_of}
use Rattle.lists.proofs.Below.{below_at}
use Rattle.circuit.specs.Circuit.{Gate, Circuit, first_gate, no_gate, gate_at}
use Rattle.circuit.specs.Path.{is_operand, is_used}
use Rattle.circuit.specs.Refusal.{operands_below}
use Rattle.circuit.proofs.EachLaws.{each_at, each_all}
use Rattle.circuit.proofs.GateLaws.{operand_cases}
use Rattle.circuit.proofs.ValidLaws.{of-ordered}
use Rattle.rules.specs.Rule.{Rule, hole, root, max_left_references}
use Rattle.rules.specs.RuleRefusal.{hole_used, left_used}
use Rattle.rules.specs.WellFormed.{ValidRule}
use Rattle.rules.specs.Match.{optional, binding, bound_to, bind_reference, bind_operands, match_gate, is_swapped, match_gates, start_bindings, match_rule}
use Rattle.rules.specs.Substitution.{BoundGate, Substitution}
use Rattle.rules.specs.Theorems.{SubstitutionIsFound}
use Rattle.rules.proofs.MatchLaws.{some-coded, bind-coded, gate-coded}
use Rattle.rules.proofs.UseLaws.{used-later, uses-below}
use Rattle.rules.proofs.SubstitutionLaws.{left-coded, right-coded, user-of, start-long, start-root, start-zero, start-one, start-else}

-- a part of the match, from d to d', on the way to b: what is bound is bound as in b, and stays so
record Nearer (b d d' : List ℕ) : Type 0 where
  within : (s : ℕ) → 0 < get_or d' s 0 → get_or d' s 0 ≡ get_or b s 0
  stays : (s : ℕ) → 0 < get_or d s 0 → 0 < get_or d' s 0
  long : length d' ≡ length d

module _ (b : List ℕ) where
  nearer-trans : (a d e : List ℕ) → Nearer b a d → Nearer b d e → Nearer b a e
  nearer-trans a d e p q = record { within = q.within; stays = λ s h. q.stays s (p.stays s h); long = q.long ∙ p.long }

  module _ (r v : ℕ) (is : get_or b r 0 ≡ v + 1) where
    reference-found : (d : List ℕ) → ((s : ℕ) → 0 < get_or d s 0 → get_or d s 0 ≡ get_or b s 0) → r < length d
        → (d' : List ℕ) × (bind_reference r v d ≡ some d') × Nearer b d d' × (0 < get_or d' r 0)
    reference-found d near h = let (d', e, n, k) = go (eqb (get_or d r 0) 0) refl in (d', bind-coded r v d ∙ e, n, k)
      where
        go : (x : Bool) → eqb (get_or d r 0) 0 ≡ x → (d' : List ℕ)
            × (first x (some (set d r (v + 1))) (first (eqb (get_or d r 0) (v + 1)) (some d) none) ≡ some d') × Nearer b d d' × (0 < get_or d' r 0)
        go true e = (
          set d r (v + 1),
          refl,
          record {
            within = λ s k. elim (ℕ_discrete s r) [
              | yes z ↦ rw z (get_or-set_same d r (v + 1) 0 h ∙ sym is)
              | no z ↦ get_or-set_other d r s (v + 1) 0 z ∙ near s (rw (get_or-set_other d r s (v + 1) 0 z) at k)
            ];
            stays = λ s k. elim (ℕ_discrete s r) [
              | yes z ↦ rw (z, get_or-set_same d r (v + 1) 0 h) (omega arith)
              | no z ↦ rw (get_or-set_other d r s (v + 1) 0 z) k
            ];
            long = length-set d r (v + 1);
          },
          rw (get_or-set_same d r (v + 1) 0 h) (omega arith),
        )
        go false e =
            let n = eqb-false (get_or d r 0) 0 e in
            let k : 0 < get_or d r 0 = omega arith in
            let q : get_or d r 0 ≡ v + 1 = near r k ∙ is in
            (d, rw (eq-eqb (get_or d r 0) (v + 1) q), record { within = near; stays = λ s h. h; long = refl }, k)

  operands-found : (g : Gate) (x y : ℕ) → get_or b g.left 0 ≡ x + 1 → get_or b g.right 0 ≡ y + 1
      → (d : List ℕ) → ((s : ℕ) → 0 < get_or d s 0 → get_or d s 0 ≡ get_or b s 0) → g.left < length d → g.right < length d
      → (d' : List ℕ) × (bind_operands g x y d ≡ some d') × Nearer b d d' × (0 < get_or d' g.left 0) × (0 < get_or d' g.right 0)
  unfolding bind_operands bind
  operands-found g x y ex ey d near hl hr =
      let (d₁, p, n, k) = reference-found g.left x ex d near hl in
      let (d₂, q, m, l) = reference-found g.right y ey d₁ n.within (omega (arith, n.long)) in
      (d₂, rw p q, nearer-trans d d₁ d₂ n m, m.stays g.left k, l)

  gate-found : (c : Circuit) (m : ℕ) (g : Gate) (swap : Bool) → BoundGate c b m g swap
      → (d : List ℕ) → ((s : ℕ) → 0 < get_or d s 0 → get_or d s 0 ≡ get_or b s 0) → 0 < get_or d m 0 → g.left < length d → g.right < length d
      → (d' : List ℕ) × (match_gate c m g swap d ≡ some d') × Nearer b d d' × (0 < get_or d' g.left 0) × (0 < get_or d' g.right 0)
  gate-found c m g swap f d near k hl hr =
      let e : get_or d m 0 ≡ get_or b m 0 = near m k in
      let at : bound_to b m ≡ bound_to d m = omega arith in
      let h = gate_at c (bound_to b m) in
      let (d₁, p, n, l, r) = operands-found g (first swap h.right h.left) (first swap h.left h.right) (left-coded c b m g swap f) (right-coded c b m g swap f) d near hl hr in
      (d₁, rw (gate-coded c m g swap d, ← at, f.is-gate, eq-eqb h.kind g.kind f.kind) (crossed swap h.left h.right ∙ p), n, l, r)
    where
      crossed : (s : Bool) (x y : ℕ) → first s (bind_operands g y x d) (bind_operands g x y d) ≡ bind_operands g (first s y x) (first s x y) d
      crossed true x y = refl
      crossed false x y = refl

module _ (c : Circuit) (u : Rule) (w : ValidRule u) (gate mask : ℕ) (b : List ℕ) (sub : Substitution c u gate mask b) where
  abbrev n₀ : ℕ
  n₀ = first_gate u.holes

  -- the operands of the left gates from i on are bound
  abbrev Ready : List ℕ → ℕ → Type 0
  Ready d i = (k : ℕ) → i ≤ k → k < length u.lefts → (r : ℕ) → is_operand r (get_or u.lefts k no_gate) ≡ true → 0 < get_or d r 0

  -- so the left gate before them is bound
  turn : (d : List ℕ) (i : ℕ) → i < length u.lefts → 0 < get_or d (root u) 0 → Ready d (suc i) → 0 < get_or d (n₀ + i) 0
  turn d i h top ready =
      elim (dec_lt (i + 1) (length u.lefts)) [
        | no l ↦ let e : root u ≡ n₀ + i = omega arith in rw e at top
        | yes l ↦
            let used : is_used (n₀ + i) (drop (i + 1) u.lefts) ≡ true =
            used-later n₀ u.lefts (each_all operands_below n₀ u.lefts (of-ordered n₀ u.lefts w.lefts-ordered)) (i + 1) (n₀ + i) (omega arith)
            ∙ below_at (left_used u) (length u.lefts - 1) i (right_of (all_below (hole_used u) u.holes) _ w.uses) (omega arith) in
            let (k, q, o) = user-of (n₀ + i) (drop (i + 1) u.lefts) used in
            ready (i + 1 + k) (omega arith) (omega (arith, length-drop (i + 1) u.lefts)) (n₀ + i)
            (ap (λ g. is_operand (n₀ + i) g) (sym (get_or-drop (i + 1) u.lefts k no_gate)) ∙ o)
      ]

  gates-found : (i : ℕ) → i ≤ length u.lefts → (d : List ℕ) → ((s : ℕ) → 0 < get_or d s 0 → get_or d s 0 ≡ get_or b s 0)
      → length d ≡ max_left_references → 0 < get_or d (root u) 0 → Ready d i
      → (d' : List ℕ) × (match_gates c u mask i d ≡ some d') × Nearer b d d' × Ready d' 0
  unfolding match_gates bind
  gates-found zero h d near len top ready = (d, refl, record { within = near; stays = λ s h. h; long = refl }, ready)
  gates-found (suc i) h d near len top ready =
      let g = get_or u.lefts i no_gate in
      let o = each_at (λ m g. (g.left < m) × (g.right < m)) n₀ u.lefts w.lefts-ordered i h in
      let (d₁, p, n, bl, br) = gate-found b c (n₀ + i) g (is_swapped mask i) (sub.gates-bound i h) d near (turn d i h top ready)
      (omega (arith, o, w.holes-limit, w.lefts-limit)) (omega (arith, o, w.holes-limit, w.lefts-limit)) in
      let next : Ready d₁ i = λ k lo hi r q. elim (dec_lt i k) [
        | yes x ↦ n.stays r (ready k x hi r q)
        | no x ↦ let e : k ≡ i = omega arith in operand_cases (λ r. 0 < get_or d₁ r 0) g bl br r (rw e at q)
      ] in
      let (d₂, s, m, t) = gates-found i (omega arith) d₁ n.within (n.long ∙ len) (n.stays (root u) top) next in
      (d₂, rw p s, nearer-trans b d d₁ d₂ n m, t)

  abbrev start : List ℕ
  start = start_bindings u gate

  start-near : (s : ℕ) → 0 < get_or start s 0 → get_or start s 0 ≡ get_or b s 0
  start-near s h = go s (ℕ_discrete s (root u)) h
    where
      go : (s : ℕ) → Dec (s ≡ root u) → 0 < get_or start s 0 → get_or start s 0 ≡ get_or b s 0
      go s (yes z) h = ap (λ k. get_or start k 0) z ∙ start-root u w gate ∙ sym (some-coded b (root u) gate sub.root-bound) ∙ ap (λ k. get_or b k 0) (sym z)
      go zero (no z) h = start-zero u w gate ∙ sym (some-coded b 0 0 sub.zero-bound)
      go (suc zero) (no z) h = start-one u w gate ∙ sym (some-coded b 1 1 sub.one-bound)
      go (suc (suc s)) (no z) h =
          let e : s + 2 ≡ suc (suc s) = omega arith in
          let q : get_or start (suc (suc s)) 0 ≡ 0 = ap (λ k. get_or start k 0) (sym e) ∙ start-else u w gate s (λ x. z (sym e ∙ x)) in
          absurd (omega arith)

  -- all references of the left side are bound in the end
  all-bound : (d : List ℕ) → Nearer b start d → Ready d 0 → (r : ℕ) → r < n₀ + length u.lefts → 0 < get_or d r 0
  all-bound d n ready r h = go r h (ℕ_discrete r (root u))
    where
      go : (r : ℕ) → r < n₀ + length u.lefts → Dec (r ≡ root u) → 0 < get_or d r 0
      go r h (yes z) = rw z (n.stays (root u) (omega (arith, start-root u w gate)))
      go zero h (no z) = n.stays 0 (omega (arith, start-zero u w gate))
      go (suc zero) h (no z) = n.stays 1 (omega (arith, start-one u w gate))
      go (suc (suc r)) h (no z) =
          let e : hole r ≡ suc (suc r) = omega arith in
          let less : r < u.holes + length u.lefts - 1 = omega arith in
          let (k, l, o) = user-of (hole r) u.lefts (below_at (hole_used u) (u.holes + length u.lefts - 1) r (uses-below u w.lefts-some ∙ w.uses) less) in
          rw e at (ready k (omega arith) l (hole r) o)

  is_found : (b' : List ℕ) × (match_rule c u gate mask ≡ some b') × ((r : ℕ) → r < n₀ + length u.lefts → binding b' r ≡ binding b r)
  unfolding match_rule
  is_found =
      let (d, p, n, t) = gates-found (length u.lefts) (le_refl _) start start-near (start-long u w gate) (omega (arith, start-root u w gate))
      (λ k lo hi r o. let z : ⊥ = omega arith in absurd z) in
      (d, p, λ r h. ap optional (n.within r (all-bound d n t r h)))

pub substitution-is-found : SubstitutionIsFound
substitution-is-found = is_found
