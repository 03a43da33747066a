-- What the backward pass says of each reference: a gate's operands get what it hands down, and nothing else is there. Assumes nothing.
use mathlib.Core.Path.{◌≡◌, refl, sym, ap, ap₂, ◌∙◌}
use mathlib.Core.Logic.{◌≢◌}
use mathlib.Core.Bool.{Bool, true, false, true≢false, ◌||◌, or-true}
use mathlib.Core.List.{List, [], ◌∷◌}
use Prim.Native.Nat.{ℕ, zero, suc, ◌+◌, ◌≤◌, ◌<◌, max}
use native.Mathlib.Nat.{suc-ne-zero}
use native.Mathlib.Decide.{dec_lt, ℕ_discrete}
use native.Mathlib.Omega.{arith}
use lib.Dec.{eqb}
use lib.ListN.{length, get_or, set, replicate, length-set, length-replicate}
use lib.Seq.{get_or-set_same, get_or-set_other}
use borrow.Author.Tests.{eq-eqb, ne_eqb, lt-ltb, le-ltb, ltb-true}
use Rattle.lists.specs.First.{first}
use Rattle.lists.proofs.First.{first_either}
use Rattle.circuit.specs.Circuit.{Gate, Circuit, constants, first_gate, references}
use Rattle.circuit.specs.Each.{EachGate}
use Rattle.circuit.specs.Valuation.{Ordered}
use Rattle.circuit.specs.Depth.{plus_counted}
use Rattle.circuit.specs.Path.{is_among, is_operand}
use Rattle.circuit.specs.MultiplicativeDepth.{contribution}
use Rattle.circuit.specs.ReverseDepth.{mark_outputs, raise, raise_operands, raise_gates, reverse_depths, reverse_depth, is_live}
use Rattle.circuit.specs.Trim.{rename_gate, rank, keep_gates, is_kept}
use Rattle.circuit.proofs.EachLaws.{each-zip}
use Rattle.circuit.proofs.MultiplicativeDepthLaws.{plus-contribution}
use Rattle.circuit.proofs.ValidLaws.{Valid, among-head, among-tail}
use Rattle.circuit.proofs.RankLaws.{rank-suc, rank_same, rank-eqb, rank-counted, Closed}
use Rattle.circuit.proofs.PassLaws.{raise-dead, raise-live, raise-length, mark-length, zeros-at}

-- ---- as functions of the reference

-- what a gate with this contribution and reverse depth x hands to its operands
unfoldable pub handed : (own x : ℕ) → ℕ
handed own zero = zero
handed own (suc x) = own + suc x

unfoldable pub carried : Gate → ℕ → ℕ → ℕ
carried g r x = first (is_operand r g) (handed (contribution g) x) 0

-- the pass over gates from reference n on, begun with w
unfoldable pub raised : ℕ → List Gate → (ℕ → ℕ) → ℕ → ℕ
raised n [] w r = w r
raised n (g ∷ gs) w r = max (raised (suc n) gs w r) (carried g r (raised (suc n) gs w n))

raise-one : (d : List ℕ) (v x s : ℕ) → v < length d → get_or (raise d v x) s 0 ≡ max (get_or d s 0) (first (eqb s v) x 0)
raise-one d v x s h =
    elim (ℕ_discrete s v) [
      | yes e ↦ rw (e, get_or-set_same d v (max (get_or d v 0) x) 0 h, eq-eqb v v refl)
      | no e ↦ rw (get_or-set_other d v s (max (get_or d v 0) x) 0 e, ne_eqb s v e) (omega arith)
    ]

raise-two : (d : List ℕ) (g : Gate) (x s : ℕ) → g.left < length d → g.right < length d
    → get_or (raise (raise d g.left x) g.right x) s 0 ≡ max (get_or d s 0) (first (is_operand s g) x 0)
raise-two d g x s hl hr =
    raise-one (raise d g.left x) g.right x s (rw length-set hr)
    ∙ ap (λ z. max z (first (eqb s g.right) x 0)) (raise-one d g.left x s hl)
    ∙ go (eqb s g.left) (eqb s g.right)
  where
    go : (p q : Bool) → max (max (get_or d s 0) (first p x 0)) (first q x 0) ≡ max (get_or d s 0) (first (p || q) x 0)
    go true true = omega arith
    go true false = omega arith
    go false true = omega arith
    go false false = omega arith

carried-zero : (g : Gate) (r : ℕ) → carried g r 0 ≡ 0
unfolding carried handed
carried-zero g r = first_either (λ x. x ≡ 0) (is_operand r g) refl refl

operands-at : (n : ℕ) (g : Gate) (d : List ℕ) (s : ℕ) → g.left < length d → g.right < length d
    → get_or (raise_operands n g d) s 0 ≡ max (get_or d s 0) (carried g s (get_or d n 0))
unfolding carried handed
operands-at n g d s hl hr = go (get_or d n 0) refl
  where
    go : (x : ℕ) → get_or d n 0 ≡ x → get_or (raise_operands n g d) s 0 ≡ max (get_or d s 0) (carried g s x)
    go zero e = rw (raise-dead n g d e, carried-zero g s) (omega arith)
    go (suc x) e =
        let p : plus_counted g (get_or d n 0) ≡ contribution g + suc x = rw e (plus-contribution g (suc x)) in
        rw (raise-live n g d (λ z. suc-ne-zero x (sym e ∙ z)), p) (raise-two d g (contribution g + suc x) s hl hr)

raises : (n : ℕ) (gs : List Gate) (d : List ℕ) → Ordered n gs → n + length gs ≤ length d
    → (s : ℕ) → get_or (raise_gates n gs d) s 0 ≡ raised n gs (λ r. get_or d r 0) s
unfolding raise_gates raised
raises n [] d low h s = refl
raises n (g ∷ gs) d low h s =
    let ih = raises (suc n) gs d low.1 (omega arith) in
    let l = raise-length (suc n) gs d in
    operands-at n g (raise_gates (suc n) gs d) s (omega (arith, low.0)) (omega (arith, low.0))
    ∙ ap₂ (λ x y. max x (carried g s y)) (ih s) (ih n)

marks : (os d : List ℕ) → ((o : ℕ) → is_among o os ≡ true → o < length d) → (r : ℕ) → get_or (mark_outputs os d) r 0 ≡ first (is_among r os) 1 (get_or d r 0)
unfolding mark_outputs is_among
marks [] d h r = refl
marks (o ∷ os) d h r =
    marks os (set d o 1) (λ x e. rw length-set (h x (among-tail x o os e))) r
    ∙ elim (ℕ_discrete r o) [
      | yes e ↦ rw (e, get_or-set_same d o 1 0 (h o (among-head o os)), eq-eqb o o refl) (first_either (λ x. x ≡ 1) (is_among o os) refl refl)
      | no e ↦ rw (get_or-set_other d o r 1 0 e, ne_eqb r o e)
    ]

-- each output at 1
unfoldable pub marked : List ℕ → ℕ → ℕ
marked os r = first (is_among r os) 1 0

raised-ext : (n : ℕ) (gs : List Gate) (w w' : ℕ → ℕ) → ((r : ℕ) → w r ≡ w' r) → (v : ℕ) → raised n gs w v ≡ raised n gs w' v
unfolding raised
raised-ext n [] w w' e v = e v
raised-ext n (g ∷ gs) w w' e v = ap₂ (λ x y. max x (carried g v y)) (raised-ext (suc n) gs w w' e v) (raised-ext (suc n) gs w w' e n)

-- the reverse depth of a valid circuit's references
pub reverse-at : (c : Circuit) → Valid c → (v : ℕ) → reverse_depth c v ≡ raised (first_gate c.inputs) c.gates (marked c.outputs) v
unfolding reverse_depths marked
reverse-at c ok v =
    let zeros = replicate {A = ℕ} (references c) 0 in
    let l : length zeros ≡ references c = length-replicate {A = ℕ} (references c) 0 in
    raises (first_gate c.inputs) c.gates (mark_outputs c.outputs zeros) ok.ordered (omega (arith, mark-length c.outputs zeros)) v
    ∙ raised-ext (first_gate c.inputs) c.gates (λ r. get_or (mark_outputs c.outputs zeros) r 0) (marked c.outputs)
    (λ r. marks c.outputs zeros (λ o e. rw l (ok.outputs-below o e)) r ∙ rw (zeros-at (references c) r)) v

-- ---- what the pass says

handed-ge : (own x : ℕ) → x ≤ handed own x
unfolding handed
handed-ge own zero = omega arith
handed-ge own (suc x) = omega arith

pub handed-lt : (own x m : ℕ) → m < x → own + m < handed own x
unfolding handed
handed-lt own zero m h = omega arith
handed-lt own (suc x) m h = omega arith

handed-is : (own x y : ℕ) → handed own x ≡ suc y → (z : ℕ) × (x ≡ suc z) × (own + z ≡ y)
unfolding handed
handed-is own zero y e = absurd (suc-ne-zero y (sym e))
handed-is own (suc x) y e = (x, refl, omega arith)

raised-ge : (n : ℕ) (gs : List Gate) (w : ℕ → ℕ) (r : ℕ) → w r ≤ raised n gs w r
unfolding raised
raised-ge n [] w r = omega arith
raised-ge n (g ∷ gs) w r = omega (arith, raised-ge (suc n) gs w r)

-- a gate carries nothing to references from its own on
unused : (g : Gate) (m r x : ℕ) → (g.left < m) × (g.right < m) → m ≤ r → carried g r x ≡ 0
unfolding carried
unused g m r x l h =
    let a : r ≢ g.left = λ e. omega (arith, l.0) in
    let b : r ≢ g.right = λ e. omega (arith, l.1) in
    rw (ne_eqb r g.left a, ne_eqb r g.right b)

-- u is what the pass over these gates says, and no more of them: what a gate hands down has arrived
arrived : (u : ℕ → ℕ) (n : ℕ) (gs : List Gate) (w : ℕ → ℕ) → Ordered n gs
    → ((r : ℕ) → raised n gs w r ≤ u r) → ((r : ℕ) → n ≤ r → u r ≤ raised n gs w r)
    → EachGate (λ m g. (r : ℕ) → is_operand r g ≡ true → handed (contribution g) (u m) ≤ u r) n gs
unfolding raised carried
arrived u n [] w low lo hi = tt
arrived u n (g ∷ gs) w low lo hi = (
  λ r e.
      let x = raised (suc n) gs w n in
      let p : u n ≡ x = omega (arith, hi n (omega arith), lo n, unused g n n x low.0 (omega arith)) in
      let q : carried g r x ≡ handed (contribution g) x = rw e in
      rw p (omega (arith, lo r)),
  arrived u (suc n) gs w low.1 (λ r. omega (arith, lo r))
      (λ r h. omega (arith, hi r (omega arith), unused g n r (raised (suc n) gs w n) low.0 (omega arith))),
)

pub operand-left : (g : Gate) → is_operand g.left g ≡ true
operand-left g = rw (eq-eqb g.left g.left refl)

pub operand-right : (g : Gate) → is_operand g.right g ≡ true
operand-right g = rw (eq-eqb g.right g.right refl, or-true)

-- what the pass says is so: P holds where w says so, and goes from a gate down to its operands
pub reached : (P : ℕ → ℕ → Type 0) (n : ℕ) (gs : List Gate) (w : ℕ → ℕ)
    → EachGate (λ m g. (v x : ℕ) → is_operand v g ≡ true → P m x → P v (contribution g + x)) n gs
    → ((r x : ℕ) → w r ≡ suc x → P r x) → (r x : ℕ) → raised n gs w r ≡ suc x → P r x
unfolding raised carried
reached P n [] w a h r x e = h r x e
reached P n (g ∷ gs) w a h r x e =
    let ih = reached P (suc n) gs w a.1 h in
    elim (dec_lt (raised (suc n) gs w r) (carried g r (raised (suc n) gs w n))) [
      | yes l ↦ go (is_operand r g) refl (omega arith) (ih n)
      | no l ↦ ih r x (omega arith)
    ]
  where
    go : (b : Bool) → is_operand r g ≡ b → first b (handed (contribution g) (raised (suc n) gs w n)) 0 ≡ suc x
        → ((x : ℕ) → raised (suc n) gs w n ≡ suc x → P n x) → P r x
    go true e q ih =
        let (y, f, z) = handed-is (contribution g) (raised (suc n) gs w n) x q in
        rw (← z) (a.0 r y e (ih y f))
    go false e q ih = absurd (suc-ne-zero x (sym q))

-- ---- keeping gates

carried-rename : (kept : ℕ → Bool) → ((r : ℕ) → r < constants → kept r ≡ true)
    → (g : Gate) (r x : ℕ) → kept r ≡ true → (kept g.left ≡ true) × (kept g.right ≡ true)
    → carried (rename_gate (rank kept) g) (rank kept r) x ≡ carried g r x
unfolding carried
carried-rename kept low g r x e c =
    ap (λ b. first b (handed (contribution (rename_gate (rank kept) g)) x) 0) (ap₂ ◌||◌ (rank-eqb kept r g.left e c.0) (rank-eqb kept r g.right e c.1))
    ∙ ap (λ b. first (is_operand r g) (handed (first b 1 0) x) 0) (rank-counted kept low g)

-- if no gate that goes has anything to hand down, those that stay have what they had
pub keep-raised : (kept : ℕ → Bool) → ((r : ℕ) → r < constants → kept r ≡ true)
    → (w w' : ℕ → ℕ) (n : ℕ) (gs : List Gate) → Closed kept n gs → ((r : ℕ) → kept r ≡ false → raised n gs w r ≡ 0)
    → ((r : ℕ) → kept r ≡ true → w' (rank kept r) ≡ w r)
    → (r : ℕ) → kept r ≡ true → raised (rank kept n) (keep_gates kept n gs) w' (rank kept r) ≡ raised n gs w r
unfolding raised keep_gates
keep-raised kept low w w' n [] cl dead e r h = e r h
keep-raised kept low w w' n (g ∷ gs) cl dead e r h = go (kept n) refl (keep-raised kept low w w' (suc n) gs cl.1 (λ r f. omega (arith, dead r f)) e)
  where
    go : (b : Bool) → kept n ≡ b
        → ((r : ℕ) → kept r ≡ true → raised (rank kept (suc n)) (keep_gates kept (suc n) gs) w' (rank kept r) ≡ raised (suc n) gs w r)
        → raised (rank kept n) (keep_gates kept n (g ∷ gs)) w' (rank kept r) ≡ raised n (g ∷ gs) w r
    go true f ih = rw (f, ← (rank-suc kept n f), ih r h, ih n f, carried-rename kept low g r _ h (cl.0 f))
    go false f ih =
        let z : raised (suc n) gs w n ≡ 0 = omega (arith, dead n f) in
        rw (f, ← (rank_same kept n f), ih r h, z, carried-zero g r) (omega arith)

-- ---- of a circuit

module _ (c : Circuit) where
  pub kept_low : (v : ℕ) → v < first_gate c.inputs → is_kept c v ≡ true
  kept_low v h = rw (lt-ltb v (first_gate c.inputs))

  pub kept-live : (v : ℕ) → is_live c v ≡ true → is_kept c v ≡ true
  kept-live v e = rw (e, or-true)

  pub kept-gate : (v : ℕ) → first_gate c.inputs ≤ v → is_kept c v ≡ true → is_live c v ≡ true
  kept-gate v h e = rw (le-ltb v (first_gate c.inputs)) at e

  pub gone-zero : (v : ℕ) → is_kept c v ≡ false → reverse_depth c v ≡ 0
  gone-zero v e =
      elim (dec_lt 0 (reverse_depth c v)) [
        | yes h ↦ absurd (true≢false (sym (kept-live v (lt-ltb 0 (reverse_depth c v) h)) ∙ e))
        | no h ↦ omega arith
      ]

  module _ (ok : Valid c) where
    -- each gate hands down to its operands
    pub handed-down : EachGate (λ m g. (r : ℕ) → is_operand r g ≡ true → handed (contribution g) (reverse_depth c m) ≤ reverse_depth c r) (first_gate c.inputs) c.gates
    handed-down =
        arrived (reverse_depth c) (first_gate c.inputs) c.gates (marked c.outputs) ok.ordered
        (λ r. omega (arith, reverse-at c ok r)) (λ r h. omega (arith, reverse-at c ok r))

    pub live-output : (o : ℕ) → is_among o c.outputs ≡ true → is_live c o ≡ true
    unfolding marked
    live-output o e =
        let m : marked c.outputs o ≡ 1 = rw e in
        lt-ltb 0 (reverse_depth c o) (omega (arith, reverse-at c ok o, raised-ge (first_gate c.inputs) c.gates (marked c.outputs) o))

    pub kept-closed : Closed (is_kept c) (first_gate c.inputs) c.gates
    kept-closed =
        each-zip (first_gate c.inputs) c.gates handed-down handed-down
        (λ m g h f x e.
        let p : 0 < handed (contribution g) (reverse_depth c m) = omega (arith, ltb-true 0 (reverse_depth c m) (kept-gate m h e), handed-ge (contribution g) (reverse_depth c m)) in (
          kept-live g.left (lt-ltb 0 (reverse_depth c g.left) (omega (arith, f g.left (operand-left g)))),
          kept-live g.right (lt-ltb 0 (reverse_depth c g.right) (omega (arith, f g.right (operand-right g)))),
        ))
