-- The values held around each gate, and the loop that counts them. Assumes nothing.
use mathlib.Core.Path.{◌≡◌, refl, sym, ap, ap₂, ◌∙◌}
use mathlib.Core.Bool.{Bool, true, false, not, ◌&&◌, ◌||◌}
use mathlib.Core.List.{List, [], ◌∷◌, ◌++◌}
use Prim.Native.Nat.{ℕ, zero, suc, ◌+◌, ◌-◌, ◌≤◌, ◌<◌, max}
use native.Mathlib.Omega.{arith}
use lib.Dec.{eqb}
use lib.ListN.{length, get_or}
use borrow.Author.Tests.{eq-eqb, ne_eqb}
use Rattle.lists.specs.First.{first}
use Rattle.lists.specs.Below.{map_below}
use Rattle.circuit.specs.Circuit.{Gate, Circuit, first_gate, references, no_gate}
use Rattle.circuit.specs.Depth.{largest}
use Rattle.circuit.specs.Path.{is_among, is_output}
use Rattle.circuit.proofs.ValidLaws.{among-head, among-tail}
use Rattle.translator.specs.LiveRange.{is_used_from, is_held_before, is_held_after}
use Rattle.translator.specs.Need.{count_below, count_references, held_around, need}
use Rattle.translator.specs.Actions.{is_unloaded}
use Rattle.translator.specs.LastUse.{count_distinct}
use Rattle.translator.specs.Pressure.{one_if, arrivals, departures, pressure_after, linear_need}
use Rattle.translator.proofs.CountLaws.{count_none, count_same, count-more, added-there, count-added, count-wanted}
use Rattle.translator.proofs.TrimmedLaws.{Trimmed}
use Rattle.translator.proofs.ReadyLaws.{is_ready, neither, ready-none, ready-operands, ready-result, result-new, unloaded-is, wanted-here, left-low, right-low, left-wanted, right-wanted, left-ready, right-ready}

-- between the gates before gate i and its loads
abbrev pub held_between : Circuit → (i : ℕ) → ℕ
held_between c i = count_references c (λ v. is_ready c i i v && is_used_from c i v)

-- ---- one gate

module _ (c : Circuit) (k : Trimmed c) (i : ℕ) (h : i < length c.gates) where
  abbrev g : Gate
  g = get_or c.gates i no_gate

  abbrev v : ℕ
  v = first_gate c.inputs + i

  pub unloaded-right : is_unloaded c i g.right && not (eqb g.right g.left) ≡ not (eqb g.right g.left || is_ready c i i g.right)
  unloaded-right = ap (λ b. b && not (eqb g.right g.left)) (unloaded-is c i g.right (right-low c k i h)) ∙ neither (eqb g.right g.left) (is_ready c i i g.right)

  pub held-before : count_references c (is_held_before c i) ≡ held_between c i + arrivals c i g
  unfolding arrivals
  held-before =
      let l : g.left < references c = omega (arith, left-low c k i h) in
      let r : g.right < references c = omega (arith, right-low c k i h) in
      count_same _ _ (references c) (λ x q. ap (λ b. b && is_used_from c i x) (ready-operands c k i h x))
      ∙ count-added (λ x. eqb x g.left || is_ready c i i x) (is_used_from c i) g.right (references c) r (right-wanted c k i h)
      ∙ ap (λ m. one_if (not (eqb g.right g.left || is_ready c i i g.right)) + m)
      (count-added (is_ready c i i) (is_used_from c i) g.left (references c) l (left-wanted c k i h))
      ∙ rw (unloaded-right, unloaded-is c i g.left (left-low c k i h)) (omega arith)

  -- what gate i is the last to use goes, and its result comes
  held_after : (departures c i g ≤ count_references c (is_held_before c i))
      × (count_references c (is_held_after c i) ≡ count_references c (is_held_before c i) - departures c i g + 1)
  unfolding departures
  held_after =
      let p = is_ready c (suc i) i in
      let w = is_used_from c (suc i) in
      let m = count_below (λ x. p x && w x) (references c) in
      let before : count_references c (is_held_before c i) ≡ one_if (not (eqb g.left g.right || w g.left)) + (one_if (not (w g.right)) + m)
      = count_same _ _ (references c) (λ x q. ap (λ b. p x && b) (wanted-here c k i h x))
      ∙ count-wanted p (λ x. eqb x g.right || w x) g.left (references c) (omega (arith, left-low c k i h)) (left-ready c k i h)
      ∙ ap (λ n. one_if (not (eqb g.left g.right || w g.left)) + n)
      (count-wanted p w g.right (references c) (omega (arith, right-low c k i h)) (right-ready c k i h)) in
      let after : count_references c (is_held_after c i) ≡ one_if (not (p v)) + m
      = count_same _ _ (references c) (λ x q. ap (λ b. b && w x) (ready-result c k i h x))
      ∙ count-added p w v (references c) (omega arith) (k.used i h) in
      let one : one_if (not (p v)) ≡ 1 = rw (result-new c k i h) in
      (omega arith, omega arith)

-- ---- the loop

pub largest-last : (xs : List ℕ) (x : ℕ) → largest (xs ++ (x ∷ [])) ≡ max (largest xs) x
unfolding largest
largest-last [] x = omega arith
largest-last (y ∷ xs) x = ap (max y) (largest-last xs x) ∙ omega arith

module _ (c : Circuit) (k : Trimmed c) where
  pub pressure-held : (i : ℕ) → i ≤ length c.gates → (pressure_after c i).held ≡ held_between c i
  unfolding pressure_after
  pressure-held zero h = sym (count_none _ (references c) (λ v. rw (ready-none c v)))
  pressure-held (suc i) h =
      let ih = pressure-held i (omega arith) in
      let g = get_or c.gates i no_gate in
      rw (ih, ← (held-before c k i h)) (sym (held_after c k i h).1)

  pressure-most : (i : ℕ) → i ≤ length c.gates → (pressure_after c i).most ≡ largest (map_below (held_around c) i)
  unfolding pressure_after map_below largest
  pressure-most zero h = refl
  pressure-most (suc i) h =
      rw (
        pressure-held i (omega arith),
        ← (held-before c k i h),
        ← (held_after c k i h).1,
        pressure-most i (omega arith),
        largest-last (map_below (held_around c) i) (held_around c i),
      )
      (omega arith)

  -- no more values leave than are held
  pub pressure-enough : (i : ℕ) → i < length c.gates → departures c i (get_or c.gates i no_gate) ≤ (pressure_after c i).held + arrivals c i (get_or c.gates i no_gate)
  pressure-enough i h = omega (arith, pressure-held i (omega arith), held-before c k i h, (held_after c k i h).0)

  -- ---- the need

  pub outputs-need : count_references c (is_output c) ≤ need c
  unfolding need
  outputs-need = omega arith

-- the different numbers of a list, if all are below n
pub distinct-count : (os : List ℕ) (n : ℕ) → ((o : ℕ) → is_among o os ≡ true → o < n) → count_distinct os ≡ count_below (λ v. is_among v os) n
unfolding count_distinct is_among
distinct-count [] n h = sym (count_none _ n (λ v. refl))
distinct-count (o ∷ os) n h = go (is_among o os) refl (distinct-count os n (λ x e. h x (among-tail x o os e)))
  where
    go : (b : Bool) → is_among o os ≡ b → count_distinct os ≡ count_below (λ v. is_among v os) n
        → first b (count_distinct os) (count_distinct os + 1) ≡ count_below (λ v. eqb v o || is_among v os) n
    go true e ih = ih ∙ sym (count_same _ _ n (λ v l. added-there (λ x. is_among x os) o e v))
    go false e ih =
        omega (arith, count-more (λ v. is_among v os) (λ v. eqb v o || is_among v os) o n (h o (among-head o os)) e (rw (eq-eqb o o refl)) (λ v ne. rw (ne_eqb v o ne)))

distinct-outputs : (c : Circuit) → Trimmed c → count_distinct c.outputs ≡ count_references c (is_output c)
distinct-outputs c k = distinct-count c.outputs (references c) k.valid.outputs-below

pub linear-need : (c : Circuit) → Trimmed c → linear_need c ≡ need c
unfolding linear_need need
linear-need c k = ap₂ max (pressure-most c k (length c.gates) (omega arith)) (distinct-outputs c k)
