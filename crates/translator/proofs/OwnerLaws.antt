-- Registers and their owners: who is in which, and which are free. Assumes nothing.
use mathlib.Core.Path.{◌≡◌, refl, sym, ap, ap₂, ◌∙◌}
use mathlib.Core.Logic.{◌≢◌}
use mathlib.Core.Bool.{Bool, true, false, true≢false, ◌||◌, or-true, or-false, or_assoc, or_comm}
use mathlib.Core.List.{List, [], ◌∷◌, ◌++◌, map}
use Prim.Native.Nat.{ℕ, zero, suc, ◌≤◌, ◌<◌}
use native.Mathlib.Nat.{not-suc-le-zero, le_of_suc-le-suc, suc_inj, suc-ne-zero}
use native.Mathlib.Decide.{dec_lt, ℕ_discrete}
use native.Mathlib.Omega.{arith}
use lib.Dec.{eqb}
use lib.ListN.{length, get_or, set, length-set, length-append, get_or-append, get_or-eq_default}
use lib.Seq.{get_or-set_same, get_or-set_other, get_or-append_seam}
use borrow.Author.Tests.{eq-eqb, ne_eqb, eqb-true}
use Rattle.lists.specs.First.{first}
use Rattle.circuit.specs.Path.{is_among}
use Rattle.circuit.proofs.ValidLaws.{among-head, among-tail}
use Rattle.translator.specs.Place.{place_in}
use Rattle.translator.specs.Allocation.{register_of, next_register, owners_with}

suc-eqb : (a b : ℕ) → eqb (suc a) (suc b) ≡ eqb a b
suc-eqb a b =
    elim (ℕ_discrete a b) [
      | yes e ↦ eq-eqb (suc a) (suc b) (ap suc e) ∙ sym (eq-eqb a b e)
      | no e ↦ ne_eqb (suc a) (suc b) (λ q. e (suc_inj q)) ∙ sym (ne_eqb a b e)
    ]

or_swap : (a b c : Bool) → a || (b || c) ≡ b || (a || c)
or_swap true b c = sym (or-true b)
or_swap false b c = refl

-- ---- who is among the owners

-- the register that holds v
pub register-at : (ws : List ℕ) (v : ℕ) → is_among (suc v) ws ≡ true → (get_or ws (register_of ws v) 0 ≡ suc v) × (register_of ws v < length ws)
unfolding is_among place_in
register-at [] v e = absurd (true≢false (sym e))
register-at (w ∷ ws) v e = go (eqb (suc v) w) refl (register-at ws v)
  where
    go : (b : Bool) → eqb (suc v) w ≡ b → (is_among (suc v) ws ≡ true → (get_or ws (register_of ws v) 0 ≡ suc v) × (register_of ws v < length ws))
        → (get_or (w ∷ ws) (first b 0 (suc (register_of ws v))) 0 ≡ suc v) × (first b 0 (suc (register_of ws v)) < length (w ∷ ws))
    go true q ih = (sym (eqb-true (suc v) w q), omega arith)
    go false q ih = let r = ih (rw q at e) in (r.0, omega (arith, r.1))

pub among-at : (ws : List ℕ) (d v : ℕ) → get_or ws d 0 ≡ suc v → is_among (suc v) ws ≡ true
among-at [] d v e = absurd (suc-ne-zero v (sym e))
among-at (w ∷ ws) zero v e = rw e (among-head (suc v) ws)
among-at (w ∷ ws) (suc d) v e = among-tail (suc v) w ws (among-at ws d v e)

pub among-element : (ws : List ℕ) (j : ℕ) → j < length ws → is_among (get_or ws j 0) ws ≡ true
among-element [] j h = absurd (not-suc-le-zero h)
among-element (w ∷ ws) zero h = among-head w ws
among-element (w ∷ ws) (suc j) h = among-tail (get_or ws j 0) w ws (among-element ws j (le_of_suc-le-suc h))

pub among-append : (x : ℕ) (xs ys : List ℕ) → is_among x (xs ++ ys) ≡ is_among x xs || is_among x ys
unfolding is_among
among-append x [] ys = refl
among-append x (y ∷ xs) ys = ap (λ b. eqb x y || b) (among-append x xs ys) ∙ sym (or_assoc (eqb x y) (is_among x xs) (is_among x ys))

pub among-last : (x : ℕ) (ws : List ℕ) (w : ℕ) → is_among x (ws ++ (w ∷ [])) ≡ eqb x w || is_among x ws
unfolding is_among
among-last x ws w = among-append x ws (w ∷ []) ∙ ap (λ b. is_among x ws || b) (or-false (eqb x w)) ∙ or_comm (is_among x ws) (eqb x w)

-- two functions that agree on the members of a list
pub map-among : {B : Type 0} (f g : ℕ → B) (os : List ℕ) → ((o : ℕ) → is_among o os ≡ true → f o ≡ g o) → map f os ≡ map g os
map-among f g [] e = refl
map-among f g (o ∷ os) e = ap₂ ◌∷◌ (e o (among-head o os)) (map-among f g os (λ x l. e x (among-tail x o os l)))

-- a free register is taken, or a register used for the first time
pub taken-among : (ws : List ℕ) (d x v : ℕ) → get_or ws d 0 ≡ 0 → d < length ws → is_among (suc v) (set ws d (suc x)) ≡ eqb v x || is_among (suc v) ws
unfolding is_among
taken-among [] d x v e h = absurd (not-suc-le-zero h)
taken-among (w ∷ ws) zero x v e h =
    let z : eqb (suc v) w ≡ false = ne_eqb (suc v) w (λ q. suc-ne-zero v (q ∙ e)) in
    rw (suc-eqb v x, z)
taken-among (w ∷ ws) (suc d) x v e h =
    ap (λ b. eqb (suc v) w || b) (taken-among ws d x v e (le_of_suc-le-suc h)) ∙ or_swap (eqb (suc v) w) (eqb v x) (is_among (suc v) ws)

pub fresh-among : (ws : List ℕ) (x v : ℕ) → is_among (suc v) (ws ++ (suc x ∷ [])) ≡ eqb v x || is_among (suc v) ws
fresh-among ws x v = among-last (suc v) ws (suc x) ∙ ap (λ b. b || is_among (suc v) ws) (suc-eqb v x)

-- a register is freed: who is in a register then was there before, and nobody else leaves
pub freed-owner : (ws : List ℕ) (e d v : ℕ) → get_or (set ws e 0) d 0 ≡ suc v → get_or ws d 0 ≡ suc v
freed-owner [] e d v h = h
freed-owner (w ∷ ws) zero zero v h = absurd (suc-ne-zero v (sym h))
freed-owner (w ∷ ws) zero (suc d) v h = h
freed-owner (w ∷ ws) (suc e) zero v h = h
freed-owner (w ∷ ws) (suc e) (suc d) v h = freed-owner ws e d v h

pub freed-among : (ws : List ℕ) (e v : ℕ) → is_among (suc v) (set ws e 0) ≡ true → is_among (suc v) ws ≡ true
freed-among ws e v a =
    let d = register_of (set ws e 0) v in
    among-at ws d v (freed-owner ws e d v (register-at (set ws e 0) v a).0)

pub freed-other : (ws : List ℕ) (d x v : ℕ) → get_or ws d 0 ≡ suc x → v ≢ x → is_among (suc v) ws ≡ true → is_among (suc v) (set ws d 0) ≡ true
freed-other ws d x v e ne a =
    let r = (register-at ws v a).0 in
    among-at (set ws d 0) (register_of ws v) v
    (get_or-set_other ws d (register_of ws v) 0 0 (λ q. ne (suc_inj (sym r ∙ ap (λ j. get_or ws j 0) q ∙ e))) ∙ r)

pub freed-empty : (ws : List ℕ) (d : ℕ) → get_or (set ws d 0) d 0 ≡ 0
freed-empty [] d = refl
freed-empty (w ∷ ws) zero = refl
freed-empty (w ∷ ws) (suc d) = freed-empty ws d

-- ---- the free registers: they were used before, nobody is in them, and none is listed twice

abbrev pub Free : (owners freed : List ℕ) → Type 0
Free ws [] = Unit {0}
Free ws (d ∷ ds) = (d < length ws) × (get_or ws d 0 ≡ 0) × (is_among d ds ≡ false) × Free ws ds

-- a store into another register
pub free-set : (ws : List ℕ) (e w : ℕ) (ds : List ℕ) → is_among e ds ≡ false → Free ws ds → Free (set ws e w) ds
unfolding is_among
free-set ws e w [] out f = tt
free-set ws e w (d ∷ ds) out f = (
  rw length-set f.0,
  get_or-set_other ws e d w 0 (λ q. other q) ∙ f.1,
  f.2,
  free-set ws e w ds (go (eqb e d) out) f.3,
)
  where
    go : (b : Bool) → b || is_among e ds ≡ false → is_among e ds ≡ false
    go true q = absurd (true≢false q)
    go false q = q

    other : d ≡ e → ⊥
    other q = true≢false (sym (rw (eq-eqb e d (sym q))) ∙ out)

-- a register that somebody is in is not free
pub free-out : (ws : List ℕ) (e v : ℕ) (ds : List ℕ) → get_or ws e 0 ≡ suc v → Free ws ds → is_among e ds ≡ false
unfolding is_among
free-out ws e v [] h f = refl
free-out ws e v (d ∷ ds) h f =
    let ne : eqb e d ≡ false = ne_eqb e d (λ q. suc-ne-zero v (sym h ∙ ap (λ j. get_or ws j 0) q ∙ f.1)) in
    rw ne (free-out ws e v ds h f.3)

-- ---- the register that is taken next

module _ (v : ℕ) where
  pub owners-next : (ws ds : List ℕ) → Free ws ds → get_or (owners_with v ws ds) (next_register ws ds) 0 ≡ suc v
  owners-next ws [] f = get_or-append_seam ws (suc v) [] 0
  owners-next ws (d ∷ ds) f = get_or-set_same ws d (suc v) 0 f.0

  pub owners-other : (ws ds : List ℕ) (d : ℕ) → d ≢ next_register ws ds → get_or (owners_with v ws ds) d 0 ≡ get_or ws d 0
  owners-other ws [] d ne =
      elim (dec_lt d (length ws)) [
        | yes l ↦ get_or-append ws (suc v ∷ []) 0 d l
        | no l ↦
            get_or-eq_default (ws ++ (suc v ∷ [])) 0 {n = d} (omega (arith, length-append ws (suc v ∷ [])))
            ∙ sym (get_or-eq_default ws 0 {n = d} (omega arith))
      ]
  owners-other ws (e ∷ ds) d ne = get_or-set_other ws e d (suc v) 0 ne

  pub next-inside : (ws ds : List ℕ) → Free ws ds → next_register ws ds < length (owners_with v ws ds)
  next-inside ws [] f = omega (arith, length-append ws (suc v ∷ []))
  next-inside ws (d ∷ ds) f = rw length-set f.0

  pub owners-grow : (ws ds : List ℕ) → length ws ≤ length (owners_with v ws ds)
  owners-grow ws [] = omega (arith, length-append ws (suc v ∷ []))
  owners-grow ws (d ∷ ds) = omega (arith, length-set ws d (suc v))
