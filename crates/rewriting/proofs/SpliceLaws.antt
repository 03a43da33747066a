-- Gates put in the place of one gate: every other reference keeps its value where the gate's new reference has the gate's value. Over any
-- carrier and operation. Assumes nothing.
use mathlib.Core.Path.{◌≡◌, sym, ap, ◌∙◌}
use mathlib.Core.List.{List, [], ◌∷◌, ◌++◌, map}
use Prim.Native.Nat.{ℕ, suc, ◌+◌, ◌-◌, ◌≤◌, ◌<◌}
use native.Mathlib.Nat.{add-zero}
use native.Mathlib.Decide.{dec_lt}
use native.Mathlib.Omega.{arith}
use lib.ListN.{length, get_or, length-map}
use Rattle.circuit.specs.Circuit.{Gate}
use Rattle.circuit.specs.Each.{EachGate}
use Rattle.circuit.specs.Fold.{fold_gates}
use Rattle.circuit.specs.Valuation.{Ordered, Solves}
use Rattle.circuit.specs.Trim.{rename_gate}
use Rattle.circuit.proofs.EachLaws.{each_map}
use Rattle.circuit.proofs.FoldLaws.{simulation, fold-solves, fold-keeps-start}

-- ---- what holds of each gate, of joined lists and of renamed gates

module _ (P : ℕ → Gate → Type 0) where
  pub each-join : (n : ℕ) (gs hs : List Gate) → EachGate P n gs → EachGate P (n + length gs) hs → EachGate P n (gs ++ hs)
  each-join n [] hs a b = rw add-zero at b
  each-join n (g ∷ gs) hs a b =
      let e : n + suc (length gs) ≡ suc n + length gs = omega arith in
      (a.0, each-join (suc n) gs hs a.1 (rw e at b))

  pub each_left : (n : ℕ) (gs hs : List Gate) → EachGate P n (gs ++ hs) → EachGate P n gs
  each_left n [] hs a = tt
  each_left n (g ∷ gs) hs a = (a.0, each_left (suc n) gs hs a.1)

  pub each_right : (n : ℕ) (gs hs : List Gate) → EachGate P n (gs ++ hs) → EachGate P (n + length gs) hs
  each_right n [] hs a = rw add-zero a
  each_right n (g ∷ gs) hs a =
      let e : n + suc (length gs) ≡ suc n + length gs = omega arith in
      rw e (each_right (suc n) gs hs a.1)

  -- of gates that are renamed, all references from the first on being moved by one distance; and the other way round
  module _ (ρ : ℕ → ℕ) where
    abbrev Moves : (n n' : ℕ) → Type 0
    Moves n n' = (i : ℕ) → ρ (n + i) ≡ n' + i

    moves-first : (n n' : ℕ) → Moves n n' → ρ n ≡ n'
    moves-first n n' e = ap ρ (sym (add-zero n)) ∙ e 0 ∙ add-zero n'

    moves-rest : (n n' : ℕ) → Moves n n' → Moves (suc n) (suc n')
    moves-rest n n' e i = let q : suc n + i ≡ n + suc i = omega arith in ap ρ q ∙ e (suc i) ∙ omega arith

    pub each-rename : (n n' : ℕ) (gs : List Gate) → Moves n n' → EachGate (λ m g. P (ρ m) (rename_gate ρ g)) n gs
        → EachGate P n' (map (rename_gate ρ) gs)
    each-rename n n' [] e a = tt
    each-rename n n' (g ∷ gs) e a = (rw (moves-first n n' e) at a.0, each-rename (suc n) (suc n') gs (moves-rest n n' e) a.1)

    pub each-unrename : (n n' : ℕ) (gs : List Gate) → Moves n n' → EachGate P n' (map (rename_gate ρ) gs)
        → EachGate (λ m g. P (ρ m) (rename_gate ρ g)) n gs
    each-unrename n n' [] e a = tt
    each-unrename n n' (g ∷ gs) e a = (rw (moves-first n n' e) a.0, each-unrename (suc n) (suc n') gs (moves-rest n n' e) a.1)

-- gates that are ordered stay so where ρ takes what is below the first below its new place, and moves what is later by one distance
pub ordered-rename : (ρ : ℕ → ℕ) (n n' : ℕ) (gs : List Gate) → ((v : ℕ) → v < n → ρ v < n') → ((i : ℕ) → ρ (n + i) ≡ n' + i) → Ordered n gs
    → Ordered n' (map (rename_gate ρ) gs)
ordered-rename ρ n n' gs low high ok =
    each-rename _ ρ n n' gs high (each_map n gs ok (λ m g h l. (below g.left m h l.0, below g.right m h l.1)))
  where
    at : (v : ℕ) → n ≤ v → ρ v ≡ n' + (v - n)
    at v h = let e : v ≡ n + (v - n) = omega arith in ap ρ e ∙ high (v - n)

    below : (a m : ℕ) → n ≤ m → a < m → ρ a < ρ m
    below a m h l =
        elim (dec_lt a n) [
          | yes k ↦ omega (arith, low a k, at m h)
          | no k ↦ let k' : n ≤ a = omega arith in omega (arith, at a k', at m h)
        ]

-- ---- the splice

-- The gates `before ++ g ∷ behind` begin with reference n, and g is reference `gate`; the gates `rights`, whose first is reference m on
-- their own side, take its place. β takes a reference of theirs to its new place, ρ one of the others.
pub record Splice (n gate : ℕ) (before : List Gate) (g : Gate) (behind : List Gate) (m : ℕ) (rights : List Gate) (β ρ : ℕ → ℕ) : Type 0 where
  pub place : n + length before ≡ gate
  pub ordered : Ordered n (before ++ g ∷ behind)
  pub rights-ordered : Ordered m rights
  pub low_below : (r : ℕ) → r < m → β r < gate
  pub rights-from : (i : ℕ) → β (m + i) ≡ gate + i
  pub stays : (v : ℕ) → v < gate → ρ v ≡ v
  pub gate-below : ρ gate < gate + length rights
  pub later : (i : ℕ) → ρ (suc gate + i) ≡ gate + length rights + i

module _ {n gate : ℕ} {before : List Gate} {g : Gate} {behind : List Gate} {m : ℕ} {rights : List Gate} {β ρ : ℕ → ℕ}
    (s : Splice n gate before g behind m rights β ρ) where
  abbrev pub spliced : List Gate
  spliced = before ++ (map (rename_gate β) rights ++ map (rename_gate ρ) behind)

  -- what holds of the new gates, part by part, and the other way round
  pub splice-each : (P : ℕ → Gate → Type 0) → EachGate P n before → EachGate P gate (map (rename_gate β) rights)
      → EachGate P (gate + length rights) (map (rename_gate ρ) behind) → EachGate P n spliced
  splice-each P a b c =
      each-join P n before _ a (rw s.place (each-join P gate (map (rename_gate β) rights) _ b (rw (length-map rights (rename_gate β)) c)))

  rest : (P : ℕ → Gate → Type 0) → EachGate P n spliced → EachGate P gate (map (rename_gate β) rights ++ map (rename_gate ρ) behind)
  rest P a = rw s.place at (each_right P n before _ a)

  rights-part : (P : ℕ → Gate → Type 0) → EachGate P n spliced → EachGate P gate (map (rename_gate β) rights)
  rights-part P a = each_left P gate (map (rename_gate β) rights) (map (rename_gate ρ) behind) (rest P a)

  behind-part : (P : ℕ → Gate → Type 0) → EachGate P n spliced → EachGate P (gate + length rights) (map (rename_gate ρ) behind)
  behind-part P a = rw (length-map rights (rename_gate β)) at (each_right P gate (map (rename_gate β) rights) _ (rest P a))

  -- of the old gates
  pub old-behind : (P : ℕ → Gate → Type 0) → EachGate P n (before ++ g ∷ behind) → EachGate P (suc gate) behind
  old-behind P a = let x : EachGate P gate (g ∷ behind) = rw s.place at (each_right P n before (g ∷ behind) a) in x.1

  pub splice-ordered : Ordered n spliced
  splice-ordered =
      splice-each _ (each_left _ n before (g ∷ behind) s.ordered) (ordered-rename β m gate rights s.low_below s.rights-from s.rights-ordered)
      (ordered-rename ρ (suc gate) (gate + length rights) behind below s.later (old-behind _ s.ordered))
    where
      below : (v : ℕ) → v < suc gate → ρ v < gate + length rights
      below v h =
          elim (dec_lt v gate) [
            | yes k ↦ omega (arith, s.stays v k)
            | no k ↦ let e : v ≡ gate = omega arith in rw e s.gate-below
          ]

  module _ {A : Type 0} (op : ℕ → A → A → A) (z : A) (start : List A) (l : length start ≡ n) where
    abbrev old : ℕ → A
    old r = get_or (fold_gates op z (before ++ g ∷ behind) start) r z

    abbrev new : ℕ → A
    new r = get_or (fold_gates op z spliced start) r z

    old-solves : Solves op old n (before ++ g ∷ behind)
    old-solves = fold-solves A op z (before ++ g ∷ behind) start n l s.ordered

    new-solves : Solves op new n spliced
    new-solves = fold-solves A op z spliced start n l splice-ordered

    -- below the gate nothing changes
    pub splice-before : (r : ℕ) → r < gate → new r ≡ old r
    splice-before r h =
        simulation A op (λ r. Unit {0}) (λ r. r) old new n before (each_left _ n before _ s.ordered) (each_left _ n before _ old-solves)
        (each_map n before (each_left _ n before _ new-solves) (λ m g h e w. (tt, tt, e)))
        (λ r k w. (fold-keeps-start A op z spliced start).1 r (omega arith) ∙ sym ((fold-keeps-start A op z (before ++ g ∷ behind) start).1 r (omega arith)))
        r (omega (arith, s.place)) tt

    -- the new gates have the values of their own side
    pub splice-rights : (values : List A) → length values ≡ m → ((r : ℕ) → r < m → old (β r) ≡ get_or values r z)
        → (r : ℕ) → r < m + length rights → new (β r) ≡ get_or (fold_gates op z rights values) r z
    splice-rights values k e r h =
        simulation A op (λ r. Unit {0}) β (λ r. get_or (fold_gates op z rights values) r z) new m rights s.rights-ordered
        (fold-solves A op z rights values m k s.rights-ordered)
        (each_map m rights (each-unrename _ β m gate rights s.rights-from (rights-part _ new-solves)) (λ m g h e w. (tt, tt, e)))
        (λ r i w. splice-before (β r) (s.low_below r i) ∙ e r i ∙ sym ((fold-keeps-start A op z rights values).1 r (omega arith)))
        r h tt

    -- where the gate's new reference has the gate's value, every reference keeps its value
    pub splice-value : new (ρ gate) ≡ old gate → (r : ℕ) → r < suc gate + length behind → new (ρ r) ≡ old r
    splice-value e r h =
        simulation A op (λ r. Unit {0}) ρ old new (suc gate) behind (old-behind _ s.ordered) (old-behind _ old-solves)
        (each_map (suc gate) behind (each-unrename _ ρ (suc gate) (gate + length rights) behind s.later (behind-part _ new-solves)) (λ m g h e w. (tt, tt, e)))
        (λ r k w. elim (dec_lt r gate) [
          | yes i ↦ rw (s.stays r i) (splice-before r i)
          | no i ↦ let q : r ≡ gate = omega arith in rw q e
        ])
        r h tt
