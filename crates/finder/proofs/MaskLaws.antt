-- A mask's bits, the matches of the search, and how large the mask is that it finds. Assumes nothing.
use mathlib.Core.Path.{◌≡◌, refl, sym, ap, ap₂, ◌∙◌}
use mathlib.Core.Bool.{Bool, true, false, true≢false}
use mathlib.Core.List.{List, ◌∷◌, map}
use mathlib.Core.Option.{Option, none, some, bind}
use Prim.Native.Nat.{ℕ, zero, suc, ◌+◌, ◌-◌, ◌*◌, ◌/◌, ◌%◌, ◌^◌, ◌≤◌, ◌<◌}
use native.Mathlib.Nat.{pow-suc, mul-add-div}
use native.Mathlib.Omega.{arith}
use native.Mathlib.Decide.{dec_lt}
use lib.Dec.{eqb}
use lib.Pow.{pow_pos, pow-add, high}
use borrow.Author.Tests.{eq-eqb, ne_eqb}
use Rattle.lists.specs.First.{first}
use Rattle.circuit.specs.Circuit.{Circuit}
use Rattle.rules.specs.Soundness.{bit}
use Rattle.rules.specs.Rule.{Rule}
use Rattle.rules.specs.Match.{match_left, is_swapped, match_gates}
use Rattle.finder.specs.Search.{Searched, trial, crossed, events, first_match, has, within}
use Rattle.finder.proofs.EventLaws.{first-has, first-zero, has-append, has-trial, crossed-low, crossed-high, IsLeast, least-crossed, least-append}
use Rattle.finder.proofs.LimitLaws.{within-limit, beyond-limit, found_after}

-- bits of a mask below 2 ^ i, and of one with bit i set
bit-beyond : (i m : ℕ) → m < 2 ^ i → bit i m ≡ 0
bit-beyond i m l =
    let e : 0 * 2 ^ i + m ≡ m = omega arith in
    ap (λ (x : ℕ). x % 2) (ap (λ (x : ℕ). x / 2 ^ i) (sym e) ∙ high 0 i l)

bit-set : (i m : ℕ) → m < 2 ^ i → bit i (2 ^ i + m) ≡ 1
bit-set i m l =
    let e : 1 * 2 ^ i + m ≡ 2 ^ i + m = omega arith in
    ap (λ (x : ℕ). x % 2) (ap (λ (x : ℕ). x / 2 ^ i) (sym e) ∙ high 1 i l)

bit_below : (i m k : ℕ) → k < i → bit k (2 ^ i + m) ≡ bit k m
bit_below i m k l =
    let j : ℕ = i - suc k in
    let e : i ≡ k + suc j = omega arith in
    let p : 2 ^ i ≡ 2 ^ k * 2 ^ suc j = ap (λ (x : ℕ). 2 ^ x) e ∙ pow-add 2 k (suc j) in
    let q : (2 ^ i + m) / 2 ^ k ≡ 2 ^ suc j + m / 2 ^ k = ap (λ (x : ℕ). (x + m) / 2 ^ k) p ∙ mul-add-div (pow_pos k) (2 ^ suc j) m in
    let r : (2 ^ suc j + m / 2 ^ k) % 2 ≡ m / 2 ^ k % 2 = even (2 ^ j) (2 ^ suc j) (m / 2 ^ k) (pow-suc 2 j) in
    ap (λ (x : ℕ). x % 2) q ∙ r
  where
    even : (a b c : ℕ) → b ≡ a * 2 → (b + c) % 2 ≡ c % 2
    even a b c e = omega arith

-- ---- masks that agree below i match alike

bind-alike : (o : Option (List ℕ)) (f g : List ℕ → Option (List ℕ)) → ((b : List ℕ) → f b ≡ g b) → bind o f ≡ bind o g
unfolding bind
bind-alike none f g e = refl
bind-alike (some b) f g e = e b

gates-alike : (c : Circuit) (u : Rule) (m n i : ℕ) → ((k : ℕ) → k < i → bit k m ≡ bit k n) → (b : List ℕ) → match_gates c u m i b ≡ match_gates c u n i b
unfolding match_gates
gates-alike c u m n zero e b = refl
gates-alike c u m n (suc i) e b =
    ap (λ (x : ℕ). bind (match_left c u i (eqb x 1) b) (match_gates c u m i)) (e i (omega arith))
    ∙ bind-alike (match_left c u i (is_swapped n i) b) (match_gates c u m i) (match_gates c u n i)
    (gates-alike c u m n i (λ k l. e k (omega arith)))

-- ---- the matches of the search

abbrev pub is_some : Option (List ℕ) → Bool
is_some none = false
is_some (some b) = true

module _ (c : Circuit) (u : Rule) where
  has-step : (m i : ℕ) (b : List ℕ)
      → has m (events c u (suc i) (some b)) ≡ first (has m (events c u i (match_left c u i false b))) true (has m (map (crossed (2 ^ i)) (events c u i (match_left c u i true b))))
  unfolding events
  has-step m i b =
      has-append m (trial ∷ events c u i (match_left c u i false b)) (trial ∷ map (crossed (2 ^ i)) (events c u i (match_left c u i true b)))
      ∙ ap₂ (λ (x y : Bool). first x true y) (has-trial m (events c u i (match_left c u i false b))) (has-trial m (map (crossed (2 ^ i)) (events c u i (match_left c u i true b))))

  or-none : (a : Bool) → first a true false ≡ a
  or-none true = refl
  or-none false = refl

  pub beyond : (i m : ℕ) (o : Option (List ℕ)) → 2 ^ i ≤ m → has m (events c u i o) ≡ false
  unfolding events has
  beyond zero m none l = refl
  beyond zero m (some b) l = rw (ne_eqb m 0 (λ e. omega arith))
  beyond (suc i) m none l = refl
  beyond (suc i) m (some b) l =
      let k : ℕ = m - 2 ^ i in
      let p : 2 ^ suc i ≡ 2 ^ i * 2 = pow-suc 2 i in
      let s : 2 ^ i + k ≡ m = omega arith in
      has-step m i b
      ∙ ap₂ (λ (x y : Bool). first x true y) (beyond i m (match_left c u i false b) (omega arith))
      (ap (λ (x : ℕ). has x (map (crossed (2 ^ i)) (events c u i (match_left c u i true b)))) (sym s) ∙ crossed-high k (2 ^ i) (events c u i (match_left c u i true b)) ∙ beyond i k (match_left c u i true b) (omega arith))

  pub has-match : (i m : ℕ) (o : Option (List ℕ)) → m < 2 ^ i → has m (events c u i o) ≡ is_some (bind o (match_gates c u m i))
  unfolding events has bind match_gates
  has-match zero m none l = refl
  has-match zero m (some b) l = rw (eq-eqb m 0 (omega arith))
  has-match (suc i) m none l = refl
  has-match (suc i) m (some b) l =
      elim (dec_lt m (2 ^ i)) [
        | yes a ↦
            has-step m i b
            ∙ ap₂ (λ (x y : Bool). first x true y) (has-match i m (match_left c u i false b) a) (crossed-low m (2 ^ i) (events c u i (match_left c u i true b)) a)
            ∙ or-none (is_some (bind (match_left c u i false b) (match_gates c u m i)))
            ∙ ap (λ (x : ℕ). is_some (bind (match_left c u i (eqb x 1) b) (match_gates c u m i))) (sym (bit-beyond i m a))
        | no a ↦
            let k : ℕ = m - 2 ^ i in
            let p : 2 ^ suc i ≡ 2 ^ i * 2 = pow-suc 2 i in
            let s : 2 ^ i + k ≡ m = omega arith in
            let h : k < 2 ^ i = omega arith in
            has-step m i b
            ∙ ap₂ (λ (x y : Bool). first x true y) (beyond i m (match_left c u i false b) (omega arith))
            (ap (λ (x : ℕ). has x (map (crossed (2 ^ i)) (events c u i (match_left c u i true b)))) (sym s)
            ∙ crossed-high k (2 ^ i) (events c u i (match_left c u i true b))
            ∙ has-match i k (match_left c u i true b) h)
            ∙ ap is_some (bind-alike (match_left c u i true b) (match_gates c u k i) (match_gates c u m i) (gates-alike c u k m i (λ j l. sym (bit_below i k j l) ∙ ap (bit j) s)))
            ∙ ap (λ (x : ℕ). is_some (bind (match_left c u i (eqb x 1) b) (match_gates c u m i))) (sym (ap (bit i) (sym s) ∙ bit-set i k h))
      ]

  pub least : (i : ℕ) (o : Option (List ℕ)) → IsLeast (events c u i o)
  unfolding events first_match has
  least zero none e m l = absurd (true≢false (sym e))
  least zero (some b) e m l = let z : ⊥ = omega arith in absurd z
  least (suc i) none e m l = absurd (true≢false (sym e))
  least (suc i) (some b) e m l =
      least-append (2 ^ i) (trial ∷ events c u i (match_left c u i false b)) (trial ∷ map (crossed (2 ^ i)) (events c u i (match_left c u i true b)))
      (least i (match_left c u i false b)) (least-crossed (2 ^ i) (events c u i (match_left c u i true b)) (least i (match_left c u i true b)))
      (λ m l. beyond i m (match_left c u i false b) l) (λ m l. crossed-low m (2 ^ i) (events c u i (match_left c u i true b)) l) e m l

  -- the mask that is found is within the gates to go
  mask_below : (i : ℕ) (o : Option (List ℕ)) → (found_after c u i o).mask < 2 ^ i
  mask_below i o = go (found_after c u i o).matched refl
    where
      go : (t : Bool) → (found_after c u i o).matched ≡ t → (found_after c u i o).mask < 2 ^ i
      go false e = omega (arith, first-zero (events c u i o) e, pow_pos i)
      go true e =
          elim (dec_lt (found_after c u i o).mask (2 ^ i)) [
            | yes l ↦ l
            | no l ↦ absurd (true≢false (sym (first-has (events c u i o) e) ∙ beyond i (found_after c u i o).mask o (omega arith)))
          ]

  pub mask-small : (i n : ℕ) (o : Option (List ℕ)) (f : Searched) → f ≡ within n (found_after c u i o) → f.mask < 2 ^ i
  mask-small i n o f e =
      elim (dec_lt n (found_after c u i o).ways) [
        | yes l ↦ omega (arith, ap (λ (x : Searched). x.mask) (e ∙ beyond-limit n (found_after c u i o) l), pow_pos i)
        | no l ↦ omega (arith, ap (λ (x : Searched). x.mask) (e ∙ within-limit n (found_after c u i o) (omega arith)), mask_below i o)
      ]
