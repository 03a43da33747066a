-- A search that stops as soon as it passes the limit, step by step: it finds what the compare of the whole search with the limit says.
-- Assumes nothing.
use mathlib.Core.Path.{◌≡◌, refl, sym, ap, ap₂, ◌∙◌}
use mathlib.Core.Bool.{Bool, true, false, false≢true}
use mathlib.Core.List.{List, ◌∷◌, map}
use mathlib.Core.Option.{Option, none, some}
use Prim.Native.Nat.{ℕ, zero, suc, ◌+◌, ◌-◌, ◌^◌, ◌≤◌, ◌<◌}
use native.Mathlib.Nat.{not-suc-le-zero}
use native.Mathlib.Omega.{arith}
use native.Mathlib.Decide.{dec_lt}
use borrow.Author.Tests.{lt-ltb, le-ltb}
use Rattle.lists.specs.First.{first}
use Rattle.circuit.specs.Circuit.{Circuit}
use Rattle.rules.specs.Rule.{Rule}
use Rattle.rules.specs.Match.{match_left}
use Rattle.finder.specs.Search.{Searched, trial, crossed, events, nothing, after, raised, first_match, over_limit, within}
use Rattle.finder.proofs.EventLaws.{joined, first-append, first-trial, first-crossed}

pub same : (f g : Searched) → f.matched ≡ g.matched → f.mask ≡ g.mask → f.ways ≡ g.ways → f ≡ g
same f g a b c = λ i. record { matched = a i; mask = b i; ways = c i }

-- ---- one compare

pub within-limit : (n : ℕ) (f : Searched) → f.ways ≤ n → within n f ≡ f
within-limit n f l = ap (λ (b : Bool). first b (over_limit n) f) (le-ltb n f.ways l)

pub beyond-limit : (n : ℕ) (f : Searched) → n < f.ways → within n f ≡ over_limit n
beyond-limit n f l = ap (λ (b : Bool). first b (over_limit n) f) (lt-ltb n f.ways l)

-- ---- what a part has found, f, of a search F that has n ways left for it

module _ (n : ℕ) (f F : Searched) (e : f ≡ within n F) where
  pub part_small : f.ways ≤ n + 1
  part_small =
      elim (dec_lt n F.ways) [
        | yes l ↦ let q = ap (λ (x : Searched). x.ways) (e ∙ beyond-limit n F l) in omega arith
        | no l ↦ let q = ap (λ (x : Searched). x.ways) (e ∙ within-limit n F (omega arith)) in omega arith
      ]

  -- a part with a match has all its ways within the limit
  part-matched : f.matched ≡ true → (f ≡ F) × (F.ways ≤ n)
  part-matched t =
      elim (dec_lt n F.ways) [
        | yes l ↦ absurd (false≢true (sym (ap (λ (x : Searched). x.matched) (e ∙ beyond-limit n F l)) ∙ t))
        | no l ↦ (e ∙ within-limit n F (omega arith), omega arith)
      ]

  -- and so has a part whose ways are within it
  pub part-whole : f.ways ≤ n → (f ≡ F) × (F.ways ≤ n)
  part-whole h =
      elim (dec_lt n F.ways) [
        | yes l ↦ let q = ap (λ (x : Searched). x.ways) (e ∙ beyond-limit n F l) in let z : ⊥ = omega arith in absurd z
        | no l ↦ (e ∙ within-limit n F (omega arith), omega arith)
      ]

  -- else the whole search has more
  part-over : n < f.ways → n < F.ways
  part-over h =
      elim (dec_lt n F.ways) [
        | yes l ↦ l
        | no l ↦ let q = ap (λ (x : Searched). x.ways) (e ∙ within-limit n F (omega arith)) in let z : ⊥ = omega arith in absurd z
      ]

-- ---- the two trials of a gate: F and G are what is found behind them, h is what the gate is worth

abbrev pub both : (h : ℕ) → Searched → Searched → Searched
both h F G = joined (after 1 F) (after 1 (raised h G))

joined-true : (f g : Searched) → f.matched ≡ true → joined f g ≡ f
joined-true f g t = ap (λ (b : Bool). first b f (after f.ways g)) t

joined-false : (f g : Searched) → f.matched ≡ false → joined f g ≡ after f.ways g
joined-false f g t = ap (λ (b : Bool). first b f (after f.ways g)) t

both_ways : (h : ℕ) (F G : Searched) → 1 + F.ways ≤ (both h F G).ways
both_ways h F G = go F.matched
  where
    go : (b : Bool) → 1 + F.ways ≤ (first b (after 1 F) (after (1 + F.ways) (after 1 (raised h G)))).ways
    go true = omega arith
    go false = omega arith

module _ (h n : ℕ) (F G : Searched) where
  -- no way is left
  both-spent : n ≡ 0 → over_limit n ≡ within n (both h F G)
  both-spent e = sym (beyond-limit n (both h F G) (omega (arith, both_ways h F G)))

  module _ (f : Searched) (e : f ≡ within (n - 1) F) (some_left : 0 < n) where
    -- a match behind the trial as written
    both-plain : f.matched ≡ true → record { matched = true; mask = f.mask; ways = f.ways + 1 } ≡ within n (both h F G)
    both-plain t =
        let p = part-matched (n - 1) f F e t in
        let T : F.matched ≡ true = sym (ap (λ (x : Searched). x.matched) p.0) ∙ t in
        let w = ap (λ (x : Searched). x.ways) p.0 in
        let l = p.1 in
        let v : f.ways + 1 ≡ 1 + F.ways = omega arith in
        same (record { matched = true; mask = f.mask; ways = f.ways + 1 }) (after 1 F) (sym T) (ap (λ (x : Searched). x.mask) p.0) v
        ∙ sym (within-limit n (after 1 F) (omega arith))
        ∙ ap (within n) (sym (joined-true (after 1 F) (after 1 (raised h G)) T))

    module _ (none_yet : f.matched ≡ false) where
      -- where all ways of the trial as written are within the limit, it has none
      whole : f.ways ≤ n - 1 → (f.ways ≡ F.ways) × (both h F G ≡ after (1 + F.ways) (after 1 (raised h G)))
      whole l =
          let p = part-whole (n - 1) f F e l in (
            ap (λ (x : Searched). x.ways) p.0,
            joined-false (after 1 F) (after 1 (raised h G)) (sym (ap (λ (x : Searched). x.matched) p.0) ∙ none_yet),
          )

      -- no way is left for the trial crosswise
      both-over : n ≤ f.ways + 1 → over_limit n ≡ within n (both h F G)
      both-over l = sym (beyond-limit n (both h F G) more)
        where
          more : n < (both h F G).ways
          more =
              elim (dec_lt (n - 1) f.ways) [
                | yes a ↦ omega (arith, part-over (n - 1) f F e a, both_ways h F G)
                | no a ↦
                    let p = whole (omega arith) in
                    let q = p.0 in
                    let w : (both h F G).ways ≡ 1 + F.ways + (1 + G.ways) = ap (λ (x : Searched). x.ways) p.1 in
                    omega arith
              ]

      module _ (room : f.ways + 1 < n) (g : Searched) (d : g ≡ within (n - (f.ways + 1) - 1) G) where
        -- the trial crosswise has what is left
        both_rest : after (f.ways + 1 + 1) (raised h g) ≡ within n (both h F G)
        both_rest =
            let p = whole (omega arith) in
            let q = p.0 in
            let W : (both h F G).ways ≡ 1 + F.ways + (1 + G.ways) = ap (λ (x : Searched). x.ways) p.1 in
            elim (dec_lt (n - (f.ways + 1) - 1) G.ways) [
              | yes l ↦
                  let s = d ∙ beyond-limit (n - (f.ways + 1) - 1) G l in
                  let w = ap (λ (x : Searched). x.ways) s in
                  let v : f.ways + 1 + 1 + g.ways ≡ n + 1 = omega arith in
                  same (after (f.ways + 1 + 1) (raised h g)) (over_limit n) (ap (λ (x : Searched). x.matched) s) (ap (λ (x : Searched). first x.matched (h + x.mask) 0) s) v
                  ∙ sym (beyond-limit n (both h F G) (omega arith))
              | no l ↦
                  let s = d ∙ within-limit (n - (f.ways + 1) - 1) G (omega arith) in
                  let w = ap (λ (x : Searched). x.ways) s in
                  let v : f.ways + 1 + 1 + g.ways ≡ 1 + F.ways + (1 + G.ways) = omega arith in
                  same (after (f.ways + 1 + 1) (raised h g)) (after (1 + F.ways) (after 1 (raised h G)))
                  (ap (λ (x : Searched). x.matched) s) (ap (λ (x : Searched). first x.matched (h + x.mask) 0) s) v
                  ∙ sym p.1
                  ∙ sym (within-limit n (both h F G) (omega arith))
            ]

-- ---- the search, with `left` gates to go

module _ (c : Circuit) (u : Rule) where
  abbrev pub found_after : (i : ℕ) (o : Option (List ℕ)) → Searched
  found_after i o = first_match (events c u i o)

  failed : (i : ℕ) → found_after i none ≡ nothing
  unfolding events first_match
  failed zero = refl
  failed (suc i) = refl

  -- after a trial that failed, and after one that was the last
  pub after-failed : (i n : ℕ) → nothing ≡ within n (found_after i none)
  after-failed i n = sym (ap (within n) (failed i) ∙ within-limit n nothing (omega arith))

  pub after-last : (i n : ℕ) (b : List ℕ) → i ≡ 0 → record { matched = true; mask = 0; ways = 0 } ≡ within n (found_after i (some b))
  unfolding events first_match
  after-last i n b e =
      sym (ap (λ (k : ℕ). within n (found_after k (some b))) e ∙ within-limit n (record { matched = true; mask = 0; ways = 0 }) (omega arith))

  step : (i : ℕ) (b : List ℕ)
      → found_after (suc i) (some b) ≡ both (2 ^ i) (found_after i (match_left c u i false b)) (found_after i (match_left c u i true b))
  unfolding events
  step i b =
      let xs = events c u i (match_left c u i false b) in
      let ys = map (crossed (2 ^ i)) (events c u i (match_left c u i true b)) in
      first-append (trial ∷ xs) (trial ∷ ys)
      ∙ ap₂ joined (first-trial xs) (first-trial ys ∙ ap (after 1) (first-crossed (2 ^ i) (events c u i (match_left c u i true b))))

  -- x and y are what the trials of gate left - 1 leave, as written and crosswise
  pub next-gate : (left : ℕ) (b : List ℕ) (x y : Option (List ℕ)) → 0 < left
      → x ≡ match_left c u (left - 1) false b → y ≡ match_left c u (left - 1) true b
      → both (2 ^ (left - 1)) (found_after (left - 1) x) (found_after (left - 1) y) ≡ found_after left (some b)
  next-gate zero b x y l ex ey = absurd (not-suc-le-zero l)
  next-gate (suc i) b x y l ex ey =
      let s : suc i - 1 ≡ i = omega arith in
      ap₂ (λ (v w : Option (List ℕ)). both (2 ^ (suc i - 1)) (found_after (suc i - 1) v) (found_after (suc i - 1) w)) ex ey
      ∙ ap (λ (k : ℕ). both (2 ^ k) (found_after k (match_left c u k false b)) (found_after k (match_left c u k true b))) s
      ∙ sym (step i b)

-- ---- the search that stops at the limit n, by its branches: f is what it has found behind the trial as written of gate left - 1

module _ (c : Circuit) (u : Rule) (left n : ℕ) (b : List ℕ) (some_left : 0 < left) where
  pub find-spent : n ≡ 0 → over_limit n ≡ within n (found_after c u left (some b))
  find-spent e =
      both-spent (2 ^ (left - 1)) n (found_after c u (left - 1) (match_left c u (left - 1) false b)) (found_after c u (left - 1) (match_left c u (left - 1) true b)) e
      ∙ ap (within n) (next-gate c u left b (match_left c u (left - 1) false b) (match_left c u (left - 1) true b) some_left refl refl)

  module _ (x : Option (List ℕ)) (ex : x ≡ match_left c u (left - 1) false b) (f : Searched) (e : f ≡ within (n - 1) (found_after c u (left - 1) x)) (ways-left : 0 < n) where
    pub find-plain : f.matched ≡ true → record { matched = true; mask = f.mask; ways = f.ways + 1 } ≡ within n (found_after c u left (some b))
    find-plain t =
        both-plain (2 ^ (left - 1)) n (found_after c u (left - 1) x) (found_after c u (left - 1) (match_left c u (left - 1) true b)) f e ways-left t
        ∙ ap (within n) (next-gate c u left b x (match_left c u (left - 1) true b) some_left ex refl)

    module _ (none_yet : f.matched ≡ false) where
      pub find-over : n ≤ f.ways + 1 → over_limit n ≡ within n (found_after c u left (some b))
      find-over l =
          both-over (2 ^ (left - 1)) n (found_after c u (left - 1) x) (found_after c u (left - 1) (match_left c u (left - 1) true b)) f e ways-left none_yet l
          ∙ ap (within n) (next-gate c u left b x (match_left c u (left - 1) true b) some_left ex refl)

      -- g is what it has found behind the trial crosswise
      pub find-rest : f.ways + 1 < n → (y : Option (List ℕ)) → y ≡ match_left c u (left - 1) true b
          → (g : Searched) → g ≡ within (n - (f.ways + 1) - 1) (found_after c u (left - 1) y)
          → after (f.ways + 1 + 1) (raised (2 ^ (left - 1)) g) ≡ within n (found_after c u left (some b))
      find-rest room y ey g d =
          both_rest (2 ^ (left - 1)) n (found_after c u (left - 1) x) (found_after c u (left - 1) y) f e ways-left none_yet room g d
          ∙ ap (within n) (next-gate c u left b x y some_left ex ey)
