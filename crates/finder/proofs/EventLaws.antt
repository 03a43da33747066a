-- Lists of events, put together as the search does. Assumes nothing.
use mathlib.Core.Path.{◌≡◌, refl, sym, ap, ◌∙◌}
use mathlib.Core.Bool.{Bool, true, false, true≢false}
use mathlib.Core.List.{List, [], ◌∷◌, ◌++◌, map}
use Prim.Native.Nat.{ℕ, ◌+◌, ◌-◌, ◌≤◌, ◌<◌}
use native.Mathlib.Nat.{zero-add, add_assoc}
use native.Mathlib.Omega.{arith}
use native.Mathlib.Decide.{dec_lt}
use lib.Dec.{eqb}
use borrow.Author.Tests.{eq-eqb, ne_eqb, eqb-true, eqb-false}
use Rattle.lists.specs.First.{first}
use Rattle.finder.specs.Search.{Searched, Event, trial, matched, crossed, after, raised, first_match, has}

-- ---- tests

or_assoc : (a b c : Bool) → first (first a true b) true c ≡ first a true (first b true c)
or_assoc true b c = refl
or_assoc false b c = refl

or-false : (a b : Bool) → a ≡ false → b ≡ false → first a true b ≡ false
or-false a b e f = rw (e, f)

-- ---- the matches

pub has-append : (m : ℕ) (xs ys : List Event) → has m (xs ++ ys) ≡ first (has m xs) true (has m ys)
unfolding has
has-append m [] ys = refl
has-append m (trial ∷ xs) ys = has-append m xs ys
has-append m (matched k ∷ xs) ys = ap (first (eqb m k) true) (has-append m xs ys) ∙ sym (or_assoc (eqb m k) (has m xs) (has m ys))

pub has-trial : (m : ℕ) (xs : List Event) → has m (trial ∷ xs) ≡ has m xs
unfolding has
has-trial m xs = refl

pub crossed-low : (m h : ℕ) (es : List Event) → m < h → has m (map (crossed h) es) ≡ false
unfolding has
crossed-low m h [] l = refl
crossed-low m h (trial ∷ es) l = crossed-low m h es l
crossed-low m h (matched k ∷ es) l = or-false (eqb m (h + k)) (has m (map (crossed h) es)) (ne_eqb m (h + k) (λ e. omega arith)) (crossed-low m h es l)

same-eqb : (h m k : ℕ) → eqb (h + m) (h + k) ≡ eqb m k
same-eqb h m k = go (eqb m k) refl
  where
    go : (b : Bool) → eqb m k ≡ b → eqb (h + m) (h + k) ≡ b
    go true e = eq-eqb _ _ (ap (λ (x : ℕ). h + x) (eqb-true m k e))
    go false e = ne_eqb (h + m) (h + k) (λ d. eqb-false m k e (omega arith))

pub crossed-high : (m h : ℕ) (es : List Event) → has (h + m) (map (crossed h) es) ≡ has m es
unfolding has
crossed-high m h [] = refl
crossed-high m h (trial ∷ es) = crossed-high m h es
crossed-high m h (matched k ∷ es) =
    ap (λ (b : Bool). first b true (has (h + m) (map (crossed h) es))) (same-eqb h m k) ∙ ap (first (eqb m k) true) (crossed-high m h es)

-- ---- the first match

-- one search after another, which is done only if the one before has no match
abbrev pub joined : Searched → Searched → Searched
joined f g = first f.matched f (after f.ways g)

after-joined : (n : ℕ) (f g : Searched) → after n (joined f g) ≡ joined (after n f) g
after-joined n f g = go f.matched
  where
    go : (b : Bool) → after n (first b f (after f.ways g)) ≡ first b (after n f) (after (n + f.ways) g)
    go true = refl
    go false = ap (λ (w : ℕ). record { matched = g.matched; mask = g.mask; ways = w }) (sym (add_assoc n f.ways g.ways))

pub first-append : (xs ys : List Event) → first_match (xs ++ ys) ≡ joined (first_match xs) (first_match ys)
unfolding first_match
first-append [] ys = ap (λ (w : ℕ). record { matched = (first_match ys).matched; mask = (first_match ys).mask; ways = w }) (sym (zero-add (first_match ys).ways))
first-append (trial ∷ xs) ys = ap (after 1) (first-append xs ys) ∙ after-joined 1 (first_match xs) (first_match ys)
first-append (matched k ∷ xs) ys = refl

pub first-trial : (es : List Event) → first_match (trial ∷ es) ≡ after 1 (first_match es)
unfolding first_match
first-trial es = refl

pub first-crossed : (h : ℕ) (es : List Event) → first_match (map (crossed h) es) ≡ raised h (first_match es)
unfolding first_match
first-crossed h [] = refl
first-crossed h (trial ∷ es) = ap (after 1) (first-crossed h es)
first-crossed h (matched k ∷ es) = refl

pub first-has : (es : List Event) → (first_match es).matched ≡ true → has (first_match es).mask es ≡ true
unfolding first_match has
first-has [] e = e
first-has (trial ∷ es) e = first-has es e
first-has (matched k ∷ es) e = rw (eq-eqb k k refl)

pub first-none : (es : List Event) → (first_match es).matched ≡ false → (m : ℕ) → has m es ≡ false
unfolding first_match has
first-none [] e m = refl
first-none (trial ∷ es) e m = first-none es e m
first-none (matched k ∷ es) e m = absurd (true≢false e)

pub first-zero : (es : List Event) → (first_match es).matched ≡ false → (first_match es).mask ≡ 0
unfolding first_match
first-zero [] e = refl
first-zero (trial ∷ es) e = first-zero es e
first-zero (matched k ∷ es) e = absurd (true≢false e)

-- no smaller mask than that of the first match is among the matches
abbrev pub IsLeast : List Event → Type 0
IsLeast es = (first_match es).matched ≡ true → (m : ℕ) → m < (first_match es).mask → has m es ≡ false

pub least-crossed : (h : ℕ) (es : List Event) → IsLeast es → IsLeast (map (crossed h) es)
least-crossed h es least e m l =
    let f = first_match es in
    let t : f.matched ≡ true = sym (ap (λ (x : Searched). x.matched) (first-crossed h es)) ∙ e in
    let k : (first_match (map (crossed h) es)).mask ≡ h + f.mask =
    ap (λ (x : Searched). x.mask) (first-crossed h es) ∙ ap (λ (b : Bool). first b (h + f.mask) 0) t
    in
    elim (dec_lt m h) [
      | yes a ↦ crossed-low m h es a
      | no a ↦
          let j : ℕ = m - h in
          let s : h + j ≡ m = omega arith in
          ap (λ (x : ℕ). has x (map (crossed h) es)) (sym s) ∙ crossed-high j h es ∙ least t j (omega arith)
    ]

-- the matches of xs are below h, those of ys are not
pub least-append : (h : ℕ) (xs ys : List Event) → IsLeast xs → IsLeast ys → ((m : ℕ) → h ≤ m → has m xs ≡ false) → ((m : ℕ) → m < h → has m ys ≡ false)
    → IsLeast (xs ++ ys)
least-append h xs ys lx ly below above e m l = has-append m xs ys ∙ go (first_match xs).matched refl
  where
    go : (b : Bool) → (first_match xs).matched ≡ b → first (has m xs) true (has m ys) ≡ false
    go true t =
        let k : (first_match (xs ++ ys)).mask ≡ (first_match xs).mask =
        ap (λ (x : Searched). x.mask) (first-append xs ys ∙ ap (λ (b : Bool). first b (first_match xs) (after (first_match xs).ways (first_match ys))) t)
        in
        let w : (first_match xs).mask < h =
        elim (dec_lt (first_match xs).mask h) [ yes a ↦ a | no a ↦ absurd (true≢false (sym (first-has xs t) ∙ below (first_match xs).mask (omega arith))) ]
        in
        or-false (has m xs) (has m ys) (lx t m (omega arith)) (above m (omega arith))
    go false t =
        let k : first_match (xs ++ ys) ≡ after (first_match xs).ways (first_match ys) =
        first-append xs ys ∙ ap (λ (b : Bool). first b (first_match xs) (after (first_match xs).ways (first_match ys))) t
        in
        or-false (has m xs) (has m ys) (first-none xs t m)
        (ly (sym (ap (λ (x : Searched). x.matched) k) ∙ e) m (omega (arith, ap (λ (x : Searched). x.mask) k)))
