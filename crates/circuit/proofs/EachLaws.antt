-- Laws of `all_gates`, `count_gates` and `EachGate`: loops that test or count gates, and what holds of each. Assumes nothing.
use mathlib.Core.Path.{◌≡◌, refl, sym, ap₂, ◌∙◌}
use mathlib.Core.Bool.{Bool, true, false, ◌&&◌, and-true, and_assoc}
use mathlib.Core.List.{List, [], ◌∷◌}
use Prim.Native.Nat.{ℕ, zero, suc, ◌+◌, ◌*◌, ◌≤◌, ◌<◌}
use native.Mathlib.Nat.{add-zero, add-suc, suc-add, not-suc-le-zero}
use native.Mathlib.Omega.{arith}
use lib.ListN.{length, drop, get_or, drop_of_length-le}
use Rattle.lists.specs.First.{first}
use Rattle.lists.proofs.Tests.{both, left-of, right_of}
use Rattle.circuit.specs.Circuit.{Gate, no_gate}
use Rattle.circuit.specs.Each.{all_gates, count_gates, EachGate}
use Rattle.circuit.specs.Table.{line_at, lines_of}
use Rattle.circuit.proofs.TableLaws.{lines-length, step_from}

-- A loop that tests all of n lines, from number q on, and has come to line i: b is what they have left of a.
module _ (test : ℕ → Gate → Bool) (m q n : ℕ) (t : List ℕ) (a : Bool) where
  abbrev pub Tests : (i : ℕ) (b : Bool) → Type 0
  Tests i b = (b && all_gates test (m + i) (drop i (lines_of n (drop q t)))) ≡ (a && all_gates test m (lines_of n (drop q t)))

  pub tests-none : Tests 0 a
  tests-none = rw add-zero

  module _ (i : ℕ) (b : Bool) (inv : Tests i b) where
    pub tests-more : (d : Bool) → i < n → d ≡ (b && test (m + i) (line_at t (q + 3 * i))) → Tests (i + 1) d
    unfolding all_gates
    tests-more d h e =
        let s : m + (i + 1) ≡ suc (m + i) = omega arith in
        rw (s, e) (and_assoc b (test (m + i) (line_at t (q + 3 * i))) _ ∙ rw (step_from q n t i h) at inv)

    pub tests-end : n ≤ i → b ≡ (a && all_gates test m (lines_of n (drop q t)))
    unfolding all_gates
    tests-end h =
        let k : length (lines_of n (drop q t)) ≤ i = rw lines-length h in
        sym (and-true b) ∙ rw (drop_of_length-le (lines_of n (drop q t)) k) at inv

-- A loop that counts from the last gate to the first, has counted those from i on, and now comes to the one before.
module _ (test : ℕ → Gate → Bool) (n : ℕ) (gs : List Gate) where
  pub count_none : (i : ℕ) → length gs ≤ i → 0 ≡ count_gates test (n + i) (drop i gs)
  unfolding count_gates
  count_none i h = rw (drop_of_length-le gs h)

  pub count-more : (i j k : ℕ) (g : Gate) → i ≡ j + 1 → drop j gs ≡ g ∷ drop (j + 1) gs → k ≡ count_gates test (n + i) (drop i gs)
      → k + first (test (n + j) g) 1 0 ≡ count_gates test (n + j) (drop j gs)
  unfolding count_gates
  count-more i j k g q e h =
      let s : n + i ≡ suc (n + j) = omega arith in
      rw e (go (test (n + j) g) (count_gates test (suc (n + j)) (drop (j + 1) gs)) (h ∙ ap₂ (λ m l. count_gates test m (drop l gs)) s q))
    where
      go : (b : Bool) (r : ℕ) → k ≡ r → k + first b 1 0 ≡ first b (1 + r) r
      go true r e = omega arith
      go false r e = omega arith

pub count-le : (test : ℕ → Gate → Bool) (n : ℕ) (gs : List Gate) → count_gates test n gs ≤ length gs
unfolding count_gates
count-le test n [] = omega arith
count-le test n (g ∷ gs) = go (test n g) (count-le test (suc n) gs)
  where
    go : (b : Bool) → count_gates test (suc n) gs ≤ length gs → first b (1 + count_gates test (suc n) gs) (count_gates test (suc n) gs) ≤ suc (length gs)
    go true h = omega arith
    go false h = omega arith

-- ---- each gate

pub each_at : (P : ℕ → Gate → Type 0) (n : ℕ) (gs : List Gate) → EachGate P n gs → (i : ℕ) → i < length gs → P (n + i) (get_or gs i no_gate)
each_at P n [] a i h = absurd (not-suc-le-zero h)
each_at P n (g ∷ gs) a zero h = rw add-zero a.0
each_at P n (g ∷ gs) a (suc i) h = rw (add-suc, ← suc-add) (each_at P (suc n) gs a.1 i (omega arith))

pub each_of : (P : ℕ → Gate → Type 0) (n : ℕ) (gs : List Gate) → ((i : ℕ) → i < length gs → P (n + i) (get_or gs i no_gate)) → EachGate P n gs
each_of P n [] f = tt
each_of P n (g ∷ gs) f = (
  rw add-zero at (f zero (omega arith)),
  each_of P (suc n) gs (λ i h. let e : n + suc i ≡ suc n + i = omega arith in rw e at (f (suc i) (omega arith))),
)

pub each_map : {P Q : ℕ → Gate → Type 0} (n : ℕ) (gs : List Gate) → EachGate P n gs → ((m : ℕ) (g : Gate) → n ≤ m → P m g → Q m g) → EachGate Q n gs
each_map n [] a f = tt
each_map n (g ∷ gs) a f = (f n g (omega arith) a.0, each_map (suc n) gs a.1 (λ m g h. f m g (omega arith)))

pub each-zip : {P Q R : ℕ → Gate → Type 0} (n : ℕ) (gs : List Gate) → EachGate P n gs → EachGate Q n gs
    → ((m : ℕ) (g : Gate) → n ≤ m → P m g → Q m g → R m g) → EachGate R n gs
each-zip n [] a b f = tt
each-zip n (g ∷ gs) a b f = (f n g (omega arith) a.0 b.0, each-zip (suc n) gs a.1 b.1 (λ m g h. f m g (omega arith)))

-- a test that every gate passes, as a fact of each, and the other way round
pub all-each : (test : ℕ → Gate → Bool) (n : ℕ) (gs : List Gate) → all_gates test n gs ≡ true → EachGate (λ m g. test m g ≡ true) n gs
unfolding all_gates
all-each test n [] e = tt
all-each test n (g ∷ gs) e = (left-of (test n g) (all_gates test (suc n) gs) e, all-each test (suc n) gs (right_of (test n g) (all_gates test (suc n) gs) e))

pub each_all : (test : ℕ → Gate → Bool) (n : ℕ) (gs : List Gate) → EachGate (λ m g. test m g ≡ true) n gs → all_gates test n gs ≡ true
unfolding all_gates
each_all test n [] a = refl
each_all test n (g ∷ gs) a = both {a = test n g} {b = all_gates test (suc n) gs} a.0 (each_all test (suc n) gs a.1)

-- gate i of those that all pass
pub all-at : (test : ℕ → Gate → Bool) (n : ℕ) (gs : List Gate) (i : ℕ) (g : Gate) → all_gates test n gs ≡ true → drop i gs ≡ g ∷ drop (i + 1) gs → test (n + i) g ≡ true
unfolding all_gates
all-at test n gs i g h e = left-of (test (n + i) g) (all_gates test (suc (n + i)) (drop (i + 1) gs)) (rw e at (later n gs i h))
  where
    later : (n : ℕ) (gs : List Gate) (i : ℕ) → all_gates test n gs ≡ true → all_gates test (n + i) (drop i gs) ≡ true
    later n gs zero h = rw add-zero h
    later n [] (suc i) h = refl
    later n (g ∷ gs) (suc i) h = rw (add-suc, ← suc-add) (later (suc n) gs i (right_of (test n g) (all_gates test (suc n) gs) h))
