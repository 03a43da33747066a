-- Laws of `append_each`, and loops that compute it in place: each new value is stored behind those before it. Assumes nothing.
use mathlib.Core.Path.{◌≡◌, refl, sym, ap, ap₂, ◌∙◌}
use mathlib.Core.List.{List, [], ◌∷◌, ◌++◌}
use Prim.Native.Nat.{ℕ, zero, suc, ◌+◌, ◌≤◌, ◌<◌}
use native.Mathlib.Nat.{add-zero, le_of_eq}
use native.Mathlib.Omega.{arith}
use lib.ListN.{length, take, drop, get_or, set, length-set, length-append, drop_of_length-le, take-append-drop}
use lib.Seq.{take_all, take_at, take-take, take-suc-set, length-take-le, drop-nil, drop-cons, drop-set-lt, drop-drop, get_or-take, get_or-append_seam}
use Rattle.lists.specs.Each.{append_each}

module _ {A B : Type 0} (make : A → List B → B) where
  pub each-length : (xs : List A) (vs : List B) → length (append_each make xs vs) ≡ length vs + length xs
  unfolding append_each
  each-length [] vs = sym (add-zero (length vs))
  each-length (x ∷ xs) vs = each-length xs (vs ++ (make x vs ∷ [])) ∙ omega (arith, length-append vs (make x vs ∷ []))

  -- later values leave those before them as they are
  pub each-begin : (xs : List A) (vs : List B) (n : ℕ) → length vs ≡ n → take n (append_each make xs vs) ≡ vs
  unfolding append_each
  each-begin [] vs n e = take_all n vs (le_of_eq e)
  each-begin (x ∷ xs) vs n e =
      let ws = vs ++ (make x vs ∷ []) in
      sym (take-take n (suc n) (append_each make xs ws) (omega arith))
      ∙ ap (take n) (each-begin xs ws (suc n) (omega (arith, length-append vs (make x vs ∷ [])))) ∙ take_at vs (make x vs ∷ []) n e

  pub each-front : (xs : List A) (vs : List B) (i : ℕ) (z : B) → i < length vs → get_or (append_each make xs vs) i z ≡ get_or vs i z
  each-front xs vs i z h = sym (get_or-take (length vs) (append_each make xs vs) i z h) ∙ ap (λ l. get_or l i z) (each-begin xs vs (length vs) refl)

  -- behind the first i values, the others come out as they were
  pub each-resume : (xs : List A) (vs : List B) (n i : ℕ) → length vs + i ≡ n
      → append_each make (drop i xs) (take n (append_each make xs vs)) ≡ append_each make xs vs
  unfolding append_each
  each-resume [] vs n i e = rw (drop-nil {A = A} i) (take_all n vs (omega arith))
  each-resume (x ∷ xs) vs n zero e = ap (append_each make (x ∷ xs)) (each-begin (x ∷ xs) vs n (omega arith))
  each-resume (x ∷ xs) vs n (suc i) e = each-resume xs (vs ++ (make x vs ∷ [])) n i (omega (arith, length-append vs (make x vs ∷ [])))

  -- value i is made of element i and of the values before it
  pub each-value : (xs : List A) (vs : List B) (n i : ℕ) (d : A) (z : B) → length vs + i ≡ n → i < length xs
      → get_or (append_each make xs vs) n z ≡ make (get_or xs i d) (take n (append_each make xs vs))
  unfolding append_each
  each-value xs vs n i d z e h =
      let all = append_each make xs vs in
      let before = take n all in
      let x = make (get_or xs i d) before in
      let long : length before ≡ n = length-take-le n all (omega (arith, each-length xs vs)) in
      let next : append_each make (drop (suc i) xs) (before ++ (x ∷ [])) ≡ all =
      ap (λ l. append_each make l before) (sym (drop-cons xs i d h)) ∙ each-resume xs vs n i e in
      ap (λ l. get_or l n z) (sym next)
      ∙ each-front (drop (suc i) xs) (before ++ (x ∷ [])) n z (omega (arith, length-append before (x ∷ [])))
      ∙ ap (λ k. get_or (before ++ (x ∷ [])) k z) (sym long) ∙ get_or-append_seam before x [] z

-- the first m + i places of d hold the first i values behind `start`, m of them
pub record Filled {A B : Type 0} (make : A → List B → B) (xs : List A) (start : List B) (m size : ℕ) (d : List B) (i : ℕ) : Type 0 where
  pub values : append_each make (drop i xs) (take (m + i) d) ≡ append_each make xs start
  pub long : length d ≡ size

module _ {A B : Type 0} (make : A → List B → B) (xs : List A) (start : List B) (m size : ℕ) (d : List B) where
  pub filled_none : take m d ≡ start → length d ≡ size → Filled make xs start m size d 0
  filled_none e l = record { values = rw (add-zero, e); long = l }

  pub filled_more : (i : ℕ) (v : B) (x : A) → Filled make xs start m size d i → drop i xs ≡ x ∷ drop (i + 1) xs → m + i < size
      → v ≡ make x (take (m + i) d) → Filled make xs start m size (set d (m + i) v) (i + 1)
  unfolding append_each
  filled_more i v x f e h q =
      let s : m + (i + 1) ≡ suc (m + i) = omega arith in
      let b : m + i < length d = omega (arith, f.long) in
      record {
        values = rw (s, take-suc-set d (m + i) v b, q) (rw e at f.values);
        long = rw length-set f.long;
      }

  pub filled-all : (i : ℕ) → Filled make xs start m size d i → length xs ≤ i → take (m + i) d ≡ append_each make xs start
  unfolding append_each
  filled-all i f h = rw (drop_of_length-le xs h) at f.values

-- as `Filled`, and d₀ is what the buffer held before
pub record FilledOver {A B : Type 0} (make : A → List B → B) (xs : List A) (start : List B) (m : ℕ) (d₀ d : List B) (i : ℕ) : Type 0 where
  pub filled : Filled make xs start m (length d₀) d i
  pub beyond : drop (m + i) d ≡ drop (m + i) d₀

module _ {A B : Type 0} (make : A → List B → B) (xs : List A) (start : List B) (m : ℕ) (d₀ : List B) where
  -- a loop that goes on behind the first i values, which are there already
  pub filled-over-from : (i : ℕ) → length start ≡ m → take (m + i) d₀ ≡ take (m + i) (append_each make xs start) → FilledOver make xs start m d₀ d₀ i
  filled-over-from i l e =
      record {
        filled = record { values = ap (append_each make (drop i xs)) e ∙ each-resume make xs start (m + i) i (omega arith); long = refl };
        beyond = refl;
      }

  module _ (d : List B) (i : ℕ) (f : FilledOver make xs start m d₀ d i) where
    pub filled-over-more : (v : B) (x : A) → drop i xs ≡ x ∷ drop (i + 1) xs → m + i < length d₀ → v ≡ make x (take (m + i) d)
        → FilledOver make xs start m d₀ (set d (m + i) v) (i + 1)
    filled-over-more v x e h q =
        let s : m + i + 1 ≡ m + (i + 1) = omega arith in
        record {
          filled = filled_more make xs start m (length d₀) d i v x f.filled e h q;
          beyond =
              drop-set-lt (m + (i + 1)) d (m + i) v (omega arith)
              ∙ sym (drop-drop 1 (m + i) d ∙ ap (λ k. drop k d) s) ∙ ap (drop 1) f.beyond ∙ drop-drop 1 (m + i) d₀ ∙ ap (λ k. drop k d₀) s;
        }

    module _ (fits : m + i ≤ length d₀) where
      -- a value that is there already is the final one
      pub filled-over-read : (k : ℕ) (z : B) → k < m + i → get_or d k z ≡ get_or (append_each make xs start) k z
      filled-over-read k z h =
          let l : length (take (m + i) d) ≡ m + i = length-take-le (m + i) d (omega (arith, f.filled.long)) in
          sym (get_or-take (m + i) d k z h) ∙ sym (each-front make (drop i xs) (take (m + i) d) k z (omega arith))
          ∙ ap (λ r. get_or r k z) f.filled.values

      pub filled-over-all : length xs ≤ i → d ≡ append_each make xs start ++ drop (length (append_each make xs start)) d₀
      filled-over-all h =
          let e = filled-all make xs start m (length d₀) d i f.filled h in
          let l : length (take (m + i) d) ≡ m + i = length-take-le (m + i) d (omega (arith, f.filled.long)) in
          sym (take-append-drop (m + i) d) ∙ ap₂ ◌++◌ e (f.beyond ∙ ap (λ k. drop k d₀) (sym l ∙ ap length e))
