-- Stores in a row. Assumes nothing.
use mathlib.Core.Path.{◌≡◌, sym, ap, ◌∙◌}
use mathlib.Core.List.{List, [], ◌∷◌, ◌++◌, append-nil, append_assoc}
use Prim.Native.Nat.{ℕ, suc, ◌+◌, ◌≤◌}
use native.Mathlib.Nat.{add-zero, add-suc, suc-add, not-suc-le-zero, le_of_suc-le-suc}
use native.Mathlib.Numerals.{add-one}
use native.Mathlib.Omega.{arith}
use lib.ListN.{length, take, drop, length-append, length-drop, take-append-drop}
use lib.Seq.{sets, set_at, append_snoc, drop-drop, length-take-le}
use borrow.Rule.Slice.PartMut.{put_mid}

-- the places of a few stores in a row
pub add-two : (n : ℕ) → n + 2 ≡ suc (suc n)
add-two n = omega arith

pub add-three : (n : ℕ) → n + 3 ≡ suc (suc (suc n))
add-three n = omega arith

pub add-four : (n : ℕ) → n + 4 ≡ suc (suc (suc (suc n)))
add-four n = omega arith

pub add_five : (n : ℕ) → n + 5 ≡ suc (suc (suc (suc (suc n))))
add_five n = omega arith

module _ {A : Type 0} where
  -- two runs of stores, one behind the other, are one run
  sets-join : (vs ws l : List A) (i : ℕ) → sets (sets l i vs) (i + length vs) ws ≡ sets l i (vs ++ ws)
  sets-join [] ws l i = rw add-zero
  sets-join (v ∷ vs) ws l i = rw (add-suc, ← suc-add) (sets-join vs ws _ (suc i))

  pub sets-append : (vs ws l : List A) (i n : ℕ) → length vs ≡ n → sets (sets l i vs) (i + n) ws ≡ sets l i (vs ++ ws)
  sets-append vs ws l i n e = rw (← e) (sets-join vs ws l i)

  -- a run of stores that begins at the end of p
  pub sets_behind : (p vs q : List A) (n : ℕ) → length p ≡ n → length vs ≤ length q → sets (p ++ q) n vs ≡ p ++ vs ++ drop (length vs) q
  sets_behind p [] q n e h = rw append-nil
  sets_behind p (v ∷ vs) [] n e h = absurd (not-suc-le-zero h)
  sets_behind p (v ∷ vs) (x ∷ q) n e h =
      let e' : length (p ++ (v ∷ [])) ≡ suc n = length-append p (v ∷ []) ∙ rw (e, add-one) in
      rw (set_at p x q v n e, ← append_snoc p v q) (sets_behind (p ++ (v ∷ [])) vs q (suc n) e' (le_of_suc-le-suc h) ∙ rw (append_snoc p v vs))

  -- the k elements from i on, written as a slice of their own
  pub put_mid-sets : (i k : ℕ) (xs ys : List A) → i + k ≤ length xs → length ys ≡ k → put_mid i k xs ys ≡ sets xs i ys
  put_mid-sets i k xs ys h e =
      let room : length ys ≤ length (drop i xs) = rw length-drop (omega arith) in
      sym (ap (λ (l : List A). sets l i ys) (sym (take-append-drop i xs)) ∙ sets_behind (take i xs) ys (drop i xs) i (length-take-le i xs (omega arith)) room
      ∙ rw (e, drop-drop, append_assoc))
