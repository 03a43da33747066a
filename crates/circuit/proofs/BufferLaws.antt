-- Lent buffers that are written over, once or twice. Assumes nothing.
use mathlib.Core.Path.{◌≡◌, sym, ap, ap₂, ◌∙◌}
use mathlib.Core.List.{List, [], ◌∷◌, ◌++◌}
use Prim.Native.Nat.{ℕ, suc, ◌+◌, ◌-◌, ◌≤◌}
use native.Mathlib.Omega.{arith}
use lib.ListN.{length, take, drop, get_or, set, length-append, length-drop, take-append-drop}
use lib.Seq.{sets, drop-drop, drop-append-add, take_at, drop_at, length-take-le}
use Rattle.lists.proofs.Stores.{sets_behind}
use Rattle.lists.proofs.Written.{Written, written_all}
use Rattle.lines.specs.Calls.{over}

-- a loop that writes over a buffer's front has written all of a list
pub written_over : (xs d₀ d : List ℕ) (i : ℕ) → Written xs d₀ d i → i ≡ length xs → d ≡ over xs d₀
written_over xs d₀ d i w e = written_all 0 xs d₀ d i w e ∙ ap (λ k. xs ++ drop k d₀) e

-- what `over` leaves in the front, and what in a buffer that had been written over before
pub over-take : (new old : List ℕ) (n : ℕ) → length new ≡ n → take n (over new old) ≡ new
over-take new old n e = take_at new (drop (length new) old) n e

pub over-drop : (new old : List ℕ) (n : ℕ) → length new ≡ n → drop n (over new old) ≡ drop n old
over-drop new old n e = drop_at new (drop (length new) old) n e ∙ ap (λ k. drop k old) e

-- a buffer whose front is known, and nothing beyond it was written
pub over-parts : (new old d : List ℕ) (n : ℕ) → length new ≡ n → take n d ≡ new → drop n d ≡ drop n old → d ≡ over new old
over-parts new old d n e front beyond = sym (take-append-drop n d) ∙ ap₂ ◌++◌ front (beyond ∙ ap (λ k. drop k old) (sym e))

pub over-over : (new front old : List ℕ) → length front ≤ length new → over new (over front old) ≡ over new old
over-over new front old h =
    let j = length new - length front in
    let e : length new ≡ length front + j = omega arith in
    ap (λ l. new ++ l)
    (ap (λ k. drop k (over front old)) e ∙ drop-append-add front (drop (length front) old) j ∙ drop-drop j (length front) old ∙ ap (λ k. drop k old) (sym e))

-- something put behind a list that was put over a buffer's front
pub over-behind : (front vs old : List ℕ) (n : ℕ) → length front ≡ n → n + length vs ≤ length old → (d d' : List ℕ)
    → d ≡ over front old → d' ≡ sets d n vs → d' ≡ over (front ++ vs) old
over-behind front vs old n e room d d' f g =
    g ∙ ap (λ x. sets x n vs) f ∙ sets_behind front vs (drop (length front) old) n e (omega (arith, length-drop (length front) old))
    ∙ ap (λ x. front ++ vs ++ x) (drop-drop (length vs) (length front) old ∙ ap (λ k. drop k old) (sym (length-append front vs)))

-- the lines of a table up to place `from`, then what is put behind them
copied-body : (x y z : ℕ) (t old : List ℕ) (from m : ℕ) → from ≡ 3 + m → from ≤ length (x ∷ y ∷ z ∷ t) → (vs : List ℕ) → from + length vs ≤ length old
    → (d d' : List ℕ) → d ≡ over (take from (x ∷ y ∷ z ∷ t)) old → d' ≡ sets d from vs → d' ≡ over (x ∷ y ∷ z ∷ (take m t ++ vs)) old
copied-body x y z t old from m e fits vs room d d' f g =
    let s : from ≡ suc (suc (suc m)) = omega arith in
    over-behind (take from (x ∷ y ∷ z ∷ t)) vs old from (length-take-le from (x ∷ y ∷ z ∷ t) fits) room d d' f g
    ∙ ap (λ k. over (take k (x ∷ y ∷ z ∷ t) ++ vs) old) s

-- A table that begins as another does: the lines of table t up to place `from`, then what is put behind them, and last a number of gates of its
-- own, the second of the first line.
pub copied-counted : (t old : List ℕ) (from m : ℕ) → from ≡ 3 + m → from ≤ length t → (vs : List ℕ) → from + length vs ≤ length old
    → (d d' d'' : List ℕ) (n : ℕ) → d ≡ over (take from t) old → d' ≡ sets d from vs → d'' ≡ set d' 1 n
    → d'' ≡ over (get_or t 0 0 ∷ n ∷ get_or t 2 0 ∷ (take m (drop 3 t) ++ vs)) old
copied-counted [] old from m e fits vs room d d' d'' n f g h = let z : ⊥ = omega arith in absurd z
copied-counted (x ∷ []) old from m e fits vs room d d' d'' n f g h = let z : ⊥ = omega arith in absurd z
copied-counted (x ∷ y ∷ []) old from m e fits vs room d d' d'' n f g h = let z : ⊥ = omega arith in absurd z
copied-counted (x ∷ y ∷ z ∷ t) old from m e fits vs room d d' d'' n f g h =
    h ∙ ap (λ d. set d 1 n) (copied-body x y z t old from m e fits vs room d d' f g)
