-- The run of starting lines: as a loop walks it, and of lines that were encoded. Assumes nothing.
use mathlib.Core.Path.{◌≡◌, refl, sym, ap, ap₂, ◌∙◌}
use mathlib.Core.Logic.{◌≢◌, inl, inr}
use mathlib.Core.Bool.{Bool, true, false}
use mathlib.Core.List.{List, [], ◌∷◌, ◌++◌, map, append-nil}
use Prim.Native.Nat.{ℕ, zero, suc, ◌+◌, ◌*◌, ◌≤◌, ◌<◌}
use native.Mathlib.Nat.{add-zero}
use native.Mathlib.Omega.{arith}
use lib.Dec.{eqb}
use lib.ListN.{length, take, drop, get_or, length-drop}
use lib.Seq.{get_or-drop, drop-drop}
use borrow.Author.Tests.{eq-eqb, ne_eqb, eqb-true}
use Rattle.lists.specs.First.{first}
use Rattle.circuit.specs.Circuit.{Gate, Start, start_kind}
use Rattle.circuit.specs.Table.{start_run, lines_of, start_of, start_line, closing_line, encode_lines}
use Rattle.circuit.specs.Each.{EachGate}
use Rattle.circuit.specs.Refusal.{has_gate_kind}
use Rattle.circuit.proofs.TableLaws.{headed}
use Rattle.circuit.proofs.RefusalLaws.{either}

-- ---- what the walk meets at a list's front

run_more : (k a b : ℕ) (rest : List ℕ) → k ≡ start_kind → start_run (k ∷ a ∷ b ∷ rest) ≡ suc (start_run rest)
unfolding start_run
run_more k a b rest e = rw (eq-eqb k start_kind e)

run-other : (k a b : ℕ) (rest : List ℕ) → k ≢ start_kind → start_run (k ∷ a ∷ b ∷ rest) ≡ 0
unfolding start_run
run-other k a b rest e = rw (ne_eqb k start_kind e)

run_short : (l : List ℕ) → length l < 3 → start_run l ≡ 0
unfolding start_run
run_short [] h = refl
run_short (k ∷ []) h = refl
run_short (k ∷ a ∷ []) h = refl
run_short (k ∷ a ∷ b ∷ rest) h = let z : ⊥ = omega arith in absurd z

-- ---- at place p of a table

pub line-front : (t : List ℕ) (p : ℕ) → p + 3 ≤ length t → drop p t ≡ get_or t p 0 ∷ get_or t (p + 1) 0 ∷ get_or t (p + 2) 0 ∷ drop (p + 3) t
line-front t p h =
    let e = headed (drop p t) (omega (arith, length-drop p t)) in
    sym e ∙ ap₂ (λ k l. k ∷ get_or (drop p t) 1 0 ∷ get_or (drop p t) 2 0 ∷ l) (get_or-drop p t 0 0 ∙ ap (λ q. get_or t q 0) (add-zero p)) (drop-drop 3 p t)
    ∙ ap₂ (λ a b. get_or t p 0 ∷ a ∷ b ∷ drop (p + 3) t) (get_or-drop p t 1 0) (get_or-drop p t 2 0)

module _ (t : List ℕ) (p : ℕ) where
  pub run_step : p + 2 < length t → get_or t p 0 ≡ start_kind → start_run (drop p t) ≡ suc (start_run (drop (p + 3) t))
  run_step h e = ap start_run (line-front t p (omega arith)) ∙ run_more _ _ _ _ e

  pub run-stop : p + 2 < length t → get_or t p 0 ≢ start_kind → start_run (drop p t) ≡ 0
  run-stop h e = ap start_run (line-front t p (omega arith)) ∙ run-other _ _ _ _ e

  pub run_end : length t ≤ p + 2 → start_run (drop p t) ≡ 0
  run_end h = run_short (drop p t) (omega (arith, length-drop p t))

-- ---- the run is within the list, and each of its lines begins with 4

pub run_fits : (l : List ℕ) → 3 * start_run l ≤ length l
unfolding start_run
run_fits [] = omega arith
run_fits (k ∷ []) = omega arith
run_fits (k ∷ a ∷ []) = omega arith
run_fits (k ∷ a ∷ b ∷ rest) = go (eqb k start_kind) (run_fits rest)
  where
    go : (c : Bool) → 3 * start_run rest ≤ length rest → 3 * first c (suc (start_run rest)) 0 ≤ suc (suc (suc (length rest)))
    go true h = omega arith
    go false h = omega arith

pub run-lines : (l : List ℕ) → map start_line (map start_of (lines_of (start_run l) l)) ≡ lines_of (start_run l) l
unfolding start_run lines_of
run-lines [] = refl
run-lines (k ∷ []) = refl
run-lines (k ∷ a ∷ []) = refl
run-lines (k ∷ a ∷ b ∷ rest) = go (eqb k start_kind) refl (run-lines rest)
  where
    line : ℕ → Gate
    line k = record { kind = k; left = a; right = b }

    go : (c : Bool) → eqb k start_kind ≡ c → map start_line (map start_of (lines_of (start_run rest) rest)) ≡ lines_of (start_run rest) rest
        → map start_line (map start_of (lines_of (first c (suc (start_run rest)) 0) (k ∷ a ∷ b ∷ rest))) ≡ lines_of (first c (suc (start_run rest)) 0) (k ∷ a ∷ b ∷ rest)
    go true e h = ap₂ (λ x l. record { kind = x; left = a; right = b } ∷ l) (sym (eqb-true k start_kind e)) h
    go false e h = refl

-- ---- of lines that were encoded

pub run-encode : (ss : List Start) (rest : List ℕ) → start_run (encode_lines (map start_line ss) ++ rest) ≡ length ss + start_run rest
unfolding encode_lines start_run
run-encode [] rest = omega arith
run-encode (s ∷ ss) rest = ap suc (run-encode ss rest) ∙ omega arith

-- gates are none, and neither are closing lines: where there is one of them, the run ends, whatever comes behind
pub run_ends : (n : ℕ) (gs : List Gate) (os rest : List ℕ) → EachGate (λ m g. has_gate_kind m g ≡ true) n gs → 1 ≤ length gs + length os
    → start_run ((encode_lines gs ++ encode_lines (map closing_line os)) ++ rest) ≡ 0
unfolding encode_lines start_run
run_ends n [] [] rest a h = let z : ⊥ = omega arith in absurd z
run_ends n [] (o ∷ os) rest a h = refl
run_ends n (g ∷ gs) os rest a h = rw (ne_eqb g.kind start_kind (λ e. elim (either g.kind a.0) [ inl x ↦ omega arith | inr x ↦ omega arith ]))

pub run-gates : (n : ℕ) (gs : List Gate) (os : List ℕ) → EachGate (λ m g. has_gate_kind m g ≡ true) n gs
    → start_run (encode_lines gs ++ encode_lines (map closing_line os)) ≡ 0
unfolding encode_lines start_run
run-gates n [] [] a = refl
run-gates n [] (o ∷ os) a = refl
run-gates n (g ∷ gs) os a =
    let alone : (encode_lines (g ∷ gs) ++ encode_lines (map closing_line os)) ++ [] ≡ encode_lines (g ∷ gs) ++ encode_lines (map closing_line os) = append-nil _ in
    ap start_run (sym alone) ∙ run_ends n (g ∷ gs) os [] a (omega arith)

-- ---- parts of a list

-- what stands behind the run does not go on with it
pub run-behind : (l : List ℕ) → start_run (drop (3 * start_run l) l) ≡ 0
unfolding start_run
run-behind [] = refl
run-behind (k ∷ []) = refl
run-behind (k ∷ a ∷ []) = refl
run-behind (k ∷ a ∷ b ∷ rest) = go (eqb k start_kind) refl (run-behind rest)
  where
    go : (c : Bool) → eqb k start_kind ≡ c → start_run (drop (3 * start_run rest) rest) ≡ 0
        → start_run (drop (3 * first c (suc (start_run rest)) 0) (k ∷ a ∷ b ∷ rest)) ≡ 0
    go true e h = let s : 3 * suc (start_run rest) ≡ suc (suc (suc (3 * start_run rest))) = omega arith in rw s h
    go false e h = rw e

-- nor does its front, if it is of whole lines
pub run-front : (n : ℕ) (l : List ℕ) → start_run l ≡ 0 → start_run (take (3 * n) l) ≡ 0
unfolding start_run
run-front zero l h = refl
run-front (suc n) [] h = let s : 3 * suc n ≡ suc (suc (suc (3 * n))) = omega arith in rw s
run-front (suc n) (k ∷ []) h = let s : 3 * suc n ≡ suc (suc (suc (3 * n))) = omega arith in rw s
run-front (suc n) (k ∷ a ∷ []) h = let s : 3 * suc n ≡ suc (suc (suc (3 * n))) = omega arith in rw s
run-front (suc n) (k ∷ a ∷ b ∷ rest) h = let s : 3 * suc n ≡ suc (suc (suc (3 * n))) = omega arith in rw s (go (eqb k start_kind) h)
  where
    go : (c : Bool) → first c (suc (start_run rest)) 0 ≡ 0 → first c (suc (start_run (take (3 * n) rest))) 0 ≡ 0
    go true h = let z : ⊥ = omega arith in absurd z
    go false h = refl

-- m lines of the run, with something behind them that is none of it
pub run-part : (m : ℕ) (l rest : List ℕ) → m ≤ start_run l → start_run rest ≡ 0 → start_run (take (3 * m) l ++ rest) ≡ m
unfolding start_run
run-part zero l rest h e = e
run-part (suc m) [] rest h e = let z : ⊥ = omega arith in absurd z
run-part (suc m) (k ∷ []) rest h e = let z : ⊥ = omega arith in absurd z
run-part (suc m) (k ∷ a ∷ []) rest h e = let z : ⊥ = omega arith in absurd z
run-part (suc m) (k ∷ a ∷ b ∷ l) rest h e =
    let s : 3 * suc m ≡ suc (suc (suc (3 * m))) = omega arith in
    rw s (go (eqb k start_kind) h (run-part m l rest))
  where
    go : (c : Bool) → suc m ≤ first c (suc (start_run l)) 0 → (m ≤ start_run l → start_run rest ≡ 0 → start_run (take (3 * m) l ++ rest) ≡ m)
        → first c (suc (start_run (take (3 * m) l ++ rest))) 0 ≡ suc m
    go true q ih = ap suc (ih (omega arith) e)
    go false q ih = let z : ⊥ = omega arith in absurd z
