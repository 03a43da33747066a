-- Lines of a table, and the gates and outputs that they say: what loops over them, and readers of them, need. Assumes nothing.
use mathlib.Core.Path.{◌≡◌, refl, sym, ap, ap₂, ◌∙◌}
use mathlib.Core.List.{List, [], ◌∷◌, map}
use Prim.Native.Nat.{ℕ, zero, suc, ◌+◌, ◌*◌, ◌≤◌, ◌<◌}
use native.Mathlib.Nat.{add-zero, not-suc-le-zero, le_of_suc-le-suc}
use native.Mathlib.Numerals.{add-one}
use native.Mathlib.Omega.{arith}
use lib.ListN.{length, drop, get_or, length-map}
use lib.Seq.{get_or-drop, drop-cons}
use Rattle.lists.proofs.Maps.{map-drop, map-step}
use Rattle.circuit.specs.Circuit.{references, no_gate}
use Rattle.circuit.specs.Table.{gates, outputs, refs, starts, gates_from, closings_from, line_at, lines_of, start_lines, gate_lines, closing_lines, start_of, reference, decode}

-- a table of at least one line, by its head and the rest
pub headed : (t : List ℕ) → 3 ≤ length t → get_or t 0 0 ∷ get_or t 1 0 ∷ get_or t 2 0 ∷ drop 3 t ≡ t
headed [] h = absurd (not-suc-le-zero h)
headed (a ∷ []) h = let z : ⊥ = omega arith in absurd z
headed (a ∷ b ∷ []) h = let z : ⊥ = omega arith in absurd z
headed (a ∷ b ∷ c ∷ t) h = refl

pub line-drop : (k p : ℕ) (t : List ℕ) → line_at (drop k t) p ≡ line_at t (k + p)
line-drop k p t =
    let e1 : k + (p + 1) ≡ k + p + 1 = omega arith in
    let e2 : k + (p + 2) ≡ k + p + 2 = omega arith in
    simp (get_or-drop, e1, e2)

pub lines-length : (n : ℕ) (t : List ℕ) → length (lines_of n t) ≡ n
unfolding lines_of
lines-length zero t = refl
lines-length (suc n) t = ap suc (lines-length n (drop 3 t))

line_step : (n : ℕ) (t : List ℕ) (i : ℕ) → i < n → drop i (lines_of n t) ≡ line_at t (3 * i) ∷ drop (suc i) (lines_of n t)
unfolding lines_of
line_step zero t i h = absurd (not-suc-le-zero h)
line_step (suc n) t zero h = refl
line_step (suc n) t (suc i) h =
    let e : 3 + 3 * i ≡ 3 * suc i = omega arith in
    line_step n (drop 3 t) i (le_of_suc-le-suc h) ∙ ap (λ l. l ∷ drop (suc i) (lines_of n (drop 3 t))) (line-drop 3 (3 * i) t ∙ ap (line_at t) e)

-- line i of those that begin at place p
pub step_from : (p n : ℕ) (t : List ℕ) (i : ℕ) → i < n → drop i (lines_of n (drop p t)) ≡ line_at t (p + 3 * i) ∷ drop (i + 1) (lines_of n (drop p t))
step_from p n t i h = line_step n (drop p t) i h ∙ ap₂ ◌∷◌ (line-drop p (3 * i) t) (rw add-one)

module _ (t : List ℕ) where
  pub starts-length : length (decode t).starts ≡ starts t
  starts-length = length-map (start_lines t) start_of ∙ lines-length (starts t) (drop 3 t)

  pub gates-length : length (gate_lines t) ≡ gates t
  gates-length = lines-length (gates t) (drop (gates_from t) t)

  pub closings-length : length (closing_lines t) ≡ outputs t
  closings-length = lines-length (outputs t) (drop (closings_from t) t)

  pub outputs-length : length (decode t).outputs ≡ outputs t
  outputs-length = length-map (closing_lines t) reference ∙ closings-length

  pub refs-decode : references (decode t) ≡ refs t
  refs-decode = rw gates-length

  module _ (i : ℕ) where
    -- line i, for loops that have the place where the lines begin in a variable
    pub gate-step : (p : ℕ) → p ≡ gates_from t → i < gates t → drop i (gate_lines t) ≡ line_at t (p + 3 * i) ∷ drop (i + 1) (gate_lines t)
    gate-step p e h = rw e (step_from (gates_from t) (gates t) t i h)

    pub closing-step : (p : ℕ) → p ≡ closings_from t → i < outputs t → drop i (closing_lines t) ≡ line_at t (p + 3 * i) ∷ drop (i + 1) (closing_lines t)
    closing-step p e h = rw e (step_from (closings_from t) (outputs t) t i h)

    pub start-step : i < starts t → drop i (decode t).starts ≡ start_of (line_at t (3 + 3 * i)) ∷ drop (i + 1) (decode t).starts
    start-step h =
        map-drop start_of i (start_lines t) ∙ ap (map start_of) (step_from 3 (starts t) t i h)
        ∙ ap (λ l. start_of (line_at t (3 + 3 * i)) ∷ l) (sym (map-drop start_of (i + 1) (start_lines t)))

    -- gate i and output i of the circuit, by the places that code reads
    pub gate-at : (p : ℕ) → p ≡ gates_from t → i < gates t → get_or (decode t).gates i no_gate ≡ line_at t (p + 3 * i)
    gate-at p e h =
        ap (λ k. get_or (gate_lines t) k no_gate) (sym (add-zero i)) ∙ sym (get_or-drop i (gate_lines t) 0 no_gate)
        ∙ ap (λ l. get_or l 0 no_gate) (gate-step p e h)

    pub output-at : (p : ℕ) → p ≡ closings_from t → i < outputs t → get_or (decode t).outputs i 0 ≡ get_or t (p + 3 * i + 1) 0
    output-at p e h = map-step reference i (closing_lines t) _ _ 0 (closing-step p e h)

    -- the same two, as loops come to them
    pub gate-next : i < gates t → drop i (gate_lines t) ≡ get_or (decode t).gates i no_gate ∷ drop (i + 1) (gate_lines t)
    gate-next h = rw add-one (drop-cons (gate_lines t) i no_gate (omega (arith, gates-length)))

    pub output-next : i < outputs t → drop i (decode t).outputs ≡ get_or (decode t).outputs i 0 ∷ drop (i + 1) (decode t).outputs
    output-next h = rw add-one (drop-cons (decode t).outputs i 0 (omega (arith, outputs-length)))
