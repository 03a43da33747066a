-- The loops over depths: filling a buffer with them, and the largest of the outputs. Assumes nothing.
use mathlib.Core.Path.{◌≡◌, sym, ap, ◌∙◌}
use mathlib.Core.List.{List, ◌∷◌, ◌++◌, map}
use Prim.Native.Nat.{ℕ, ◌+◌, ◌*◌, ◌≤◌, ◌<◌, max}
use native.Mathlib.Nat.{add-zero}
use native.Mathlib.Omega.{arith}
use lib.ListN.{length, take, drop, get_or, set, replicate, length-replicate, drop_of_length-le}
use Rattle.lists.proofs.Maps.{take-read}
use Rattle.lines.specs.Calls.{over}
use Rattle.circuit.specs.Circuit.{Gate, max_depth, constants, first_gate, no_gate}
use Rattle.circuit.specs.Table.{inputs, gates, outputs, refs, starts, line_at, start_of, gate_lines, decode}
use Rattle.circuit.specs.WellFormed.{WellFormed}
use Rattle.circuit.specs.Depth.{gate_depth, set_levels, start_levels, depths, depth, largest, circuit_depth}
use Rattle.circuit.proofs.TableLaws.{starts-length, start-step, gate-next, gates-length, output-next, outputs-length, refs-decode}
use Rattle.circuit.proofs.RefusalLaws.{left_below, right-below, output-below}
use Rattle.circuit.proofs.BoundLaws.{depth_le, depths-length}
use Rattle.circuit.proofs.MultiplicativeDepthLaws.{depth-read}
use Rattle.circuit.proofs.StartLaws.{Right, right-at, start-length, levels-length, levels-front}
use Rattle.circuit.proofs.LoopLaws.{largest-more, largest-end}
use Rattle.lists.proofs.Each.{each-begin, FilledOver, filled-over-from, filled-over-more, filled-over-read, filled-over-all}
use Rattle.circuit.proofs.BufferLaws.{over-take, over-over}

-- ---- the starting lines, one after the other, with line i next

module _ (t d₀ d : List ℕ) (w : WellFormed t) (i : ℕ) (inv : set_levels (drop i (decode t).starts) d ≡ set_levels (decode t).starts d₀) where
  pub line-right : i < starts t → Right (first_gate (inputs t)) constants (start_of (line_at t (3 + 3 * i)))
  line-right h = right-at (first_gate (inputs t)) constants (decode t).starts _ i _ w.starts-right (start-step t i h)

  pub levels-more : i < starts t
      → set_levels (drop (i + 1) (decode t).starts) (set d (get_or t (3 + 3 * i + 1) 0) (get_or t (3 + 3 * i + 2) 0)) ≡ set_levels (decode t).starts d₀
  unfolding set_levels
  levels-more h = rw (start-step t i h) at inv

  pub levels-end : starts t ≤ i → d ≡ set_levels (decode t).starts d₀
  unfolding set_levels
  levels-end h =
      let l : length (decode t).starts ≤ i = omega (arith, starts-length t) in
      rw (drop_of_length-le (decode t).starts l) at inv

-- zeros first, then the levels in them
pub levels-over : (t d₀ d d' : List ℕ) → WellFormed t → d ≡ over (replicate (first_gate (inputs t)) 0) d₀ → d' ≡ set_levels (decode t).starts d
    → d' ≡ over (start_levels (decode t)) d₀
unfolding start_levels
levels-over t d₀ d d' w e f =
    let n = first_gate (inputs t) in
    f ∙ ap (set_levels (decode t).starts) e
    ∙ levels-front n constants (decode t).starts (replicate n 0) (drop (length (replicate {A = ℕ} n 0)) d₀) w.starts-right (length-replicate {A = ℕ} n 0)
    ∙ ap (λ k. set_levels (decode t).starts (replicate n 0) ++ drop k d₀) (sym (levels-length (decode t).starts (replicate n 0)))

-- ---- the gates

-- the depths of the first i gates are there, behind those of the constants and inputs
abbrev pub DepthsTo : (t d₀ d : List ℕ) (i : ℕ) → Type 0
DepthsTo t d₀ d i = FilledOver gate_depth (gate_lines t) (start_levels (decode t)) (first_gate (inputs t)) d₀ d i

module _ (t d₀ : List ℕ) where
  -- those of the first i gates are there from the beginning
  pub depths-resumed : (i : ℕ) → take (first_gate (inputs t) + i) d₀ ≡ take (first_gate (inputs t) + i) (depths (decode t)) → DepthsTo t d₀ d₀ i
  unfolding depths
  depths-resumed i e =
      filled-over-from gate_depth (gate_lines t) (start_levels (decode t)) (first_gate (inputs t)) d₀ i (start-length (decode t)) e

  module _ (w : WellFormed t) (fits : refs t ≤ length d₀) (d : List ℕ) (i : ℕ) (f : DepthsTo t d₀ d i) where
    pub depth-limit : i ≤ gates t → (k : ℕ) → k < first_gate (inputs t) + i → get_or d k 0 ≤ max_depth
    unfolding depths
    depth-limit h k l =
        omega (
          arith,
          filled-over-read gate_depth (gate_lines t) (start_levels (decode t)) (first_gate (inputs t)) d₀ d i f (omega arith) k 0 l,
          depth_le (decode t) w.starts-right k,
          gates-length t,
          w.sized.gates-limit,
        )

    pub depths-more : i < gates t → (m : ℕ) → m ≡ first_gate (inputs t) → (v : ℕ) (g : Gate) → g ≡ get_or (decode t).gates i no_gate
        → v ≡ gate_depth g d → DepthsTo t d₀ (set d (m + i) v) (i + 1)
    depths-more h m n v g q e =
        let x = get_or (decode t).gates i no_gate in
        rw n
        (filled-over-more gate_depth (gate_lines t) (start_levels (decode t)) (first_gate (inputs t)) d₀ d i f v x (gate-next t i h) (omega arith)
        (e ∙ ap (λ y. gate_depth y d) q ∙ sym (depth-read x (first_gate (inputs t) + i) d (left_below t w i h) (right-below t w i h))))

    pub depths-all : i ≤ gates t → gates t ≤ i → d ≡ over (depths (decode t)) d₀
    unfolding depths
    depths-all h k =
        filled-over-all gate_depth (gate_lines t) (start_levels (decode t)) (first_gate (inputs t)) d₀ d i f (omega arith) (omega (arith, gates-length t))

-- the starting levels first, then the depths over them
module _ (t d₀ d : List ℕ) (e : d ≡ over (start_levels (decode t)) d₀) where
  long : length (start_levels (decode t)) ≡ first_gate (inputs t)
  long = start-length (decode t)

  pub depths-none : take (first_gate (inputs t) + 0) d ≡ take (first_gate (inputs t) + 0) (depths (decode t))
  unfolding depths
  depths-none =
      rw add-zero
      (ap (take (first_gate (inputs t))) e ∙ over-take (start_levels (decode t)) d₀ (first_gate (inputs t)) long
      ∙ sym (each-begin gate_depth (gate_lines t) (start_levels (decode t)) (first_gate (inputs t)) long))

  pub depths-over : (d' : List ℕ) → d' ≡ over (depths (decode t)) d → d' ≡ over (depths (decode t)) d₀
  depths-over d' f =
      f ∙ ap (over (depths (decode t))) e
      ∙ over-over (depths (decode t)) (start_levels (decode t)) d₀ (omega (arith, depths-length (decode t), refs-decode t, long))

-- what a reader of the filled buffer knows
pub depths-front : (t d₀ d : List ℕ) → d ≡ over (depths (decode t)) d₀ → take (refs t) d ≡ depths (decode t)
depths-front t d₀ d e = ap (take (refs t)) e ∙ over-take (depths (decode t)) d₀ (refs t) (depths-length (decode t) ∙ refs-decode t)

-- one output more in the largest depth
module _ (t d : List ℕ) (w : WellFormed t) (e : take (refs t) d ≡ depths (decode t)) where
  pub deepest-more : (i x : ℕ) → max x (largest (map (depth (decode t)) (drop i (decode t).outputs))) ≡ largest (map (depth (decode t)) (decode t).outputs)
      → i < outputs t → (o x' : ℕ) → o ≡ get_or (decode t).outputs i 0 → x' ≡ max x (get_or d o 0)
      → max x' (largest (map (depth (decode t)) (drop (i + 1) (decode t).outputs))) ≡ largest (map (depth (decode t)) (decode t).outputs)
  deepest-more i x inv h o x' p q =
      let os = (decode t).outputs in
      let r : x' ≡ max x (depth (decode t) o) = q ∙ ap (max x) (take-read (refs t) d (depths (decode t)) o 0 e (omega (arith, output-below t w i h))) in
      ap (λ y. max y (largest (map (depth (decode t)) (drop (i + 1) os)))) r
      ∙ largest-more (depth (decode t)) os i x inv o (output-next t i h ∙ ap (λ y. y ∷ drop (i + 1) os) (sym p))

  pub deepest-all : (i x : ℕ) → max x (largest (map (depth (decode t)) (drop i (decode t).outputs))) ≡ largest (map (depth (decode t)) (decode t).outputs)
      → outputs t ≤ i → x ≡ circuit_depth (decode t)
  unfolding circuit_depth
  deepest-all i x inv h = largest-end (depth (decode t)) (decode t).outputs i x inv (omega (arith, outputs-length t))
