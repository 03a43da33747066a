-- The loop that counts the critical gates on its way back, by an array of depths and one of reverse depths that are being raised. Assumes
-- nothing.
use mathlib.Core.Path.{◌≡◌, refl, ap, ap₂, ◌∙◌}
use mathlib.Core.Bool.{Bool, true, false, ◌&&◌}
use mathlib.Core.List.{List}
use Prim.Native.Nat.{ℕ, ◌+◌, ◌-◌, ◌≤◌, ◌<◌}
use native.Mathlib.Omega.{arith}
use lib.Dec.{eqb, ltb}
use lib.ListN.{take, drop, get_or, length-drop}
use borrow.Author.Tests.{lt-ltb, le-ltb}
use Rattle.lists.specs.First.{first}
use Rattle.lists.proofs.Maps.{take-read}
use Rattle.circuit.specs.Circuit.{Gate, max_gates, max_depth, first_gate, no_gate}
use Rattle.circuit.specs.Table.{inputs, gates, refs, gate_lines, decode}
use Rattle.circuit.specs.WellFormed.{WellFormed}
use Rattle.circuit.specs.Each.{count_gates}
use Rattle.circuit.specs.Depth.{is_counted, depths, circuit_depth}
use Rattle.circuit.specs.Critical.{is_critical, critical_count}
use Rattle.circuit.proofs.TableLaws.{gate-next, gates-length}
use Rattle.circuit.proofs.EachLaws.{count_none, count-more, count-le}
use Rattle.circuit.proofs.BoundLaws.{depth_le}
use Rattle.circuit.proofs.BackwardLaws.{RaisedFrom, raised-settled}

-- the test in the order that the code has
pub critical-dead : (a b : Bool) (reverse : ℕ) → reverse ≡ 0 → (a && (ltb 0 reverse && b)) ≡ false
critical-dead true b reverse e = ap (λ x. x && b) (le-ltb 0 reverse (omega arith))
critical-dead false b reverse e = refl

pub critical-live : (a b : Bool) (reverse : ℕ) → 0 < reverse → (a && (ltb 0 reverse && b)) ≡ (a && b)
critical-live a b reverse h = ap (λ x. a && (x && b)) (lt-ltb 0 reverse h)

-- the critical ones of the gates from gate i on
abbrev pub CountedFrom : (t : List ℕ) (count i : ℕ) → Type 0
CountedFrom t count i = count ≡ count_gates (is_critical (decode t)) (first_gate (inputs t) + i) (drop i (gate_lines t))

module _ (t : List ℕ) where
  pub counted_none : CountedFrom t 0 (gates t)
  counted_none = count_none (is_critical (decode t)) (first_gate (inputs t)) (gate_lines t) (gates t) (omega (arith, gates-length t))

  module _ (count i : ℕ) (k : CountedFrom t count i) where
    pub counted-all : i ≡ 0 → count ≡ critical_count (decode t)
    unfolding critical_count
    counted-all e =
        let s : first_gate (inputs t) + i ≡ first_gate (inputs t) = omega arith in
        k ∙ ap₂ (λ n j. count_gates (is_critical (decode t)) n (drop j (gate_lines t))) s e

    pub count-limit : WellFormed t → count ≤ max_gates
    count-limit w =
        omega (
          arith,
          count-le (is_critical (decode t)) (first_gate (inputs t) + i) (drop i (gate_lines t)),
          length-drop i (gate_lines t),
          gates-length t,
          w.sized.gates-limit,
        )

    -- gate j, of reference v, whose turn comes
    module _ (d : List ℕ) (w : WellFormed t) (e : take (refs t) d ≡ depths (decode t)) (j : ℕ) (h : j < gates t) (v : ℕ) (n : v ≡ first_gate (inputs t) + j) where
      depth-read : get_or d v 0 ≡ get_or (depths (decode t)) v 0
      depth-read = take-read (refs t) d (depths (decode t)) v 0 e (omega arith)

      pub depth-fits : get_or d v 0 ≤ max_depth
      depth-fits = omega (arith, depth-read, depth_le (decode t) w.starts-right v, gates-length t, w.sized.gates-limit)

      pub counted-more : (u₀ u : List ℕ) → RaisedFrom t u₀ u i → i ≡ j + 1 → (g : Gate) → g ≡ get_or (decode t).gates j no_gate
          → (deepest : ℕ) → deepest ≡ circuit_depth (decode t)
          → (x : ℕ) → x ≡ first (is_counted g && (ltb 0 (get_or u v 0) && eqb (get_or d v 0 + (get_or u v 0 - 1)) deepest)) 1 0
          → CountedFrom t (count + x) j
      counted-more u₀ u f q g p deepest z x r =
          let test : Gate → ℕ → ℕ → ℕ → Bool = λ a y b m. is_counted a && (ltb 0 b && eqb (y + (b - 1)) m) in
          let b = get_or (decode t).gates j no_gate in
          let reverse-read = ap (λ m. get_or u m 0) n ∙ raised-settled t u₀ u w i f j q h in
          let same : test g (get_or d v 0) (get_or u v 0) deepest ≡ is_critical (decode t) (first_gate (inputs t) + j) b =
          ap₂ (λ a m. test a (get_or d v 0) (get_or u v 0) m) p z
          ∙ ap₂ (λ y r. test b y r (circuit_depth (decode t))) (depth-read ∙ ap (λ m. get_or (depths (decode t)) m 0) n) reverse-read in
          ap (λ y. count + y) (r ∙ ap (λ c. first c 1 0) same)
          ∙ count-more (is_critical (decode t)) (first_gate (inputs t)) (gate_lines t) i j count b q (gate-next t j h) k
