-- The backward pass over a lent buffer, whose first places it fills. Assumes nothing.
use mathlib.Core.Path.{◌≡◌, refl, sym, ap, ap₂, ◌∙◌}
use mathlib.Core.Logic.{◌≢◌}
use mathlib.Core.List.{List, ◌∷◌}
use Prim.Native.Nat.{ℕ, ◌+◌, ◌≤◌, ◌<◌}
use native.Mathlib.Nat.{add-zero}
use native.Mathlib.Omega.{arith}
use lib.ListN.{length, take, drop, get_or, set, replicate, length-set, length-drop, length-replicate}
use lib.Seq.{get_or-take, get_or-drop, drop-set-lt}
use Rattle.lists.proofs.Maps.{take-set}
use Rattle.lines.specs.Calls.{over}
use Rattle.circuit.specs.Circuit.{Gate, max_gates, first_gate, no_gate}
use Rattle.circuit.specs.Table.{inputs, gates, outputs, refs, gate_lines, decode}
use Rattle.circuit.specs.WellFormed.{WellFormed}
use Rattle.circuit.specs.Depth.{plus_counted}
use Rattle.circuit.specs.ReverseDepth.{mark_outputs, raise, raise_operands, raise_gates, reverse_depths, reverse_depth}
use Rattle.circuit.proofs.TableLaws.{gate-next, gates-length, output-next, outputs-length, refs-decode}
use Rattle.circuit.proofs.RefusalLaws.{left_below, right-below, output-below}
use Rattle.circuit.proofs.ValidLaws.{valid-decode}
use Rattle.circuit.proofs.PassLaws.{mark-more, mark-end, mark-length, raise-none, raise-more, raise-end, raise-live, raise-settled, operands-take, operands-drop, operands-length, zeros-at}
use Rattle.circuit.proofs.BoundLaws.{mark-bound, raise-bound, reverse-length}
use Rattle.circuit.proofs.BufferLaws.{over-take, over-drop, over-parts}

-- the two stores of a live gate
pub raise-both : (n : ℕ) (g : Gate) (d d1 d2 : List ℕ) (x : ℕ) → get_or d n 0 ≢ 0
    → x ≡ plus_counted g (get_or d n 0) → d1 ≡ raise d g.left x → d2 ≡ raise d1 g.right x → d2 ≡ raise_operands n g d
raise-both n g d d1 d2 x ne e f1 f2 =
    f2 ∙ ap (λ y. raise y g.right x) f1 ∙ ap (λ y. raise (raise d g.left y) g.right y) e ∙ sym (raise-live n g d ne)

-- what the pass begins with
abbrev pub marks : List ℕ → List ℕ
marks t = mark_outputs (decode t).outputs (replicate (refs t) 0)

-- the outputs before output i are marked, in a buffer that held d₀
pub record MarkedTo (t d₀ d : List ℕ) (i : ℕ) : Type 0 where
  pub marked : mark_outputs (drop i (decode t).outputs) (take (refs t) d) ≡ marks t
  pub beyond : drop (refs t) d ≡ drop (refs t) d₀
  pub long : length d ≡ length d₀

-- the gates from gate i on have raised their operands
pub record RaisedFrom (t d₀ d : List ℕ) (i : ℕ) : Type 0 where
  pub raised : take (refs t) d ≡ raise_gates (first_gate (inputs t) + i) (drop i (gate_lines t)) (marks t)
  pub beyond : drop (refs t) d ≡ drop (refs t) d₀
  pub long : length d ≡ length d₀

-- where the loop begins, the buffer that held `old` has zeros in front, or marks
module _ (t : List ℕ) where
  zeros : length (replicate {A = ℕ} (refs t) 0) ≡ refs t
  zeros = length-replicate {A = ℕ} (refs t) 0

  marks-length : length (marks t) ≡ refs t
  marks-length = mark-length (decode t).outputs (replicate (refs t) 0) ∙ zeros

module _ (t old d₀ : List ℕ) (e : d₀ ≡ over (replicate (refs t) 0) old) where
  pub marked-none : MarkedTo t d₀ d₀ 0
  marked-none =
      record {
        marked =
            ap (λ x. mark_outputs (decode t).outputs (take (refs t) x)) e
            ∙ ap (mark_outputs (decode t).outputs) (over-take (replicate (refs t) 0) old (refs t) (zeros t));
        beyond = refl;
        long = refl;
      }

  pub marked_all : (d : List ℕ) (i : ℕ) → MarkedTo t d₀ d i → outputs t ≤ i → d ≡ over (marks t) old
  marked_all d i f h =
      over-parts (marks t) old d (refs t) (marks-length t)
      (mark-end (decode t).outputs (replicate (refs t) 0) (take (refs t) d) i (omega (arith, outputs-length t)) f.marked)
      (f.beyond ∙ ap (drop (refs t)) e ∙ over-drop (replicate (refs t) 0) old (refs t) (zeros t))

module _ (t old d₀ : List ℕ) (e : d₀ ≡ over (marks t) old) where
  pub raised-none : RaisedFrom t d₀ d₀ (gates t)
  raised-none =
      record {
        raised =
            ap (take (refs t)) e ∙ over-take (marks t) old (refs t) (marks-length t)
            ∙ raise-none (first_gate (inputs t)) (gate_lines t) (marks t) (gates t) (omega (arith, gates-length t));
        beyond = refl;
        long = refl;
      }

  pub raised_all : (d : List ℕ) (i : ℕ) → RaisedFrom t d₀ d i → i ≡ 0 → d ≡ over (reverse_depths (decode t)) old
  unfolding reverse_depths
  raised_all d i f q =
      over-parts (reverse_depths (decode t)) old d (refs t) (reverse-length (decode t) ∙ refs-decode t)
      (raise-end (first_gate (inputs t)) (gate_lines t) (marks t) (take (refs t) d) i q f.raised
      ∙ ap (λ k. raise_gates (first_gate (inputs t)) (gate_lines t) (mark_outputs (decode t).outputs (replicate k 0))) (sym (refs-decode t)))
      (f.beyond ∙ ap (drop (refs t)) e ∙ over-drop (marks t) old (refs t) (marks-length t))

module _ (t d₀ d : List ℕ) (w : WellFormed t) (i : ℕ) where
  pub marked_more : MarkedTo t d₀ d i → i < outputs t → (o : ℕ) → o ≡ get_or (decode t).outputs i 0 → MarkedTo t d₀ (set d o 1) (i + 1)
  marked_more f h o e =
      let os = (decode t).outputs in
      record {
        marked =
            ap (mark_outputs (drop (i + 1) os)) (take-set (refs t) d o 1)
            ∙ mark-more os (replicate (refs t) 0) (take (refs t) d) i o (output-next t i h ∙ ap (λ x. x ∷ drop (i + 1) os) (sym e)) f.marked;
        beyond = drop-set-lt (refs t) d o 1 (omega (arith, output-below t w i h)) ∙ f.beyond;
        long = length-set d o 1 ∙ f.long;
      }

  module _ (f : RaisedFrom t d₀ d i) where
    -- gate j, which is g, of reference n
    pub raised-more : (d' : List ℕ) (j : ℕ) → i ≡ j + 1 → j < gates t → (n : ℕ) → n ≡ first_gate (inputs t) + j
        → (g : Gate) → g ≡ get_or (decode t).gates j no_gate → d' ≡ raise_operands n g d → RaisedFrom t d₀ d' j
    raised-more d' j q h n p g r e =
        let x = get_or (decode t).gates j no_gate in
        let v = first_gate (inputs t) + j in
        let e' : d' ≡ raise_operands v x d = e ∙ ap₂ (λ m y. raise_operands m y d) p r in
        record {
          raised =
              ap (take (refs t)) e' ∙ operands-take (refs t) v x d (omega arith)
              ∙ raise-more (first_gate (inputs t)) (gate_lines t) (marks t) (take (refs t) d) i j x q (gate-next t j h) f.raised;
          beyond =
              ap (drop (refs t)) e'
              ∙ operands-drop (refs t) v x d (omega (arith, left_below t w j h)) (omega (arith, right-below t w j h)) ∙ f.beyond;
          long = ap length e' ∙ operands-length v x d ∙ f.long;
        }

    -- no place is ever raised beyond the number of gates and 1
    pub raised-limit : (v : ℕ) → v < refs t → get_or d v 0 ≤ max_gates + 1
    raised-limit v l =
        omega (
          arith,
          get_or-take (refs t) d v 0 l,
          ap (λ x. get_or x v 0) f.raised,
          raise-bound (first_gate (inputs t) + i) (drop i (gate_lines t)) (marks t) 1
              (mark-bound (decode t).outputs (replicate (refs t) 0) (λ k. omega (arith, zeros-at (refs t) k))) v,
          length-drop i (gate_lines t),
          gates-length t,
          w.sized.gates-limit,
        )

    -- the gate whose turn comes has its reverse depth already
    pub raised-settled : (j : ℕ) → i ≡ j + 1 → j < gates t → get_or d (first_gate (inputs t) + j) 0 ≡ reverse_depth (decode t) (first_gate (inputs t) + j)
    unfolding reverse_depths
    raised-settled j q h =
        let k = first_gate (inputs t) + j in
        let e : drop k (raise_gates (first_gate (inputs t)) (gate_lines t) (marks t)) ≡ drop k (take (refs t) d) =
        raise-settled (first_gate (inputs t)) (gate_lines t) (marks t) i k (valid-decode t w).ordered (omega arith) ∙ ap (drop k) (sym f.raised) in
        sym (get_or-take (refs t) d k 0 (omega arith)) ∙ sym (head k _ _ e)
        ∙ ap (λ r. get_or (raise_gates (first_gate (inputs t)) (gate_lines t) (mark_outputs (decode t).outputs (replicate r 0))) k 0) (sym (refs-decode t))
      where
        head : (k : ℕ) (x y : List ℕ) → drop k x ≡ drop k y → get_or x k 0 ≡ get_or y k 0
        head k x y e =
            let s : (z : List ℕ) → get_or (drop k z) 0 0 ≡ get_or z k 0 = λ z. get_or-drop k z 0 0 ∙ ap (λ n. get_or z n 0) (add-zero k) in
            sym (s x) ∙ ap (λ z. get_or z 0 0) e ∙ s y

-- what a reader of the filled buffer knows
pub reverse-front : (t d₀ d : List ℕ) → d ≡ over (reverse_depths (decode t)) d₀ → take (refs t) d ≡ reverse_depths (decode t)
reverse-front t d₀ d e = ap (take (refs t)) e ∙ over-take (reverse_depths (decode t)) d₀ (refs t) (reverse-length (decode t) ∙ refs-decode t)
