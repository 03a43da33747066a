-- What loops over a well-formed table meet: reading values, the largest, the lines of the trimmed table. Assumes nothing.
use mathlib.Core.Path.{◌≡◌, sym, ap, ap₂, ◌∙◌}
use mathlib.Core.Bool.{Bool, true, false, ◌||◌}
use mathlib.Core.List.{List, [], ◌∷◌, ◌++◌, map}
use Prim.Native.Nat.{ℕ, ◌+◌, ◌*◌, ◌≤◌, ◌<◌, max}
use native.Mathlib.Omega.{arith}
use lib.Dec.{ltb}
use lib.ListN.{length, take, drop, get_or, length-map, drop_of_length-le}
use lib.Seq.{get_or-take}
use borrow.Author.Tests.{le-ltb}
use Rattle.lists.proofs.Maps.{take-read}
use Rattle.circuit.specs.Circuit.{Gate, closing_kind, first_gate}
use Rattle.circuit.specs.Table.{inputs, gates, outputs, refs, starts, closing_line, decode, encode_lines, encode}
use Rattle.circuit.specs.Fold.{gate_value}
use Rattle.circuit.specs.Depth.{largest}
use Rattle.circuit.specs.ReverseDepth.{reverse_depths, is_live}
use Rattle.circuit.specs.Trim.{rename_gate, rank, keep_gates, is_kept, trimmed_gates, trimmed_outputs, trim, trim_of}
use Rattle.circuit.proofs.TableLaws.{outputs-length}
use Rattle.circuit.proofs.EncodingLaws.{encode-cons, encode-starts}
use Rattle.circuit.proofs.RankLaws.{keep-kept, keep-gone, keep-end}

-- a gate's value from an array whose first k places are known
pub value_read : {A : Type 0} (op : ℕ → A → A → A) (z : A) (g : Gate) (k : ℕ) (d : List A) → g.left < k → g.right < k
    → op g.kind (get_or d g.left z) (get_or d g.right z) ≡ gate_value op z g (take k d)
value_read op z g k d l r = ap₂ (op g.kind) (sym (get_or-take k d g.left z l)) (sym (get_or-take k d g.right z r))

-- whether gate i is kept, by an array u of the reverse depths
pub kept_read : (t u : List ℕ) → take (refs t) u ≡ reverse_depths (decode t) → (i : ℕ) → i < gates t
    → ltb 0 (get_or u (first_gate (inputs t) + i) 0) ≡ is_kept (decode t) (first_gate (inputs t) + i)
kept_read t u e i h =
    let v = first_gate (inputs t) + i in
    let low : ltb v (first_gate (inputs t)) ≡ false = le-ltb v (first_gate (inputs t)) (omega arith) in
    ap (ltb 0) (take-read (refs t) u (reverse_depths (decode t)) v 0 e (omega arith)) ∙ sym (ap (λ b. b || is_live (decode t) v) low)

-- a loop for the largest of f o, which has come to element i of os, with x the largest so far
module _ (f : ℕ → ℕ) (os : List ℕ) where
  pub largest-none : max 0 (largest (map f (drop 0 os))) ≡ largest (map f os)
  largest-none = omega arith

  module _ (i x : ℕ) (inv : max x (largest (map f (drop i os))) ≡ largest (map f os)) where
    pub largest-more : (o : ℕ) → drop i os ≡ o ∷ drop (i + 1) os → max (max x (f o)) (largest (map f (drop (i + 1) os))) ≡ largest (map f os)
    unfolding largest
    largest-more o e =
        let y : max x (max (f o) (largest (map f (drop (i + 1) os)))) ≡ largest (map f os) = rw e at inv in
        omega arith

    pub largest-end : length os ≤ i → x ≡ largest (map f os)
    unfolding largest
    largest-end h =
        let y : max x 0 ≡ largest (map f os) = rw (drop_of_length-le os h) at inv in
        omega arith

-- ---- the trimmed table, line by line

-- the head, the starting lines of the table that is trimmed, then what is appended to them
pub trim-lines : (t : List ℕ)
    → trim_of t ≡ inputs t ∷ length (trimmed_gates (decode t)) ∷ outputs t
    ∷ (take (3 * starts t) (drop 3 t) ++ (encode_lines (trimmed_gates (decode t))
    ++ encode_lines (map closing_line (trimmed_outputs (decode t)))))
unfolding encode trim
trim-lines t = rw (length-map, outputs-length t, encode-starts t)

module _ (kept : ℕ → Bool) (n : ℕ) (gs : List Gate) (i : ℕ) (g : Gate) (e : drop i gs ≡ g ∷ drop (i + 1) gs) where
  pub append-kept : kept (n + i) ≡ true
      → encode_lines (keep_gates kept (n + i) (drop i gs))
      ≡ g.kind ∷ rank kept g.left ∷ rank kept g.right ∷ encode_lines (keep_gates kept (n + (i + 1)) (drop (i + 1) gs))
  append-kept k = ap encode_lines (keep-kept kept n gs i g e k) ∙ encode-cons (rename_gate (rank kept) g) _

  pub append-gone : kept (n + i) ≡ false
      → encode_lines (keep_gates kept (n + i) (drop i gs)) ≡ encode_lines (keep_gates kept (n + (i + 1)) (drop (i + 1) gs))
  append-gone k = ap encode_lines (keep-gone kept n gs i g e k)

pub append-gates-end : (kept : ℕ → Bool) (n : ℕ) (gs : List Gate) (i : ℕ) → length gs ≤ i → encode_lines (keep_gates kept (n + i) (drop i gs)) ≡ []
unfolding encode_lines
append-gates-end kept n gs i h = rw (keep-end kept n gs i h)

pub append-closing : (ρ : ℕ → ℕ) (os : List ℕ) (i o : ℕ) → drop i os ≡ o ∷ drop (i + 1) os
    → encode_lines (map closing_line (map ρ (drop i os))) ≡ closing_kind ∷ ρ o ∷ 0 ∷ encode_lines (map closing_line (map ρ (drop (i + 1) os)))
append-closing ρ os i o e = ap (λ l. encode_lines (map closing_line (map ρ l))) e ∙ encode-cons (closing_line (ρ o)) _

pub append-closings-end : (ρ : ℕ → ℕ) (os : List ℕ) (i : ℕ) → length os ≤ i → encode_lines (map closing_line (map ρ (drop i os))) ≡ []
unfolding encode_lines
append-closings-end ρ os i h = rw (drop_of_length-le os h)
