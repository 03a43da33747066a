-- Lengths and bounds of what is computed, so that no loop's sum wraps; and the evaluator gives bits. Assumes nothing.
use mathlib.Core.Path.{◌≡◌, ◌∙◌}
use mathlib.Core.Bool.{Bool, true, false}
use mathlib.Core.List.{List, [], ◌∷◌, ◌++◌, map}
use Prim.Native.Nat.{ℕ, zero, suc, ◌+◌, ◌≤◌, ◌<◌, max}
use native.Mathlib.Decide.{dec_lt, ℕ_discrete}
use native.Mathlib.Omega.{arith}
use lib.Bits.{and_lt, xor_lt}
use lib.Dec.{eqb}
use lib.ListN.{length, get_or, set, replicate, length-map, length-replicate}
use lib.Seq.{get_or-set_same, get_or-set_other, set_out}
use Rattle.lists.specs.First.{first}
use Rattle.lists.specs.Each.{append_each}
use Rattle.lists.proofs.First.{first_either}
use Rattle.lists.proofs.Each.{each-length}
use Rattle.circuit.specs.Circuit.{Gate, Start, Circuit, and_kind, max_level, constants, first_gate, references}
use Rattle.circuit.specs.Refusal.{starts_ascend, starts_right}
use Rattle.circuit.specs.Evaluation.{bit_op, bit_of, start_bits, bits, evaluate}
use Rattle.circuit.specs.Depth.{plus_counted, gate_depth, is_counted, set_levels, start_levels, depths, depth, largest, circuit_depth}
use Rattle.circuit.specs.ReverseDepth.{mark_outputs, raise, raise_operands, raise_gates, reverse_depths}
use Rattle.circuit.specs.Critical.{is_critical, critical_count}
use Rattle.circuit.specs.Theorems.{EvaluationGivesBits}
use Rattle.circuit.proofs.EachLaws.{count-le}
use Rattle.circuit.proofs.FoldLaws.{one_more, fold-keeps}
use Rattle.circuit.proofs.PassLaws.{zeros-at, mark-length, raise-length}
use Rattle.circuit.proofs.StartLaws.{right-head, right-tail, start-length}

-- ---- lengths

module _ (c : Circuit) where
  pub depths-length : length (depths c) ≡ references c
  unfolding depths
  depths-length =
      each-length gate_depth c.gates (start_levels c) ∙ omega (arith, start-length c)

  pub reverse-length : length (reverse_depths c) ≡ references c
  unfolding reverse_depths
  reverse-length =
      raise-length (first_gate c.inputs) c.gates _ ∙ mark-length c.outputs (replicate (references c) 0) ∙ length-replicate {A = ℕ} (references c) 0

-- ---- bounds of arrays: every element is at most b

pub store-bound : (d : List ℕ) (p v b : ℕ) → ((k : ℕ) → get_or d k 0 ≤ b) → v ≤ b → (k : ℕ) → get_or (set d p v) k 0 ≤ b
store-bound d p v b all h k = at (ℕ_discrete k p) (dec_lt p (length d))
  where
    at : Dec (k ≡ p) → Dec (p < length d) → get_or (set d p v) k 0 ≤ b
    at (no ne) q = rw (get_or-set_other d p k v 0 ne) (all k)
    at (yes e) (yes q) = rw (e, get_or-set_same d p v 0 q) h
    at (yes e) (no q) = rw (set_out d p v (omega arith)) (all k)

pub plus-bound : (g : Gate) (x b : ℕ) → x ≤ b → plus_counted g x ≤ b + 1
plus-bound g x b h = first_either (λ y. y ≤ b + 1) (is_counted g) (omega arith) (omega arith)

depth-bound : (g : Gate) (d : List ℕ) (b : ℕ) → ((r : ℕ) → get_or d r 0 ≤ b) → gate_depth g d ≤ b + 1
depth-bound g d b h = plus-bound g (max (get_or d g.left 0) (get_or d g.right 0)) b (omega (arith, h g.left, h g.right))

pub mark-bound : (os d : List ℕ) → ((k : ℕ) → get_or d k 0 ≤ 1) → (k : ℕ) → get_or (mark_outputs os d) k 0 ≤ 1
unfolding mark_outputs
mark-bound [] d all = all
mark-bound (o ∷ os) d all = mark-bound os (set d o 1) (store-bound d o 1 1 all (omega arith))

pub operands-bound : (n : ℕ) (g : Gate) (d : List ℕ) (b : ℕ) → ((k : ℕ) → get_or d k 0 ≤ b) → (k : ℕ) → get_or (raise_operands n g d) k 0 ≤ b + 1
unfolding raise_operands
operands-bound n g d b all k = go (eqb (get_or d n 0) 0) (plus_counted g (get_or d n 0)) (plus-bound g (get_or d n 0) b (all n))
  where
    raise-bound : (e : List ℕ) (v x : ℕ) → ((k : ℕ) → get_or e k 0 ≤ b + 1) → x ≤ b + 1 → (k : ℕ) → get_or (raise e v x) k 0 ≤ b + 1
    raise-bound e v x h q = store-bound e v (max (get_or e v 0) x) (b + 1) h (omega (arith, h v))

    go : (t : Bool) (x : ℕ) → x ≤ b + 1 → get_or (first t d (raise (raise d g.left x) g.right x)) k 0 ≤ b + 1
    go true x h = omega (arith, all k)
    go false x h = raise-bound (raise d g.left x) g.right x (raise-bound d g.left x (λ j. omega (arith, all j)) h) h k

pub raise-bound : (n : ℕ) (gs : List Gate) (d : List ℕ) (b : ℕ) → ((k : ℕ) → get_or d k 0 ≤ b) → (k : ℕ) → get_or (raise_gates n gs d) k 0 ≤ b + length gs
unfolding raise_gates
raise-bound n [] d b all k = omega (arith, all k)
raise-bound n (g ∷ gs) d b all k =
    omega (arith, operands-bound n g (raise_gates (suc n) gs d) (b + length gs) (raise-bound (suc n) gs d b all) k)

-- no level is above the largest
levels-bound : (top low : ℕ) (ss : List Start) (d : List ℕ) → starts_ascend top low ss ≡ true → ((k : ℕ) → get_or d k 0 ≤ max_level)
    → (k : ℕ) → get_or (set_levels ss d) k 0 ≤ max_level
unfolding set_levels
levels-bound top low [] d e all = all
levels-bound top low (s ∷ ss) d e all =
    levels-bound top (suc s.input) ss (set d s.input s.level) (right-tail top low s ss e)
    (store-bound d s.input s.level max_level all (right-head top low s ss e).limit)

start-bound : (c : Circuit) → starts_right c ≡ true → (k : ℕ) → get_or (start_levels c) k 0 ≤ max_level
unfolding start_levels
start-bound c e = levels-bound (first_gate c.inputs) constants c.starts (replicate (first_gate c.inputs) 0) e (λ k. omega (arith, zeros-at (first_gate c.inputs) k))

largest-bound : (xs : List ℕ) (b : ℕ) → ((i : ℕ) → get_or xs i 0 ≤ b) → largest xs ≤ b
unfolding largest
largest-bound [] b h = omega arith
largest-bound (x ∷ xs) b h = omega (arith, h 0, largest-bound xs b (λ i. h (suc i)))

-- what holds of f o for every o, and of z, holds of each element of a mapped list
mapped : (P : ℕ → Type 0) (f : ℕ → ℕ) (z : ℕ) → P z → ((o : ℕ) → P (f o)) → (os : List ℕ) (i : ℕ) → P (get_or (map f os) i z)
mapped P f z pz h [] i = pz
mapped P f z pz h (o ∷ os) zero = h o
mapped P f z pz h (o ∷ os) (suc i) = mapped P f z pz h os i

-- ---- of a circuit

each-depth : (gs : List Gate) (vs : List ℕ) (b : ℕ) → ((r : ℕ) → get_or vs r 0 ≤ b) → (r : ℕ) → get_or (append_each gate_depth gs vs) r 0 ≤ b + length gs
unfolding append_each
each-depth [] vs b h r = omega (arith, h r)
each-depth (g ∷ gs) vs b h r =
    omega (
      arith,
      each-depth gs (vs ++ (gate_depth g vs ∷ [])) (b + 1)
          (one_more (λ x. x ≤ b + 1) 0 (omega arith) vs (gate_depth g vs) (λ k. omega (arith, h k))
          (depth-bound g vs b h)) r,
    )

module _ (c : Circuit) where
  pub depth_le : starts_right c ≡ true → (v : ℕ) → depth c v ≤ max_level + length c.gates
  unfolding depths
  depth_le e = each-depth c.gates (start_levels c) max_level (start-bound c e)

  pub circuit-depth-le : starts_right c ≡ true → circuit_depth c ≤ max_level + length c.gates
  unfolding circuit_depth
  circuit-depth-le e =
      largest-bound _ (max_level + length c.gates) (mapped (λ x. x ≤ max_level + length c.gates) (depth c) 0 (omega arith) (depth_le e) c.outputs)

  pub critical-count-le : critical_count c ≤ length c.gates
  unfolding critical_count
  critical-count-le = count-le (is_critical c) (first_gate c.inputs) c.gates

-- ---- bits

pub bit-op : (kind a b : ℕ) → a < 2 → b < 2 → bit_op kind a b < 2
unfolding bit_op
bit-op kind a b h k = first_either (λ x. x < 2) (eqb kind and_kind) (and_lt 1 a b h k) (xor_lt 1 a b h k)

pub bits-bit : (c : Circuit) (bytes : List ℕ) (v : ℕ) → get_or (bits c bytes) v 0 < 2
unfolding bits
bits-bit c bytes = fold-keeps bit_op 0 (λ x. x < 2) (omega arith) bit-op c.gates (start_bits bytes) start
  where
    start : (r : ℕ) → get_or (start_bits bytes) r 0 < 2
    start zero = omega arith
    start (suc zero) = omega arith
    start (suc (suc r)) = mapped (λ x. x < 2) bit_of 0 (omega arith) (λ b. first_either (λ x. x < 2) (eqb b 0) (omega arith) (omega arith)) bytes r

pub evaluation-gives-bits : EvaluationGivesBits
unfolding evaluate
evaluation-gives-bits c bytes = (length-map c.outputs _, mapped (λ x. x < 2) (λ o. get_or (bits c bytes) o 0) 0 (omega arith) (bits-bit c bytes) c.outputs)
