-- A substitution carries the left side's values: what its references stand for have the values that they have, on every input.
-- Assumes nothing.
use mathlib.Core.Path.{◌≡◌, refl, sym, ap, ap₂, ◌∙◌}
use mathlib.Core.Bool.{Bool, true, false}
use mathlib.Core.List.{List}
use Prim.Native.Nat.{ℕ, zero, suc, ◌+◌, ◌<◌}
use native.Mathlib.Omega.{arith}
use lib.Bits.{and_comm, xor_comm}
use lib.ListN.{length, get_or, length-map}
use Rattle.lists.specs.First.{first}
use Rattle.lists.proofs.Below.{below_length, below-element}
use Rattle.circuit.specs.Circuit.{Circuit, constants, first_gate, no_gate, gate_at}
use Rattle.circuit.specs.Fold.{fold_gates}
use Rattle.circuit.specs.Valuation.{Ordered, Solves}
use Rattle.circuit.specs.Evaluation.{bit_op, bit_of, start_bits, bits}
use Rattle.circuit.proofs.EachLaws.{each_of}
use Rattle.circuit.proofs.GateLaws.{at-gate}
use Rattle.circuit.proofs.FoldLaws.{simulation, fold-solves, fold-keeps-start}
use Rattle.circuit.proofs.BoundLaws.{bits-bit}
use Rattle.rules.specs.Rule.{Rule, hole, root}
use Rattle.rules.specs.WellFormed.{ValidRule}
use Rattle.rules.specs.Soundness.{start_holes, left_value}
use Rattle.rules.specs.Match.{bound_to, is_swapped}
use Rattle.rules.specs.Substitution.{Substitution}
use Rattle.rules.specs.Theorems.{SubstitutionCarriesValues, MatchedGateHasValue}
use Rattle.rules.proofs.SoundnessLaws.{sound-is-agreement}
use Rattle.rules.proofs.MatchLaws.{some-coded}
use Rattle.rules.proofs.SubstitutionLaws.{left-coded, right-coded}

pub substitution-carries-values : SubstitutionCarriesValues
substitution-carries-values A op z comm c u w gate mask b s v sol start len old r h =
    simulation A op (λ r. Unit {0}) (bound_to b) (λ r. get_or (fold_gates op z u.lefts start) r z) v n₀ u.lefts w.lefts-ordered
    (fold-solves A op z u.lefts start n₀ len w.lefts-ordered)
    (each_of _ n₀ u.lefts (λ i l t. (tt, tt, gate-value i l)))
    (λ r l t. old r l ∙ sym ((fold-keeps-start A op z u.lefts start).1 r (omega arith))) r h tt
  where
    n₀ : ℕ
    n₀ = first_gate u.holes

    gate-value : (i : ℕ) → i < length u.lefts
        → v (bound_to b (n₀ + i)) ≡ op (get_or u.lefts i no_gate).kind (v (bound_to b (get_or u.lefts i no_gate).left)) (v (bound_to b (get_or u.lefts i no_gate).right))
    gate-value i l =
        let g = get_or u.lefts i no_gate in
        let f = s.gates-bound i l in
        let m = bound_to b (n₀ + i) in
        let q = at-gate c m f.is-gate (λ m g. v m ≡ op g.kind (v g.left) (v g.right)) sol in
        let x : bound_to b g.left ≡ first (is_swapped mask i) (gate_at c m).right (gate_at c m).left = omega (arith, left-coded c b (n₀ + i) g (is_swapped mask i) f) in
        let y : bound_to b g.right ≡ first (is_swapped mask i) (gate_at c m).left (gate_at c m).right = omega (arith, right-coded c b (n₀ + i) g (is_swapped mask i) f) in
        q ∙ ap (λ k. op k (v (gate_at c m).left) (v (gate_at c m).right)) f.kind
        ∙ crossed (is_swapped mask i) g.kind (gate_at c m).left (gate_at c m).right
        ∙ ap₂ (λ x y. op g.kind (v x) (v y)) (sym x) (sym y)
      where
        crossed : (p : Bool) (k x y : ℕ) → op k (v x) (v y) ≡ op k (v (first p y x)) (v (first p x y))
        crossed true k x y = comm k (v x) (v y)
        crossed false k x y = refl

pub gate-comm : (k a b : ℕ) → bit_op k a b ≡ bit_op k b a
unfolding bit_op
gate-comm k a b = rw (and_comm a b, xor_comm a b)

-- the bits of what the holes stand for
module _ (c : Circuit) (ok : Ordered (first_gate c.inputs) c.gates) (u : Rule) (w : ValidRule u) (gate mask : ℕ) (b : List ℕ)
    (s : Substitution c u gate mask b) (bytes : List ℕ) (e : length bytes ≡ c.inputs) where
  abbrev value : ℕ → ℕ
  value r = get_or (bits c bytes) r 0

  abbrev hole_bits : List ℕ
  hole_bits = start_holes u.holes (λ j. value (bound_to b (hole j)))

  inputs-length : length (start_bits bytes) ≡ first_gate c.inputs
  inputs-length = omega (arith, length-map bytes bit_of)

  solved : Solves bit_op value (first_gate c.inputs) c.gates
  unfolding bits
  solved = fold-solves ℕ bit_op 0 c.gates (start_bits bytes) (first_gate c.inputs) inputs-length ok

  constant : (r : ℕ) → r < constants → value r ≡ get_or (start_bits bytes) r 0
  unfolding bits
  constant r h = (fold-keeps-start ℕ bit_op 0 c.gates (start_bits bytes)).1 r (omega (arith, inputs-length))

  pub hole-bits : (r : ℕ) → r < first_gate u.holes → value (bound_to b r) ≡ get_or hole_bits r 0
  hole-bits zero h =
      let k : bound_to b 0 ≡ 0 = omega (arith, some-coded b 0 0 s.zero-bound) in
      ap value k ∙ constant 0 (omega arith)
  hole-bits (suc zero) h =
      let k : bound_to b 1 ≡ 1 = omega (arith, some-coded b 1 1 s.one-bound) in
      ap value k ∙ constant 1 (omega arith)
  hole-bits (suc (suc j)) h =
      let k : suc (suc j) ≡ hole j = omega arith in
      ap (λ r. value (bound_to b r)) k ∙ sym (below-element (λ j. value (bound_to b (hole j))) u.holes j 0 (omega arith))

  left-value : value gate ≡ left_value u (λ j. value (bound_to b (hole j)))
  left-value =
      let k : bound_to b (root u) ≡ gate = omega (arith, some-coded b (root u) gate s.root-bound) in
      ap value (sym k)
      ∙ substitution-carries-values ℕ bit_op 0 gate-comm c u w gate mask b s value solved hole_bits
      (omega (arith, below_length (λ j. value (bound_to b (hole j))) u.holes)) hole-bits (root u) (omega (arith, w.lefts-some))

pub matched-gate-has-value : MatchedGateHasValue
matched-gate-has-value c ok u w gate mask b s bytes e =
    let left = left-value c ok u w gate mask b s bytes e in (
      left,
      λ h. left ∙ (sound-is-agreement u).0 h (λ j. get_or (bits c bytes) (bound_to b (hole j)) 0) (λ j l. bits-bit c bytes (bound_to b (hole j))),
    )
