-- Replacement at a substitution: the circuit stays valid, and a sound rule keeps its outputs. Assumes nothing.
use mathlib.Core.Path.{◌≡◌, refl, sym, ap, ◌∙◌}
use mathlib.Core.Bool.{true}
use mathlib.Core.List.{List, ◌∷◌, ◌++◌, map}
use Prim.Native.Nat.{ℕ, zero, suc, ◌+◌, ◌-◌, ◌≤◌, ◌<◌}
use native.Mathlib.Decide.{dec_lt, ℕ_discrete}
use native.Mathlib.Numerals.{add-one}
use native.Mathlib.Omega.{arith}
use lib.ListN.{length, take, drop, get_or, length-append, length-map, length-drop}
use lib.Seq.{split_at, length-take-le}
use borrow.Author.Tests.{lt-ltb, le-ltb, eq-eqb, ne_eqb}
use Rattle.lists.proofs.Below.{below_length}
use Rattle.circuit.specs.Circuit.{Gate, Circuit, no_gate, first_gate, references, max_gates}
use Rattle.circuit.specs.Each.{EachGate}
use Rattle.circuit.specs.Fold.{fold_gates}
use Rattle.circuit.specs.Refusal.{has_gate_kind}
use Rattle.circuit.specs.Evaluation.{bit_op, bit_of, start_bits, bits, evaluate}
use Rattle.circuit.specs.Path.{is_gate}
use Rattle.circuit.specs.Trim.{rename_gate}
use Rattle.circuit.proofs.GateLaws.{gate-from, gate-to}
use Rattle.circuit.proofs.ValidLaws.{Valid, Limited}
use Rattle.circuit.proofs.TrimLaws.{map-among, among-map}
use Rattle.rules.specs.Rule.{Rule, hole, root}
use Rattle.rules.specs.WellFormed.{ValidRule}
use Rattle.rules.specs.Soundness.{start_holes, is_sound}
use Rattle.rules.specs.Match.{bound_to}
use Rattle.rules.specs.Substitution.{Substitution}
use Rattle.rules.proofs.MatchLaws.{some-coded}
use Rattle.rules.proofs.ValueLaws.{hole-bits, matched-gate-has-value}
use Rattle.rewriting.specs.Replacement.{instance_of, renumber, right_renaming, renaming, gates_before, gates_behind, replace, BoundBelow}
use Rattle.rewriting.proofs.SpliceLaws.{each_left, each-rename, Splice, splice-each, old-behind, splice-ordered, splice-rights, splice-value}

-- ---- the two renamings

module _ (base gate : ℕ) (b : List ℕ) where
  pub instance-low : (r : ℕ) → r < base → instance_of base gate b r ≡ bound_to b r
  unfolding instance_of
  instance-low r h = rw (lt-ltb r base h)

  pub instance-high : (r : ℕ) → base ≤ r → instance_of base gate b r ≡ gate + (r - base)
  unfolding instance_of
  instance-high r h = rw (le-ltb r base h)

module _ (gate closing count : ℕ) where
  pub renumber-low : (v : ℕ) → v < gate → renumber gate closing count v ≡ v
  unfolding renumber
  renumber-low v h = rw (lt-ltb v gate h)

  pub renumber-gate : (v : ℕ) → v ≡ gate → renumber gate closing count v ≡ closing
  unfolding renumber
  renumber-gate v e = rw (le-ltb v gate (omega arith), eq-eqb v gate e)

  pub renumber-high : (v : ℕ) → gate < v → renumber gate closing count v ≡ v - 1 + count
  unfolding renumber
  renumber-high v h = rw (le-ltb v gate (omega arith), ne_eqb v gate (λ e. omega arith))

-- ---- the circuit, cut at a gate

module _ (c : Circuit) (gate : ℕ) (lo : first_gate c.inputs ≤ gate) (hi : gate < references c) where
  abbrev pub gate_there : Gate
  gate_there = get_or c.gates (gate - first_gate c.inputs) no_gate

  pub before-length : first_gate c.inputs + length (gates_before c gate) ≡ gate
  before-length = omega (arith, length-take-le (gate - first_gate c.inputs) c.gates (omega arith))

  pub behind-length : suc gate + length (gates_behind c gate) ≡ references c
  behind-length = omega (arith, length-drop (gate - first_gate c.inputs + 1) c.gates)

  pub cut : c.gates ≡ gates_before c gate ++ gate_there ∷ gates_behind c gate
  cut =
      let k = gate - first_gate c.inputs in
      split_at c.gates k no_gate (omega arith) ∙ ap (λ j. take k c.gates ++ gate_there ∷ drop j c.gates) (sym (add-one k))

  -- one gate less, and the right gates more
  pub replace-length : (u : Rule) (b : List ℕ) → length (replace c u gate b).gates + 1 ≡ length c.gates + length u.rights
  unfolding replace
  replace-length u b =
      let rights = map (rename_gate (right_renaming u gate b)) u.rights in
      let behind = map (rename_gate (renaming u gate b)) (gates_behind c gate) in
      omega (
        arith,
        length-append (gates_before c gate) (rights ++ behind),
        length-append rights behind,
        length-map u.rights (rename_gate (right_renaming u gate b)),
        length-map (gates_behind c gate) (rename_gate (renaming u gate b)),
        before-length,
        behind-length,
      )

-- ---- at a substitution

module _ (c : Circuit) (ok : Valid c) (u : Rule) (w : ValidRule u) (gate mask : ℕ) (b : List ℕ) (s : Substitution c u gate mask b) where
  -- the site's gate is one
  pub matched-gate : is_gate c gate ≡ true
  matched-gate =
      let k = length u.lefts - 1 in
      let e : first_gate u.holes + k ≡ root u = omega (arith, w.lefts-some) in
      let q : bound_to b (first_gate u.holes + k) ≡ gate = omega (arith, some-coded b (root u) gate s.root-bound, ap (λ r. get_or b r 0) e) in
      rw q at (s.gates-bound k (omega (arith, w.lefts-some))).is-gate

  lo : first_gate c.inputs ≤ gate
  lo = gate-from c gate matched-gate

  hi : gate < references c
  hi = gate-to c gate matched-gate

  -- what the gate becomes
  abbrev closes : ℕ
  closes = right_renaming u gate b u.closing

  pub bound-below : BoundBelow u gate b
  bound-below r h = (bound r h, s.below-gate r h)
    where
      bound : (r : ℕ) → r < first_gate u.holes → 0 < get_or b r 0
      bound zero h = omega (arith, some-coded b 0 0 s.zero-bound)
      bound (suc zero) h = omega (arith, some-coded b 1 1 s.one-bound)
      bound (suc (suc j)) h =
          let e : hole j ≡ suc (suc j) = omega arith in
          let k : 0 < get_or b (hole j) 0 = omega (arith, some-coded b (hole j) (bound_to b (hole j)) (s.holes-bound j (omega arith))) in
          rw e at k

  -- a right side's references come to stand below its end
  pub instance-below : (r : ℕ) → r < first_gate u.holes + length u.rights → right_renaming u gate b r < gate + length u.rights
  instance-below r h =
      elim (dec_lt r (first_gate u.holes)) [
        | yes l ↦ omega (arith, instance-low (first_gate u.holes) gate b r l, s.below-gate r l)
        | no l ↦ let l' : first_gate u.holes ≤ r = omega arith in omega (arith, instance-high (first_gate u.holes) gate b r l')
      ]

  splice : Splice (first_gate c.inputs) gate (gates_before c gate) (gate_there c gate lo hi) (gates_behind c gate) (first_gate u.holes) u.rights
      (right_renaming u gate b) (renaming u gate b)
  splice =
      record {
        place = before-length c gate lo hi;
        ordered = rw (cut c gate lo hi) at ok.ordered;
        rights-ordered = w.rights-ordered;
        low_below = λ r h. rw (instance-low (first_gate u.holes) gate b r h) (s.below-gate r h);
        rights-from = λ i. instance-high (first_gate u.holes) gate b (first_gate u.holes + i) (omega arith) ∙ omega arith;
        stays = renumber-low gate closes (length u.rights);
        gate-below = rw (renumber-gate gate closes (length u.rights) gate refl) (instance-below u.closing w.closing-below);
        later = λ i. renumber-high gate closes (length u.rights) (suc gate + i) (omega arith) ∙ omega arith;
      }

  -- a circuit's references come to stand within the new one
  pub renumber-below : (v : ℕ) → v < references c → renaming u gate b v < first_gate c.inputs + length (replace c u gate b).gates
  renumber-below v h =
      elim (dec_lt v gate) [
        | yes l ↦ omega (arith, hi, renumber-low gate closes (length u.rights) v l, replace-length c gate lo hi u b)
        | no l ↦ elim (ℕ_discrete v gate) [
          | yes e ↦ rw e (omega (arith, hi, splice.gate-below, replace-length c gate lo hi u b))
          | no n ↦ let k : gate < v = omega arith in omega (arith, renumber-high gate closes (length u.rights) v k, replace-length c gate lo hi u b)
        ]
      ]

  pub replace-valid : Valid (replace c u gate b)
  unfolding replace
  replace-valid =
      let n = first_gate c.inputs in
      let P : ℕ → Gate → Type 0 = λ m g. has_gate_kind m g ≡ true in
      let kinds : EachGate P n (gates_before c gate ++ gate_there c gate lo hi ∷ gates_behind c gate) = rw (cut c gate lo hi) at ok.kinds in
      record {
        starts-right = ok.starts-right;
        ordered = splice-ordered splice;
        kinds = splice-each splice P (each_left P n (gates_before c gate) _ kinds)
            (each-rename P (right_renaming u gate b) (first_gate u.holes) gate u.rights splice.rights-from w.rights-kinds)
            (each-rename P (renaming u gate b) (suc gate) (gate + length u.rights) (gates_behind c gate) splice.later (old-behind splice P kinds));
        outputs-below = among-map (λ o. o < references (replace c u gate b)) (renaming u gate b) c.outputs
            (λ o e. renumber-below o (ok.outputs-below o e));
      }

  pub replace-limited : Limited c → length c.gates + length u.rights ≤ max_gates + 1 → Limited (replace c u gate b)
  unfolding replace
  replace-limited l h =
      let o : length (map (renaming u gate b) c.outputs) ≡ length c.outputs = length-map c.outputs (renaming u gate b) in
      record {
        inputs-limit = l.inputs-limit;
        gates-limit = omega (arith, replace-length c gate lo hi u b);
        outputs-some = omega (arith, l);
        outputs-limit = omega (arith, l);
      }

  module _ (sound : is_sound u ≡ true) (bytes : List ℕ) (e : length bytes ≡ c.inputs) where
    abbrev value : ℕ → ℕ
    value r = get_or (bits c bytes) r 0

    abbrev hole_bits : List ℕ
    hole_bits = start_holes u.holes (λ j. value (bound_to b (hole j)))

    inputs-length : length (start_bits bytes) ≡ first_gate c.inputs
    inputs-length = omega (arith, length-map bytes bit_of)

    -- the circuit's bits, of the gates as they are cut
    cut-bits : (r : ℕ)
        → get_or (fold_gates bit_op 0 (gates_before c gate ++ gate_there c gate lo hi ∷ gates_behind c gate) (start_bits bytes)) r 0 ≡ value r
    unfolding bits
    cut-bits r = ap (λ gs. get_or (fold_gates bit_op 0 gs (start_bits bytes)) r 0) (sym (cut c gate lo hi))

    -- on every input each reference keeps its bit
    pub replace-value : (v : ℕ) → v < references c → get_or (bits (replace c u gate b) bytes) (renaming u gate b v) 0 ≡ value v
    unfolding replace bits
    replace-value v h =
        let right-value = splice-rights splice bit_op 0 (start_bits bytes) inputs-length hole_bits
        (omega (arith, below_length (λ j. value (bound_to b (hole j))) u.holes))
        (λ r l. cut-bits (right_renaming u gate b r) ∙ ap value (instance-low (first_gate u.holes) gate b r l)
        ∙ hole-bits c ok.ordered u w gate mask b s bytes e r l)
        u.closing w.closing-below in
        let same = (matched-gate-has-value c ok.ordered u w gate mask b s bytes e).1 sound in
        splice-value splice bit_op 0 (start_bits bytes) inputs-length
        (ap (λ r. get_or (fold_gates bit_op 0 (replace c u gate b).gates (start_bits bytes)) r 0)
        (renumber-gate gate closes (length u.rights) gate refl)
        ∙ right-value ∙ sym same ∙ sym (cut-bits gate))
        v (omega (arith, behind-length c gate lo hi))
        ∙ cut-bits v

    -- so does each output
    pub replace-evaluate : evaluate (replace c u gate b) bytes ≡ evaluate c bytes
    unfolding evaluate replace
    replace-evaluate =
        map-among value (λ o. get_or (bits (replace c u gate b) bytes) o 0) (renaming u gate b) c.outputs
        (λ o t. replace-value o (ok.outputs-below o t))
