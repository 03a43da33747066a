-- A table is well formed exactly if it is not refused; and what a reader of a well-formed table knows of each line. Assumes nothing.
use mathlib.Core.Path.{◌≡◌, refl}
use mathlib.Core.Logic.{◌⊎◌, inl, inr}
use mathlib.Core.Bool.{Bool, true, false, not, ◌&&◌, ◌||◌}
use mathlib.Core.List.{List}
use Prim.Native.Nat.{ℕ, suc, ◌+◌, ◌%◌, ◌≤◌, ◌<◌}
use native.Mathlib.Omega.{arith}
use lib.Dec.{eqb, leb, ltb}
use lib.ListN.{length, get_or}
use borrow.Author.Tests.{eq-eqb, ne_eqb, le-leb, leb-true, eqb-true, ltb-true, not-false}
use Rattle.lists.specs.First.{first}
use Rattle.lists.proofs.Tests.{both, left-of, right_of}
use Rattle.lines.specs.Text.{is_partial}
use Rattle.lines.proofs.CallLaws.{whole_is}
use Rattle.circuit.specs.Circuit.{xor_kind, and_kind, max_inputs, max_gates, max_outputs, first_gate, no_gate}
use Rattle.circuit.specs.Table.{inputs, gates, outputs, refs, closings_from, table_end, gate_lines, closing_lines, decode}
use Rattle.circuit.specs.Refusal.{head_in_limits, lines_as_head_says, starts_ok, gate_kinds_ok, closing_kinds_ok, has_gate_kind, operands_below, reference_below, operands_ok, closing_references_ok, refusal}
use Rattle.circuit.specs.WellFormed.{Sized, WellFormed}
use Rattle.circuit.specs.Theorems.{AcceptedIsWellFormed}
use Rattle.circuit.proofs.TableLaws.{closing-step, output-at, gate-next}
use Rattle.circuit.proofs.EachLaws.{all-at}

-- a chain of refusals that gives 0: its first test doesn't apply
pub passed : (b : Bool) (x y : ℕ) → first b (suc x) y ≡ 0 → (b ≡ false) × (y ≡ 0)
passed true x y e = let z : ⊥ = omega arith in absurd z
passed false x y e = (refl, e)

pub either : (k : ℕ) → (eqb k xor_kind || eqb k and_kind) ≡ true → (k ≡ xor_kind) ⊎ (k ≡ and_kind)
either k e = go (eqb k xor_kind) refl
  where
    go : (b : Bool) → eqb k xor_kind ≡ b → (k ≡ xor_kind) ⊎ (k ≡ and_kind)
    go true f = inl (eqb-true k xor_kind f)
    go false f = inr (eqb-true k and_kind (rw f at e))

module _ (t : List ℕ) where
  -- what the tests 4 and 5 leave
  pub head-limits : head_in_limits t ≡ true → (inputs t ≤ max_inputs) × (gates t ≤ max_gates) × (1 ≤ outputs t) × (outputs t ≤ max_outputs)
  head-limits h =
      let a = leb (inputs t) max_inputs in
      let b = leb (gates t) max_gates in
      let c = leb 1 (outputs t) in
      let d = leb (outputs t) max_outputs in
      let h1 = right_of a (b && (c && d)) h in
      let h2 = right_of b (c && d) h1 in (
        leb-true _ _ (left-of a (b && (c && d)) h),
        leb-true _ _ (left-of b (c && d) h1),
        leb-true _ _ (left-of c d h2),
        leb-true _ _ (right_of c d h2),
      )

  pub sized_of : head_in_limits t ≡ true → lines_as_head_says t ≡ true → Sized t
  sized_of h k =
      let l = head-limits h in
      record { inputs-limit = l.0; gates-limit = l.1; outputs-some = l.2; outputs-limit = l.3; long = eqb-true _ _ k }

  pub head-sized : Sized t → head_in_limits t ≡ true
  head-sized s =
      both {a = leb (inputs t) max_inputs} (le-leb _ _ s.inputs-limit)
      (both {a = leb (gates t) max_gates} (le-leb _ _ s.gates-limit)
      (both {a = leb 1 (outputs t)} (le-leb _ _ s.outputs-some) (le-leb _ _ s.outputs-limit)))

  -- a well-formed table has whole lines, at least one
  pub whole : Sized t → is_partial 3 t ≡ false
  unfolding is_partial
  whole s =
      let e : eqb (length t) 0 ≡ false = ne_eqb (length t) 0 (λ z. omega arith) in
      let f : eqb (length t % 3) 0 ≡ true = eq-eqb (length t % 3) 0 (omega arith) in
      rw (e, f)

  accepted : refusal t ≡ 0 → WellFormed t
  unfolding refusal
  accepted h =
      let a = passed (is_partial 3 t) 0 _ h in
      let b = passed (not (head_in_limits t)) 3 _ a.1 in
      let c = passed (not (lines_as_head_says t)) 4 _ b.1 in
      let s = passed (not (starts_ok t)) 10 _ c.1 in
      let d = passed (not (gate_kinds_ok t && closing_kinds_ok t)) 5 _ s.1 in
      let e = passed (not (operands_ok t && closing_references_ok t)) 6 _ d.1 in
      let kinds = not-false (gate_kinds_ok t && closing_kinds_ok t) d.0 in
      let references = not-false (operands_ok t && closing_references_ok t) e.0 in
      record {
        sized = sized_of (not-false (head_in_limits t) b.0) (not-false (lines_as_head_says t) c.0);
        starts-right = not-false (starts_ok t) s.0;
        gate-kinds = left-of (gate_kinds_ok t) (closing_kinds_ok t) kinds;
        closing-kinds = right_of (gate_kinds_ok t) (closing_kinds_ok t) kinds;
        operands = left-of (operands_ok t) (closing_references_ok t) references;
        closing-references = right_of (operands_ok t) (closing_references_ok t) references;
      }

  pub well-formed-accepted : WellFormed t → refusal t ≡ 0
  unfolding refusal
  well-formed-accepted w =
      let e : lines_as_head_says t ≡ true = eq-eqb (length t) (table_end t) w.sized.long in
      rw (whole w.sized, head-sized w.sized, e, w.starts-right, w.gate-kinds, w.closing-kinds, w.operands, w.closing-references)

  -- ---- the refusal, test by test

  module _ (w : is_partial 3 t ≡ false) where
    -- there is a head to look at
    pub head-there : 3 ≤ length t
    head-there = let n = whole_is 3 t w in omega arith

    pub refusal-head : head_in_limits t ≡ false → 4 ≡ refusal t
    unfolding refusal
    refusal-head e = rw (w, e)

    module _ (h : head_in_limits t ≡ true) where
      pub refusal-lines : lines_as_head_says t ≡ false → 5 ≡ refusal t
      unfolding refusal
      refusal-lines e = rw (w, h, e)

      module _ (l : lines_as_head_says t ≡ true) where
        pub refusal-starts : starts_ok t ≡ false → 11 ≡ refusal t
        unfolding refusal
        refusal-starts e = rw (w, h, l, e)

  -- ---- each gate and output of the circuit, wherever its line stands

  module _ (w : WellFormed t) (i : ℕ) where
    operand : i < gates t → operands_below (first_gate (inputs t) + i) (get_or (decode t).gates i no_gate) ≡ true
    operand h = all-at operands_below (first_gate (inputs t)) (gate_lines t) i _ w.operands (gate-next t i h)

    pub left_below : i < gates t → (get_or (decode t).gates i no_gate).left < first_gate (inputs t) + i
    left_below h = ltb-true _ _ (left-of _ (ltb (get_or (decode t).gates i no_gate).right (first_gate (inputs t) + i)) (operand h))

    pub right-below : i < gates t → (get_or (decode t).gates i no_gate).right < first_gate (inputs t) + i
    right-below h = ltb-true _ _ (right_of (ltb (get_or (decode t).gates i no_gate).left (first_gate (inputs t) + i)) _ (operand h))

    pub kind-known : i < gates t → has_gate_kind (first_gate (inputs t) + i) (get_or (decode t).gates i no_gate) ≡ true
    kind-known h = all-at has_gate_kind (first_gate (inputs t)) (gate_lines t) i _ w.gate-kinds (gate-next t i h)

    pub output-below : i < outputs t → get_or (decode t).outputs i 0 < refs t
    output-below h =
        rw (output-at t i (closings_from t) refl h)
        (ltb-true _ _ (all-at (reference_below (refs t)) 0 (closing_lines t) i _ w.closing-references (closing-step t i (closings_from t) refl h)))

pub accepted-is-well-formed : AcceptedIsWellFormed
accepted-is-well-formed t = (accepted t, well-formed-accepted t)
