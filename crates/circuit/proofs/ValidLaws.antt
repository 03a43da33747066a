-- Well-formed tables are those of valid circuits within the limits. Assumes nothing.
use mathlib.Core.Path.{◌≡◌, refl, sym, ap, ◌∙◌}
use mathlib.Core.Bool.{Bool, true, false, true≢false, or-true}
use mathlib.Core.List.{List, [], ◌∷◌, map}
use mathlib.Core.Logic.{⊎_elim}
use Prim.Native.Nat.{ℕ, suc, ◌≤◌, ◌<◌}
use native.Mathlib.Omega.{arith}
use lib.Dec.{eqb, ltb}
use lib.ListN.{length}
use borrow.Author.Tests.{eqb-true, eq-eqb, lt-ltb, ltb-true}
use Rattle.lists.proofs.Tests.{both, left-of, right_of}
use Rattle.circuit.specs.Circuit.{Gate, Circuit, max_inputs, max_gates, max_outputs, first_gate, references}
use Rattle.circuit.specs.Table.{refs, gate_lines, closing_lines, reference, closing_line, decode, encode}
use Rattle.circuit.specs.Each.{EachGate}
use Rattle.circuit.specs.Refusal.{starts_right, has_gate_kind, KnownKinds, is_closing, operands_below, reference_below}
use Rattle.circuit.specs.WellFormed.{Sized, WellFormed}
use Rattle.circuit.specs.Valuation.{Ordered}
use Rattle.circuit.specs.Path.{is_among}
use Rattle.circuit.specs.Theorems.{WellFormedIsCircuit, CircuitIsAccepted}
use Rattle.circuit.proofs.TableLaws.{gates-length, outputs-length, refs-decode}
use Rattle.circuit.proofs.EachLaws.{all-each, each_all, each_map}
use Rattle.circuit.proofs.RefusalLaws.{either, well-formed-accepted}
use Rattle.circuit.proofs.EncodingLaws.{encode-gate-lines, encode-closing-lines, encode-long, decode-encode}
use Rattle.circuit.proofs.StartLaws.{starts-are-right}

-- a circuit whose starting lines, gates and outputs are as refusals 11, 6 and 7 want them
pub record Valid (c : Circuit) : Type 0 where
  pub starts-right : starts_right c ≡ true
  pub ordered : Ordered (first_gate c.inputs) c.gates
  pub kinds : KnownKinds c
  pub outputs-below : (o : ℕ) → is_among o c.outputs ≡ true → o < references c

-- a circuit within the limits of refusal 4
pub record Limited (c : Circuit) : Type 0 where
  pub inputs-limit : c.inputs ≤ max_inputs
  pub gates-limit : length c.gates ≤ max_gates
  pub outputs-some : 1 ≤ length c.outputs
  pub outputs-limit : length c.outputs ≤ max_outputs

-- ---- membership

pub among-head : (o : ℕ) (os : List ℕ) → is_among o (o ∷ os) ≡ true
unfolding is_among
among-head o os = rw (eq-eqb o o refl)

pub among-tail : (x o : ℕ) (os : List ℕ) → is_among x os ≡ true → is_among x (o ∷ os) ≡ true
unfolding is_among
among-tail x o os e = rw (e, or-true)

pub ordered_of : (n : ℕ) (gs : List Gate) → EachGate (λ m g. operands_below m g ≡ true) n gs → Ordered n gs
ordered_of n gs a =
    each_map n gs a (λ m g h e. (
      ltb-true g.left m (left-of (ltb g.left m) (ltb g.right m) e),
      ltb-true g.right m (right_of (ltb g.left m) (ltb g.right m) e),
    ))

pub of-ordered : (n : ℕ) (gs : List Gate) → Ordered n gs → EachGate (λ m g. operands_below m g ≡ true) n gs
of-ordered n gs a =
    each_map n gs a (λ m g h l. both {a = ltb g.left m} {b = ltb g.right m} (lt-ltb g.left m l.0) (lt-ltb g.right m l.1))

-- the references of lines that are each below top
below_of : (top n : ℕ) (ls : List Gate) → EachGate (λ m l. reference_below top m l ≡ true) n ls → (o : ℕ) → is_among o (map reference ls) ≡ true → o < top
unfolding is_among
below_of top n [] a o e = absurd (true≢false (sym e))
below_of top n (l ∷ ls) a o e = go (eqb o (reference l)) refl (below_of top (suc n) ls a.1 o)
  where
    go : (b : Bool) → eqb o (reference l) ≡ b → (is_among o (map reference ls) ≡ true → o < top) → o < top
    go true q ih = rw (eqb-true o (reference l) q) (ltb-true (reference l) top a.0)
    go false q ih = ih (rw q at e)

of-below : (top n : ℕ) (os : List ℕ) → ((o : ℕ) → is_among o os ≡ true → o < top)
    → EachGate (λ m l. (is_closing m l ≡ true) × (reference_below top m l ≡ true)) n (map closing_line os)
of-below top n [] h = tt
of-below top n (o ∷ os) h = ((refl, lt-ltb o top (h o (among-head o os))), of-below top (suc n) os (λ x e. h x (among-tail x o os e)))

-- ---- there and back

pub valid-decode : (t : List ℕ) → WellFormed t → Valid (decode t)
valid-decode t w =
    record {
      starts-right = w.starts-right;
      ordered = ordered_of _ (gate_lines t) (all-each operands_below _ (gate_lines t) w.operands);
      kinds = all-each has_gate_kind _ (gate_lines t) w.gate-kinds;
      outputs-below = λ o e. rw (refs-decode t) (below_of (refs t) 0 (closing_lines t) (all-each (reference_below (refs t)) 0 (closing_lines t) w.closing-references) o e);
    }

pub well-formed-is-circuit : WellFormedIsCircuit
well-formed-is-circuit t w =
    let v = valid-decode t w in (
      v.ordered,
      each_map _ (gate_lines t) v.kinds (λ m g h e. either g.kind e),
      λ o e. rw (← refs-decode t) (v.outputs-below o e),
      (starts-are-right (decode t)).0 v.starts-right,
    )

pub limited-decode : (t : List ℕ) → Sized t → Limited (decode t)
limited-decode t s =
    record {
      inputs-limit = s.inputs-limit;
      gates-limit = omega (arith, gates-length t, s);
      outputs-some = omega (arith, outputs-length t, s);
      outputs-limit = omega (arith, outputs-length t, s);
    }

pub well-formed-encode : (c : Circuit) → Valid c → Limited c → WellFormed (encode c)
unfolding encode
well-formed-encode c ok l =
    let n = first_gate c.inputs in
    let closings = of-below (references c) 0 c.outputs ok.outputs-below in
    let k = ok.kinds in
    record {
      sized = record {
        inputs-limit = l.inputs-limit;
        gates-limit = l.gates-limit;
        outputs-some = l.outputs-some;
        outputs-limit = l.outputs-limit;
        long = encode-long c k;
      };
      starts-right = ap starts_right (decode-encode c k) ∙ ok.starts-right;
      gate-kinds = rw (encode-gate-lines c k) (each_all has_gate_kind n c.gates ok.kinds);
      closing-kinds = rw (encode-closing-lines c k) (each_all is_closing 0 (map closing_line c.outputs) (each_map 0 (map closing_line c.outputs) closings (λ m g h x. x.0)));
      operands = rw (encode-gate-lines c k) (each_all operands_below n c.gates (of-ordered n c.gates ok.ordered));
      closing-references = rw (encode-closing-lines c k) (each_all (reference_below (references c)) 0 (map closing_line c.outputs) (each_map 0 (map closing_line c.outputs) closings (λ m g h x. x.1)));
    }

pub circuit-is-accepted : CircuitIsAccepted
circuit-is-accepted c is gs some os ordered kinds below starts =
    let known = each_map {Q = λ m g. has_gate_kind m g ≡ true} _ c.gates kinds (λ m g h. ⊎_elim (λ e. rw (eq-eqb _ _ e)) (λ e. rw (eq-eqb _ _ e, or-true))) in
    well-formed-accepted (encode c)
    (well-formed-encode c
    (record { starts-right = (starts-are-right c).1 starts; ordered = ordered; kinds = known; outputs-below = below })
    (record { inputs-limit = is; gates-limit = gs; outputs-some = some; outputs-limit = os }))
