-- Trimming changes neither what a circuit computes nor its pair. Assumes nothing.
use mathlib.Core.Path.{◌≡◌, refl, sym, ap, ap₂, ◌∙◌}
use mathlib.Core.Bool.{Bool, true, false, true≢false, and-false}
use mathlib.Core.List.{List, [], ◌∷◌, map}
use Prim.Native.Nat.{ℕ, zero, suc, ◌+◌, ◌-◌, ◌≤◌, ◌<◌, max}
use native.Mathlib.Nat.{not-suc-le-zero}
use native.Mathlib.Decide.{dec_lt}
use native.Mathlib.Omega.{arith}
use lib.Dec.{eqb, ltb}
use lib.ListN.{length, get_or, length-map, get_or-eq_default}
use borrow.Author.Tests.{eqb-true, le-leb, lt-leb, lt-ltb}
use Rattle.lists.specs.First.{first}
use Rattle.circuit.specs.Circuit.{Gate, Circuit, no_gate, constants, first_gate, references, gate_at}
use Rattle.circuit.specs.Each.{count_gates, EachGate}
use Rattle.circuit.specs.Refusal.{has_gate_kind}
use Rattle.circuit.specs.Fold.{fold_gates, at_outputs}
use Rattle.circuit.specs.Evaluation.{bit_op, bit_of, start_bits, bits, evaluate}
use Rattle.circuit.specs.Depth.{is_counted, start_levels, depth, largest, circuit_depth}
use Rattle.circuit.specs.Path.{is_among, is_gate}
use Rattle.circuit.specs.MultiplicativeDepth.{contribution}
use Rattle.circuit.specs.ReverseDepth.{reverse_depths, reverse_depth, is_live}
use Rattle.circuit.specs.Critical.{is_critical, critical_count}
use Rattle.circuit.specs.Trim.{rename_gate, rank, keep_gates, is_kept, trim}
use Rattle.circuit.proofs.EachLaws.{each_at, each_of, each_map}
use Rattle.circuit.proofs.GateLaws.{is-gate, gate-from, gate-to, at-gate, operands-below-gate}
use Rattle.circuit.proofs.MultiplicativeDepthLaws.{depth-of-gate, depth-of-start}
use Rattle.circuit.proofs.ValidLaws.{Valid, Limited, among-head, among-tail}
use Rattle.circuit.proofs.RankLaws.{rank_mono, rank-id, rank_lt, rank-eqb, rank-counted, keep-count, keep-length, each_keep, count-keep, keep-ordered, keep-value, keep_all}
use Rattle.circuit.proofs.KeptLaws.{keep_at}
use Rattle.circuit.proofs.BoundLaws.{reverse-length}
use Rattle.circuit.proofs.ReverseDepthLaws.{raised, marked, reverse-at, keep-raised, kept_low, kept-live, kept-gate, gone-zero, live-output, kept-closed}

-- ---- members of a mapped list

-- two mappings that agree on the members
pub map-among : {A : Type 0} (f f' : ℕ → A) (ρ : ℕ → ℕ) (os : List ℕ) → ((o : ℕ) → is_among o os ≡ true → f' (ρ o) ≡ f o) → map f' (map ρ os) ≡ map f os
map-among f f' ρ [] h = refl
map-among f f' ρ (o ∷ os) h = ap₂ ◌∷◌ (h o (among-head o os)) (map-among f f' ρ os (λ x e. h x (among-tail x o os e)))

map_same : (ρ : ℕ → ℕ) (os : List ℕ) → ((o : ℕ) → is_among o os ≡ true → ρ o ≡ o) → map ρ os ≡ os
map_same ρ [] h = refl
map_same ρ (o ∷ os) h = ap₂ ◌∷◌ (h o (among-head o os)) (map_same ρ os (λ x e. h x (among-tail x o os e)))

-- what holds of each member's image holds of each member of the mapped list
pub among-map : (P : ℕ → Type 0) (f : ℕ → ℕ) (os : List ℕ) → ((o : ℕ) → is_among o os ≡ true → P (f o)) → (x : ℕ) → is_among x (map f os) ≡ true → P x
unfolding is_among
among-map P f [] h x e = absurd (true≢false (sym e))
among-map P f (o ∷ os) h x e = go (eqb x (f o)) refl (among-map P f os (λ y t. h y (among-tail y o os t)) x)
  where
    go : (b : Bool) → eqb x (f o) ≡ b → (is_among x (map f os) ≡ true → P x) → P x
    go true q ih = rw (eqb-true x (f o) q) (h o (among-head o os))
    go false q ih = ih (rw q at e)

among-rank : (kept : ℕ → Bool) (v : ℕ) → kept v ≡ true → (os : List ℕ) → ((o : ℕ) → is_among o os ≡ true → kept o ≡ true)
    → is_among (rank kept v) (map (rank kept) os) ≡ is_among v os
unfolding is_among
among-rank kept v e [] h = refl
among-rank kept v e (o ∷ os) h =
    rw (rank-eqb kept v o e (h o (among-head o os)), among-rank kept v e os (λ x t. h x (among-tail x o os t)))

-- ---- a valid circuit

module _ (c : Circuit) (ok : Valid c) where
  kept-output : (o : ℕ) → is_among o c.outputs ≡ true → is_kept c o ≡ true
  kept-output o e = kept-live c o (live-output c ok o e)

  rank-first : rank (is_kept c) (first_gate c.inputs) ≡ first_gate c.inputs
  rank-first = rank-id (is_kept c) (first_gate c.inputs) (kept_low c)

  -- how many references are left
  pub trim-references : references (trim c) ≡ rank (is_kept c) (references c)
  unfolding trim
  trim-references = omega (arith, rank-first, keep-count (is_kept c) (first_gate c.inputs) c.gates)

  -- ---- a reference that is kept, under its new number

  kept-below : (v : ℕ) → is_kept c v ≡ true → v < references c
  kept-below v k =
      elim (dec_lt v (references c)) [
        | yes h ↦ h
        | no h ↦
            let dead : is_live c v ≡ false = ap (ltb 0) (get_or-eq_default (reverse_depths c) 0 (omega (arith, reverse-length c))) in
            absurd (true≢false (sym (kept-gate c v (omega arith) k) ∙ dead))
      ]

  pub trim-is-gate : (v : ℕ) → is_kept c v ≡ true → is_gate (trim c) (rank (is_kept c) v) ≡ is_gate c v
  unfolding trim
  trim-is-gate v k =
      let n = first_gate c.inputs in
      let below = kept-below v k in
      let rank_below : rank (is_kept c) v < references (trim c) = omega (arith, trim-references, rank_lt (is_kept c) v (references c) k below) in
      elim (dec_lt v n) [
        | yes h ↦ rw (rank-id (is_kept c) v (λ r l. kept_low c r (omega arith)), lt-leb n v h)
        | no h ↦
            rw (
              le-leb n v (omega arith),
              le-leb n (rank (is_kept c) v) (omega (arith, rank-first, rank_mono (is_kept c) n v (omega arith))),
              lt-ltb v (references c) below,
              lt-ltb (rank (is_kept c) v) (references (trim c)) rank_below,
            )
      ]

  module _ (v : ℕ) (g : is_gate c v ≡ true) (k : is_kept c v ≡ true) where
    from : first_gate c.inputs ≤ v
    from = gate-from c v g

    split : first_gate c.inputs + (v - first_gate c.inputs) ≡ v
    split = omega (arith, from)

    pub trim-gate : gate_at (trim c) (rank (is_kept c) v) ≡ rename_gate (rank (is_kept c)) (gate_at c v)
    unfolding trim
    trim-gate =
        let n = first_gate c.inputs in
        let kept = is_kept c in
        let r : rank kept (n + (v - n)) ≡ rank kept n + (rank kept v - n) = omega (arith, ap (rank kept) split, rank-first, rank_mono kept n v from) in
        keep_at kept n c.gates (v - n) (rank kept v - n) (omega (arith, from, gate-to c v g)) (ap kept split ∙ k) r

    pub operands-kept : (is_kept c (gate_at c v).left ≡ true) × (is_kept c (gate_at c v).right ≡ true)
    operands-kept =
        at-gate c v g (λ m x. is_kept c m ≡ true → (is_kept c x.left ≡ true) × (is_kept c x.right ≡ true)) (kept-closed c ok) k

  -- ---- the circuit

  pub trim-valid : Valid (trim c)
  unfolding trim
  trim-valid =
      let n = first_gate c.inputs in
      record {
        starts-right = ok.starts-right;
        ordered = rw rank-first at (keep-ordered (is_kept c) n c.gates ok.ordered (kept-closed c ok));
        kinds = rw rank-first at (each_keep (is_kept c) (λ m g. has_gate_kind m g ≡ true) n c.gates (each_map n c.gates ok.kinds (λ m g h k e. k)));
        outputs-below = among-map (λ o. o < references (trim c)) (rank (is_kept c)) c.outputs
            (λ o e. rw trim-references (rank_lt (is_kept c) o (references c) (kept-output o e) (ok.outputs-below o e)));
      }

  pub trim-limited : Limited c → Limited (trim c)
  unfolding trim
  trim-limited l =
      let o : length (map (rank (is_kept c)) c.outputs) ≡ length c.outputs = length-map c.outputs (rank (is_kept c)) in
      record {
        inputs-limit = l.inputs-limit;
        gates-limit = omega (arith, keep-length (is_kept c) (first_gate c.inputs) c.gates, l);
        outputs-some = omega (arith, l);
        outputs-limit = omega (arith, l);
      }

  -- every operation gives a reference that is kept, under its new number, the value that it had
  pub trim-value : {A : Type 0} (op : ℕ → A → A → A) (z : A) (start : List A) → length start ≡ first_gate c.inputs
      → (v : ℕ) → v < references c → is_kept c v ≡ true
      → get_or (fold_gates op z (trim c).gates start) (rank (is_kept c) v) z ≡ get_or (fold_gates op z c.gates start) v z
  unfolding trim
  trim-value op z start e = keep-value (is_kept c) op z (first_gate c.inputs) c.gates start e (kept_low c) ok.ordered (kept-closed c ok)

  -- so of the outputs
  pub trim-outputs : {A : Type 0} (op : ℕ → A → A → A) (z : A) (start : List A) → length start ≡ first_gate c.inputs
      → at_outputs z (trim c) (fold_gates op z (trim c).gates start) ≡ at_outputs z c (fold_gates op z c.gates start)
  unfolding trim
  trim-outputs op z start e =
      map-among (λ o. get_or (fold_gates op z c.gates start) o z) (λ o. get_or (fold_gates op z (trim c).gates start) o z) (rank (is_kept c)) c.outputs
      (λ o t. trim-value op z start e o (ok.outputs-below o t) (kept-output o t))

  pub trim-evaluate : (bytes : List ℕ) → length bytes ≡ c.inputs → evaluate (trim c) bytes ≡ evaluate c bytes
  unfolding evaluate bits
  trim-evaluate bytes e = trim-outputs bit_op 0 (start_bits bytes) (omega (arith, length-map bytes bit_of))

  constants-kept : (r : ℕ) → r < constants → is_kept c r ≡ true
  constants-kept r h = kept_low c r (omega arith)

  trim_start : start_levels (trim c) ≡ start_levels c
  unfolding start_levels trim
  trim_start = refl

  -- from the operands up: a gate counts under its new number if it did under the old one
  depth-within : (steps v : ℕ) → v < steps → is_kept c v ≡ true → depth (trim c) (rank (is_kept c) v) ≡ depth c v
  depth-within zero v h k = absurd (not-suc-le-zero h)
  depth-within (suc steps) v h k = go (is_gate c v) refl (depth-within steps)
    where
      go : (b : Bool) → is_gate c v ≡ b → ((w : ℕ) → w < steps → is_kept c w ≡ true → depth (trim c) (rank (is_kept c) w) ≡ depth c w)
          → depth (trim c) (rank (is_kept c) v) ≡ depth c v
      go true e ih =
          let g = gate_at c v in
          let (l, r) = operands-below-gate c v e ok.ordered in
          let (kl, kr) = operands-kept v e k in
          depth-of-gate (trim c) trim-valid.ordered (rank (is_kept c) v) (trim-is-gate v k ∙ e)
          ∙ ap (λ x. contribution x + max (depth (trim c) x.left) (depth (trim c) x.right)) (trim-gate v e k)
          ∙ ap₂ (λ b m. first b 1 0 + m) (rank-counted (is_kept c) constants-kept g)
          (ap₂ max (ih g.left (omega arith) kl) (ih g.right (omega arith) kr))
          ∙ sym (depth-of-gate c ok.ordered v e)
      go false e ih =
          elim (dec_lt v (first_gate c.inputs)) [
            | yes l ↦
                sym (depth-of-start (trim c) (rank (is_kept c) v) (trim-is-gate v k ∙ e))
                ∙ ap₂ (λ d r. get_or d r 0) trim_start (rank-id (is_kept c) v (λ r q. kept_low c r (omega arith))) ∙ depth-of-start c v e
            | no l ↦ absurd (true≢false (sym (is-gate c v (omega arith) (kept-below v k)) ∙ e))
          ]

  pub trim-depth : (v : ℕ) → v < references c → is_kept c v ≡ true → depth (trim c) (rank (is_kept c) v) ≡ depth c v
  trim-depth = depth-within (references c)

  pub trim-circuit-depth : circuit_depth (trim c) ≡ circuit_depth c
  unfolding circuit_depth trim
  trim-circuit-depth = ap largest (map-among (depth c) (depth (trim c)) (rank (is_kept c)) c.outputs (λ o t. trim-depth o (ok.outputs-below o t) (kept-output o t)))

  pub trim-reverse-depth : (v : ℕ) → is_kept c v ≡ true → reverse_depth (trim c) (rank (is_kept c) v) ≡ reverse_depth c v
  unfolding trim marked
  trim-reverse-depth v h =
      let n = first_gate c.inputs in
      let outputs = map (rank (is_kept c)) c.outputs in
      reverse-at (trim c) trim-valid (rank (is_kept c) v)
      ∙ ap (λ k. raised k (keep_gates (is_kept c) n c.gates) (marked outputs) (rank (is_kept c) v)) (sym rank-first)
      ∙ keep-raised (is_kept c) constants-kept (marked c.outputs) (marked outputs) n c.gates (kept-closed c ok)
      (λ r f. sym (reverse-at c ok r) ∙ gone-zero c r f)
      (λ r e. ap (λ b. first b 1 0) (among-rank (is_kept c) r e c.outputs kept-output)) v h
      ∙ sym (reverse-at c ok v)

  critical-kept : (m : ℕ) (g : Gate) → m < references c → is_kept c m ≡ true → is_critical (trim c) (rank (is_kept c) m) (rename_gate (rank (is_kept c)) g) ≡ is_critical c m g
  critical-kept m g h e =
      rw (rank-counted (is_kept c) constants-kept g, trim-reverse-depth m e, trim-depth m h e, trim-circuit-depth)

  critical-gone : (m : ℕ) (g : Gate) → is_kept c m ≡ false → is_critical c m g ≡ false
  critical-gone m g e = rw (gone-zero c m e) (and-false (is_counted g))

  pub trim-critical-count : critical_count (trim c) ≡ critical_count c
  unfolding critical_count trim
  trim-critical-count =
      ap (λ n. count_gates (is_critical (trim c)) n (trim c).gates) (sym rank-first)
      ∙ count-keep (is_kept c) (is_critical c) (is_critical (trim c)) (first_gate c.inputs) c.gates
      (each_of _ (first_gate c.inputs) c.gates (λ i h.
      let g = get_or c.gates i no_gate in
      (critical-kept (first_gate c.inputs + i) g (omega arith), critical-gone (first_gate c.inputs + i) g)))

  -- every gate that is left is live
  pub trim-live : EachGate (λ m g. is_live (trim c) m ≡ true) (first_gate (trim c).inputs) (trim c).gates
  unfolding trim
  trim-live =
      rw rank-first at (each_keep (is_kept c) (λ m g. is_live (trim c) m ≡ true) (first_gate c.inputs) c.gates
      (each_map (first_gate c.inputs) c.gates ok.kinds (λ m g h k e. ap (ltb 0) (trim-reverse-depth m e) ∙ kept-gate c m h e)))

  -- a circuit all of whose gates are live is trimmed
  pub trim_same : EachGate (λ m g. is_live c m ≡ true) (first_gate c.inputs) c.gates → trim c ≡ c
  unfolding trim
  trim_same a =
      ap₂ (λ g o. record { inputs = c.inputs; starts = c.starts; gates = g; outputs = o })
      (keep_all (is_kept c) (first_gate c.inputs) c.gates ok.ordered (kept_low c) keeps)
      (map_same (rank (is_kept c)) c.outputs (λ o e. rank-id (is_kept c) o (λ r l. all r (omega (arith, ok.outputs-below o e)))))
    where
      keeps : EachGate (λ m g. is_kept c m ≡ true) (first_gate c.inputs) c.gates
      keeps = each_map (first_gate c.inputs) c.gates a (λ m g h e. kept-live c m e)

      all : (r : ℕ) → r < references c → is_kept c r ≡ true
      all r h =
          elim (dec_lt r (first_gate c.inputs)) [
            | yes l ↦ kept_low c r l
            | no l ↦
                let e : first_gate c.inputs + (r - first_gate c.inputs) ≡ r = omega arith in
                rw e at (each_at (λ m g. is_kept c m ≡ true) (first_gate c.inputs) c.gates keeps (r - first_gate c.inputs) (omega arith))
          ]

pub trim-trim : (c : Circuit) → Valid c → trim (trim c) ≡ trim c
trim-trim c ok = trim_same (trim c) (trim-valid c ok) (trim-live c ok)
