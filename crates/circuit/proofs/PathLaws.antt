-- Live and above are what 01's paths say. Assumes nothing.
use mathlib.Core.Path.{◌≡◌, refl, sym, ap, ◌∙◌, subst}
use mathlib.Core.Bool.{Bool, true, false, true≢false, ◌&&◌}
use mathlib.Core.List.{List, [], ◌∷◌, map}
use Prim.Native.Nat.{ℕ, suc, ◌+◌, ◌-◌, ◌≤◌, ◌<◌}
use native.Mathlib.Nat.{suc-ne-zero}
use native.Mathlib.Omega.{arith}
use lib.Dec.{eqb}
use lib.ListN.{length, get_or}
use borrow.Author.Tests.{eq-eqb, eqb-true, lt-ltb, ltb-true}
use Rattle.lists.specs.First.{first}
use Rattle.lists.proofs.Tests.{both, left-of, right_of}
use Rattle.circuit.specs.Circuit.{Circuit, no_gate, first_gate, gate_at}
use Rattle.circuit.specs.Table.{decode}
use Rattle.circuit.specs.Path.{is_among, is_gate, is_operand, is_path, counted_on}
use Rattle.circuit.specs.Depth.{is_counted, plus_counted, depth, largest, circuit_depth}
use Rattle.circuit.specs.MultiplicativeDepth.{contribution}
use Rattle.circuit.specs.ReverseDepth.{reverse_depth, is_live, above}
use Rattle.circuit.specs.Theorems.{LiveIsReached, AboveIsLargest, CriticalIsDeepest, OperandsOfLive}
use Rattle.circuit.proofs.EachLaws.{each_of}
use Rattle.circuit.proofs.GateLaws.{is-gate, at-gate, operand_cases}
use Rattle.circuit.proofs.MultiplicativeDepthLaws.{plus-contribution, depth-of-gate}
use Rattle.circuit.proofs.ValidLaws.{Valid, valid-decode}
use Rattle.circuit.proofs.ReverseDepthLaws.{handed-lt, handed-down, marked, reached, reverse-at, live-output}

module _ (c : Circuit) (ok : Valid c) where
  -- on no path do more gates count than `above` says, and where there is one the reference is live
  pub path-below : (v : ℕ) (path : List ℕ) → is_path c v path ≡ true → counted_on c path < reverse_depth c v
  unfolding is_path counted_on
  path-below v [] e = ltb-true 0 (reverse_depth c v) (live-output c ok v e)
  path-below v (w ∷ ws) e =
      let gate = left-of (is_gate c w) (is_operand v (gate_at c w) && is_path c w ws) e in
      let rest = right_of (is_gate c w) (is_operand v (gate_at c w) && is_path c w ws) e in
      let ih = path-below w ws (right_of (is_operand v (gate_at c w)) (is_path c w ws) rest) in
      let down = at-gate c w gate _ (handed-down c ok) v (left-of (is_operand v (gate_at c w)) (is_path c w ws) rest) in
      omega (arith, down, handed-lt (contribution (gate_at c w)) (reverse_depth c w) (counted_on c ws) ih, plus-contribution (gate_at c w) (counted_on c ws))

  -- a path from v on which x gates count
  abbrev Reaches : ℕ → ℕ → Type 0
  Reaches v x = (path : List ℕ) × (is_path c v path ≡ true) × (counted_on c path ≡ x)

  goes-up : (i : ℕ) → i < length c.gates → (v x : ℕ) → is_operand v (get_or c.gates i no_gate) ≡ true → Reaches (first_gate c.inputs + i) x
      → Reaches v (contribution (get_or c.gates i no_gate) + x)
  unfolding is_path counted_on
  goes-up i h v x e (ws, p, q) =
      let n = first_gate c.inputs in
      let s : n + i - n ≡ i = omega arith in
      ((n + i) ∷ ws, rw (is-gate c (n + i) (omega arith) (omega arith), s, e) p, rw (s, q) (plus-contribution (get_or c.gates i no_gate) x))

  pub path-of : (v x : ℕ) → reverse_depth c v ≡ suc x → Reaches v x
  unfolding is_path counted_on marked
  path-of v x e =
      reached Reaches (first_gate c.inputs) c.gates (marked c.outputs)
      (each_of _ (first_gate c.inputs) c.gates goes-up)
      (λ r y q. ended r y (is_among r c.outputs) refl q) v x (sym (reverse-at c ok v) ∙ e)
    where
      ended : (r y : ℕ) (b : Bool) → is_among r c.outputs ≡ b → first b 1 0 ≡ suc y → Reaches r y
      ended r y true f q = ([], f, omega arith)
      ended r y false f q = absurd (suc-ne-zero y (sym q))

  path-live : (v : ℕ) → is_live c v ≡ true → Reaches v (above c v)
  path-live v e = let h = ltb-true 0 (reverse_depth c v) e in path-of v (above c v) (omega arith)

  -- ---- the deepest paths

  deepest-output : (os : List ℕ) (v : ℕ) → is_among v os ≡ true → depth c v ≤ largest (map (depth c) os)
  unfolding is_among largest
  deepest-output [] v e = absurd (true≢false (sym e))
  deepest-output (o ∷ os) v e = go (eqb v o) refl (deepest-output os v)
    where
      go : (b : Bool) → eqb v o ≡ b → (is_among v os ≡ true → depth c v ≤ largest (map (depth c) os)) → depth c v ≤ largest (map (depth c) (o ∷ os))
      go true q ih = let s : depth c v ≡ depth c o = ap (depth c) (eqb-true v o q) in omega arith
      go false q ih = omega (arith, ih (rw q at e))

  -- a gate is as deep as its operands, and by its contribution deeper
  deeper-gate : (v w : ℕ) → is_gate c w ≡ true → is_operand v (gate_at c w) ≡ true → contribution (gate_at c w) + depth c v ≤ depth c w
  deeper-gate v w gate =
      operand_cases (λ x. contribution (gate_at c w) + depth c x ≤ depth c w) (gate_at c w)
      (omega (arith, depth-of-gate c ok.ordered w gate)) (omega (arith, depth-of-gate c ok.ordered w gate)) v

  path-depth : (v : ℕ) (path : List ℕ) → is_path c v path ≡ true → depth c v + counted_on c path ≤ circuit_depth c
  unfolding is_path counted_on circuit_depth
  path-depth v [] e = omega (arith, deepest-output c.outputs v e)
  path-depth v (w ∷ ws) e =
      let gate = left-of (is_gate c w) (is_operand v (gate_at c w) && is_path c w ws) e in
      let rest = right_of (is_gate c w) (is_operand v (gate_at c w) && is_path c w ws) e in
      omega (
        arith,
        path-depth w ws (right_of (is_operand v (gate_at c w)) (is_path c w ws) rest),
        deeper-gate v w gate (left-of (is_operand v (gate_at c w)) (is_path c w ws) rest),
        plus-contribution (gate_at c w) (counted_on c ws),
      )

pub live-is-reached : LiveIsReached
live-is-reached t w v =
    let c = decode t in
    let ok = valid-decode t w in
    (λ e. let p = path-live c ok v e in (p.0, p.1), λ p. lt-ltb 0 (reverse_depth c v) (omega (arith, path-below c ok v p.0 p.1)))

pub above-is-largest : AboveIsLargest
above-is-largest t w v e =
    let c = decode t in
    let ok = valid-decode t w in
    (path-live c ok v e, λ path p. omega (arith, path-below c ok v path p))

pub critical-is-deepest : CriticalIsDeepest
critical-is-deepest t w v =
    let c = decode t in
    let ok = valid-decode t w in
    let counted = is_counted (gate_at c v) in
    let on = eqb (depth c v + above c v) (circuit_depth c) in (
      path-depth c ok v,
      λ gate. (
        λ e.
            let rest = right_of counted (is_live c v && on) e in
            let (path, p, most) = (above-is-largest t w v (left-of (is_live c v) on rest)).0 in
            let deep : depth c v + above c v ≡ circuit_depth c = eqb-true _ _ (right_of (is_live c v) on rest) in
            (left-of counted (is_live c v && on) e, (path, p, omega arith)),
        λ (k, (path, p, deep)).
            let live = (live-is-reached t w v).1 (path, p) in
            let (longest, q, most) = (above-is-largest t w v live).0 in
            let all : depth c v + above c v ≡ circuit_depth c = omega (arith, path-depth c ok v longest q, (above-is-largest t w v live).1 path p) in
            both {a = counted} k (both {a = is_live c v} live (eq-eqb _ _ all)),
      ),
    )

-- the gate's longest path, and the gate before it
pub operands-of-live : OperandsOfLive
unfolding is_path counted_on
operands-of-live t w v g gate operand live =
    let c = decode t in
    let (path, p, most) = (above-is-largest t w g live).0 in
    let up : is_path c v (g ∷ path) ≡ true = both {a = is_gate c g} gate (both {a = is_operand v (gate_at c g)} operand p) in
    let there = (live-is-reached t w v).1 (g ∷ path, up) in
    (there, subst (λ x. plus_counted (gate_at c g) x ≤ above c v) most ((above-is-largest t w v there).1 (g ∷ path) up))
