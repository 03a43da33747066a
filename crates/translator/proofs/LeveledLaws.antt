-- The machine's bits and levels are the circuit's bits and depths: public values are where constants are read. Assumes nothing.
use mathlib.Core.Path.{◌≡◌, refl, sym, ap, ap₂, ◌∙◌}
use mathlib.Core.Bool.{false, not, ◌&&◌, ◌||◌, or_comm}
use mathlib.Core.List.{List, [], ◌∷◌, ◌++◌, map, map-append}
use mathlib.Core.Option.{some}
use Prim.Native.Nat.{ℕ, zero, suc, ◌+◌, ◌-◌, ◌≤◌, ◌<◌, max}
use native.Mathlib.Nat.{not-suc-le-zero, le_of_suc-le-suc, max_comm}
use native.Mathlib.Decide.{dec_lt}
use native.Mathlib.Omega.{arith}
use lib.Dec.{eqb}
use lib.ListN.{length, get_or, get_elem?, get_or-map, get_or-append, length-append, length-map}
use lib.Seq.{get_or-append-add}
use borrow.Author.Tests.{le-ltb}
use Rattle.lists.specs.First.{first}
use Rattle.lists.specs.Each.{append_each}
use Rattle.circuit.specs.Circuit.{Gate, Circuit, and_kind, constants, is_constant, first_gate}
use Rattle.circuit.specs.Fold.{gate_value, fold_gates, at_outputs}
use Rattle.circuit.specs.Evaluation.{bit_op, bit_of, start_bits, bits, evaluate}
use Rattle.circuit.specs.Depth.{plus_counted, gate_depth, start_levels, depths, depth}
use Rattle.circuit.proofs.StartLaws.{start-length}
use Rattle.rules.proofs.ValueLaws.{gate-comm}
use Rattle.rules.proofs.SoundnessLaws.{fold-map}
use Rattle.translator.specs.LeveledBit.{LeveledBit, leveled_op, loaded_from, at_levels, start_leveled}

-- what is read of mapped values
read-map : {A B : Type 0} (f : A → B) (z : A) (vs : List A) (ws : List B) → map f vs ≡ ws → (os : List ℕ)
    → map f (map (λ o. get_or vs o z) os) ≡ map (λ o. get_or ws o (f z)) os
read-map f z vs ws e [] = refl
read-map f z vs ws e (o ∷ os) = ap₂ ◌∷◌ (sym (get_or-map f vs o z) ∙ ap (λ l. get_or l o (f z)) e) (read-map f z vs ws e os)

-- ---- where exactly the constants are public, levels are depths

-- the value of no reference
abbrev pub no_value : LeveledBit
no_value = record { bit = 0; level = 0; public = false }

abbrev pub PublicConstants : List LeveledBit → Type 0
PublicConstants vs = (r : ℕ) → (get_or vs r no_value).public ≡ is_constant r

-- behind the constants nothing is public
public-more : (vs : List LeveledBit) (x : LeveledBit) → x.public ≡ false → constants ≤ length vs → PublicConstants vs → PublicConstants (vs ++ (x ∷ []))
public-more vs x secret h p r =
    elim (dec_lt r (length vs)) [
      | yes k ↦ ap (λ b. b.public) (get_or-append vs (x ∷ []) no_value r k) ∙ p r
      | no k ↦
          let n = r - length vs in
          let e : r ≡ length vs + n = omega arith in
          ap (λ i. (get_or (vs ++ (x ∷ [])) i no_value).public) e
          ∙ ap (λ b. b.public) (get_or-append-add vs (x ∷ []) n no_value) ∙ behind n ∙ sym (le-ltb r constants (omega arith))
    ]
  where
    behind : (n : ℕ) → (get_or (x ∷ []) n no_value).public ≡ false
    behind zero = secret
    behind (suc n) = refl

level-made : (g : Gate) (vs : List LeveledBit) → PublicConstants vs → (gate_value leveled_op no_value g vs).level ≡ gate_depth g (map (λ b. b.level) vs)
level-made g vs p =
    let larger = max (get_or vs g.left no_value).level (get_or vs g.right no_value).level in
    let at : (r : ℕ) → (get_or vs r no_value).level ≡ get_or (map (λ b. b.level) vs) r 0 = λ r. sym (get_or-map (λ b. b.level) vs r no_value) in
    ap₂ (λ a b. first (eqb g.kind and_kind && not (a || b)) (larger + 1) larger) (p g.left) (p g.right)
    ∙ ap₂ (λ x y. plus_counted g (max x y)) (at g.left) (at g.right)

fold-levels : (gs : List Gate) (vs : List LeveledBit) → constants ≤ length vs → PublicConstants vs
    → map (λ b. b.level) (fold_gates leveled_op no_value gs vs) ≡ append_each gate_depth gs (map (λ b. b.level) vs)
unfolding append_each
fold-levels [] vs h p = refl
fold-levels (g ∷ gs) vs h p =
    let x = gate_value leveled_op no_value g vs in
    fold-levels gs (vs ++ (x ∷ [])) (omega (arith, length-append vs (x ∷ []))) (public-more vs x refl h p)
    ∙ ap (append_each gate_depth gs) (map-append (λ b. b.level) vs (x ∷ []) ∙ ap (λ y. map (λ b. b.level) vs ++ (y ∷ [])) (level-made g vs p))

-- ---- where the machine starts

start-bits : (r : ℕ) (bs ls : List ℕ) → length bs ≡ length ls → map (λ b. b.bit) (at_levels r bs ls) ≡ bs
unfolding at_levels
start-bits r [] ls e = refl
start-bits r (b ∷ bs) [] e = let z : ⊥ = omega arith in absurd z
start-bits r (b ∷ bs) (l ∷ ls) e = ap (λ x. b ∷ x) (start-bits (suc r) bs ls (omega arith))

start-levels : (r : ℕ) (bs ls : List ℕ) → length bs ≡ length ls → map (λ b. b.level) (at_levels r bs ls) ≡ ls
unfolding at_levels
start-levels r [] [] e = refl
start-levels r [] (l ∷ ls) e = let z : ⊥ = omega arith in absurd z
start-levels r (b ∷ bs) [] e = let z : ⊥ = omega arith in absurd z
start-levels r (b ∷ bs) (l ∷ ls) e = ap (λ x. l ∷ x) (start-levels (suc r) bs ls (omega arith))

-- the value of place v, which is that of reference w
start-public : (r : ℕ) (bs ls : List ℕ) → length bs ≡ length ls → constants ≤ r + length bs
    → (v w : ℕ) → r + v ≡ w → (get_or (at_levels r bs ls) v no_value).public ≡ is_constant w
unfolding at_levels
start-public r [] ls e h v w q = sym (le-ltb w constants (omega arith))
start-public r (b ∷ bs) [] e h v w q = let z : ⊥ = omega arith in absurd z
start-public r (b ∷ bs) (l ∷ ls) e h zero w q = let s : r ≡ w = omega arith in ap is_constant s
start-public r (b ∷ bs) (l ∷ ls) e h (suc v) w q = start-public (suc r) bs ls (omega arith) (omega arith) v w (omega arith)

levels-at : (r : ℕ) (bs ls : List ℕ) → length bs ≡ length ls → (v w : ℕ) → v < length bs → r + v ≡ w
    → get_elem? (at_levels r bs ls) v ≡ some (loaded_from w (get_or bs v 0) (get_or ls v 0))
unfolding at_levels
levels-at r [] ls e v w h q = absurd (not-suc-le-zero h)
levels-at r (b ∷ bs) [] e v w h q = let z : ⊥ = omega arith in absurd z
levels-at r (b ∷ bs) (l ∷ ls) e zero w h q = let s : r ≡ w = omega arith in ap (λ x. some (loaded_from x b l)) s
levels-at r (b ∷ bs) (l ∷ ls) e (suc v) w h q = levels-at (suc r) bs ls (omega arith) v w (le_of_suc-le-suc h) (omega arith)

module _ (c : Circuit) (bytes : List ℕ) (e : length bytes ≡ c.inputs) where
  bits-long : length (start_bits bytes) ≡ first_gate c.inputs
  bits-long = omega (arith, length-map bytes bit_of)

  starts-long : length (start_bits bytes) ≡ length (start_levels c)
  starts-long = bits-long ∙ sym (start-length c)

  pub loaded_at : (v : ℕ) → v < first_gate c.inputs → get_elem? (start_leveled c bytes) v ≡ some (loaded_from v (get_or (start_bits bytes) v 0) (get_or (start_levels c) v 0))
  loaded_at v h = levels-at 0 (start_bits bytes) (start_levels c) starts-long v v (omega (arith, bits-long)) (omega arith)

  pub public-start : PublicConstants (start_leveled c bytes)
  public-start v = start-public 0 (start_bits bytes) (start_levels c) starts-long (omega (arith, bits-long)) v v (omega arith)

  pub leveled-length : length (start_leveled c bytes) ≡ first_gate c.inputs
  leveled-length = sym (length-map (start_leveled c bytes) (λ b. b.bit)) ∙ ap length (start-bits 0 (start_bits bytes) (start_levels c) starts-long) ∙ bits-long

-- ---- what is emitted

-- the values of a circuit's references, and of its outputs
abbrev leveled_values : Circuit → (bytes : List ℕ) → List LeveledBit
leveled_values c bytes = fold_gates leveled_op no_value c.gates (start_leveled c bytes)

abbrev pub leveled_outputs : Circuit → (bytes : List ℕ) → List LeveledBit
leveled_outputs c bytes = at_outputs no_value c (leveled_values c bytes)

module _ (c : Circuit) (bytes : List ℕ) (e : length bytes ≡ c.inputs) where
  pub emitted-bits : map (λ b. b.bit) (leveled_outputs c bytes) ≡ evaluate c bytes
  unfolding evaluate bits
  emitted-bits =
      read-map (λ b. b.bit) no_value (leveled_values c bytes) (bits c bytes)
      (fold-map (λ b. b.bit) leveled_op bit_op no_value 0 refl (λ k a b. refl) c.gates (start_leveled c bytes)
      ∙ ap (fold_gates bit_op 0 c.gates) (start-bits 0 (start_bits bytes) (start_levels c) (starts-long c bytes e)))
      c.outputs

  pub emitted-levels : map (λ b. b.level) (leveled_outputs c bytes) ≡ map (depth c) c.outputs
  unfolding depths
  emitted-levels =
      read-map (λ b. b.level) no_value (leveled_values c bytes) (depths c)
      (fold-levels c.gates (start_leveled c bytes) (omega (arith, leveled-length c bytes e))
      (public-start c bytes e) ∙ ap (append_each gate_depth c.gates) (start-levels 0 (start_bits bytes) (start_levels c) (starts-long c bytes e)))
      c.outputs

-- operands can change places
pub leveled-swaps : (kind : ℕ) (a b : LeveledBit) → leveled_op kind a b ≡ leveled_op kind b a
leveled-swaps kind a b =
    let level : first (eqb kind and_kind && not (a.public || b.public)) (max a.level b.level + 1) (max a.level b.level)
    ≡ first (eqb kind and_kind && not (b.public || a.public)) (max b.level a.level + 1) (max b.level a.level)
    = ap₂ (λ p l. first (eqb kind and_kind && not p) (l + 1) l) (or_comm a.public b.public) (max_comm a.level b.level) in
    ap₂ (λ x l. record { bit = x; level = l; public = false }) (gate-comm kind a.bit b.bit) level
