-- The depths below a replaced gate stay, so that those of the replaced circuit are worked out from that gate on. Assumes nothing.
use mathlib.Core.Path.{◌≡◌, refl, sym, ap, ◌∙◌}
use mathlib.Core.List.{List, [], ◌∷◌, ◌++◌, map}
use Prim.Native.Nat.{ℕ, ◌+◌, ◌-◌, ◌≤◌, ◌<◌}
use native.Mathlib.Omega.{arith}
use lib.ListN.{length, take, drop, length-append, take-append-drop}
use lib.Seq.{length-take-le}
use Rattle.lists.specs.Each.{append_each}
use Rattle.lists.proofs.Each.{each-length, each-begin}
use Rattle.lines.specs.Calls.{over}
use Rattle.circuit.specs.Circuit.{Circuit, first_gate, references}
use Rattle.circuit.specs.Depth.{gate_depth, start_levels, depths}
use Rattle.circuit.specs.Table.{inputs, refs, decode}
use Rattle.circuit.specs.Trim.{rename_gate}
use Rattle.circuit.proofs.FrontLaws.{front-is}
use Rattle.circuit.proofs.TableLaws.{gates-length}
use Rattle.circuit.proofs.StartLaws.{start-length}
use Rattle.rules.specs.Rule.{Rule}
use Rattle.rewriting.specs.Replacement.{right_renaming, renaming, gates_before, gates_behind, replace}

module _ {A B : Type 0} (make : A → List B → B) where
  each_append : (xs ys : List A) (vs : List B) → append_each make (xs ++ ys) vs ≡ append_each make ys (append_each make xs vs)
  unfolding append_each
  each_append [] ys vs = refl
  each_append (x ∷ xs) ys vs = each_append xs ys (vs ++ (make x vs ∷ []))

  -- lists that begin alike make lists that begin alike
  each-alike : (xs ys zs : List A) (vs : List B) (n : ℕ) → n ≡ length vs + length xs
      → take n (append_each make (xs ++ ys) vs) ≡ take n (append_each make (xs ++ zs) vs)
  each-alike xs ys zs vs n e = front ys ∙ sym (front zs)
    where
      front : (ws : List A) → take n (append_each make (xs ++ ws) vs) ≡ append_each make xs vs
      front ws = ap (take n) (each_append xs ws vs) ∙ each-begin make ws (append_each make xs vs) n (each-length make xs vs ∙ sym e)

-- t is the table of the replaced circuit: the gate's place is in it too
pub replaced-place : (c : Circuit) (u : Rule) (gate : ℕ) (b : List ℕ) → first_gate c.inputs ≤ gate → gate < references c
    → (t : List ℕ) → decode t ≡ replace c u gate b → (first_gate (inputs t) ≤ gate) × (gate ≤ refs t)
unfolding replace
replaced-place c u gate b lo hi t e =
    let k = gate - first_gate c.inputs in
    let rest = map (rename_gate (right_renaming u gate b)) u.rights ++ map (rename_gate (renaming u gate b)) (gates_behind c gate) in
    let same : inputs t ≡ c.inputs = ap (λ (x : Circuit). x.inputs) e in
    let long : length (decode t).gates ≡ length (gates_before c gate ++ rest) = ap (λ (x : Circuit). length x.gates) e in (
      omega (arith, same),
      omega (arith, same, gates-length t, long, length-append (gates_before c gate) rest, length-take-le k c.gates (omega arith)),
    )

pub below_stays : (c : Circuit) (u : Rule) (gate : ℕ) (b : List ℕ) → first_gate c.inputs ≤ gate → gate < references c
    → take gate (depths (replace c u gate b)) ≡ take gate (depths c)
unfolding depths start_levels replace
below_stays c u gate b lo hi =
    let k = gate - first_gate c.inputs in
    let start = start_levels c in
    let before = gates_before c gate in
    let long : gate ≡ length start + length before
    = omega (arith, length-take-le k c.gates (omega arith), start-length c) in
    each-alike gate_depth before
    (map (rename_gate (right_renaming u gate b)) u.rights ++ map (rename_gate (renaming u gate b)) (gates_behind c gate))
    (drop k c.gates) start gate long
    ∙ ap (λ gs. take gate (append_each gate_depth gs start)) (take-append-drop k c.gates)

-- and once they are copied over the front of d, the others follow from `start` on
pub copied-below : (t current d₀ d : List ℕ) (gate start : ℕ) → first_gate (inputs t) + start ≡ gate → gate ≤ length current
    → take gate current ≡ take gate (depths (decode t)) → d ≡ over (take gate current) d₀
    → take (first_gate (inputs t) + start) d ≡ take (first_gate (inputs t) + start) (depths (decode t))
copied-below t current d₀ d gate start q h e f =
    ap (λ k. take k d) q ∙ front-is (take gate current) d₀ d f gate (sym (length-take-le gate current h)) ∙ e
    ∙ ap (λ k. take k (depths (decode t))) (sym q)
