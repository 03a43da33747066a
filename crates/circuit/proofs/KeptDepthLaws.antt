-- The loop that moves the depths of the references that are kept together: they are those of the trimmed circuit. Assumes nothing.
use mathlib.Core.Path.{◌≡◌, sym, ap, ◌∙◌}
use mathlib.Core.Bool.{true, false, ◌||◌}
use mathlib.Core.List.{List}
use Prim.Native.Nat.{ℕ, ◌+◌, ◌≤◌, ◌<◌}
use native.Mathlib.Decide.{dec_lt}
use native.Mathlib.Omega.{arith}
use lib.Dec.{ltb}
use lib.ListN.{length, take, get_or, set, length-set}
use lib.Seq.{get_or-set_same, get_or-set_other, get_or-take, length-take-le, ext_get_or}
use Rattle.lists.proofs.Maps.{take-read}
use Rattle.circuit.specs.Circuit.{first_gate, references}
use Rattle.circuit.specs.Table.{inputs, refs, decode}
use Rattle.circuit.specs.WellFormed.{WellFormed}
use Rattle.circuit.specs.Depth.{depths, depth}
use Rattle.circuit.specs.ReverseDepth.{reverse_depths}
use Rattle.circuit.specs.Trim.{rank, is_kept, trim}
use Rattle.circuit.proofs.TableLaws.{refs-decode}
use Rattle.circuit.proofs.ValidLaws.{valid-decode}
use Rattle.circuit.proofs.BoundLaws.{depths-length}
use Rattle.circuit.proofs.RankLaws.{rank-none, rank-kept, rank-gone}
use Rattle.circuit.proofs.TrimLaws.{trim-references, trim-depth}

-- the trimmed circuit's first `next` depths are there, and `next` is the new number of v
pub record MovedTo (t : List ℕ) (size : ℕ) (d : List ℕ) (next v : ℕ) : Type 0 where
  pub few : next ≤ v
  pub follows : next ≡ rank (is_kept (decode t)) v
  pub long : length d ≡ size
  pub moved : (j : ℕ) → j < next → get_or d j 0 ≡ depth (trim (decode t)) j

module _ (t : List ℕ) where
  pub moved_none : (d : List ℕ) (size : ℕ) → length d ≡ size → MovedTo t size d 0 0
  moved_none d size l =
      record {
        few = omega arith;
        follows = sym (rank-none (is_kept (decode t)));
        long = l;
        moved = λ j h. let z : ⊥ = omega arith in absurd z;
      }

  module _ (size : ℕ) (d : List ℕ) (next v : ℕ) (r : MovedTo t size d next v) where
    pub moved_all : WellFormed t → refs t ≡ v → refs t ≤ size → take (references (trim (decode t))) d ≡ depths (trim (decode t))
    moved_all w e h =
        let c = decode t in
        let n : references (trim c) ≡ next = trim-references c (valid-decode t w) ∙ ap (rank (is_kept c)) (refs-decode t ∙ e) ∙ sym r.follows in
        let l : length (take (references (trim c)) d) ≡ references (trim c) = length-take-le (references (trim c)) d (omega (arith, r.few, r.long)) in
        ext_get_or 0 (take (references (trim c)) d) (depths (trim c)) (l ∙ sym (depths-length (trim c)))
        (λ j k. get_or-take (references (trim c)) d j 0 (omega arith) ∙ r.moved j (omega arith))

    module _ (w : WellFormed t) (u old : List ℕ) (e : take (refs t) u ≡ reverse_depths (decode t)) (f : take (refs t) old ≡ depths (decode t))
        (h : v < refs t) (fits : refs t ≤ size) (m : ℕ) (n : m ≡ first_gate (inputs t)) where
      read : (ltb v m || ltb 0 (get_or u v 0)) ≡ is_kept (decode t) v
      read =
          ap (λ k. ltb v k || ltb 0 (get_or u v 0)) n
          ∙ ap (λ x. ltb v (first_gate (inputs t)) || ltb 0 x) (take-read (refs t) u (reverse_depths (decode t)) v 0 e h)

      stays : (x j : ℕ) → j < next → get_or (set d next x) j 0 ≡ depth (trim (decode t)) j
      stays x j k = get_or-set_other d next j x 0 (λ q. omega arith) ∙ r.moved j k

      pub moved-kept : (ltb v m || ltb 0 (get_or u v 0)) ≡ true → MovedTo t size (set d next (get_or old v 0)) (next + 1) (v + 1)
      moved-kept k =
          let kept : is_kept (decode t) v ≡ true = sym read ∙ k in
          record {
            few = omega (arith, r.few);
            follows = ap (λ x. x + 1) r.follows ∙ sym (rank-kept (is_kept (decode t)) v kept);
            long = length-set d next (get_or old v 0) ∙ r.long;
            moved = λ j l.
                elim (dec_lt j next) [
                  | yes q ↦ stays (get_or old v 0) j q
                  | no q ↦
                      let here : j ≡ next = omega arith in
                      rw here
                      (get_or-set_same d next (get_or old v 0) 0 (omega (arith, r.few, r.long))
                      ∙ take-read (refs t) old (depths (decode t)) v 0 f h
                      ∙ sym (trim-depth (decode t) (valid-decode t w) v (omega (arith, refs-decode t)) kept)
                      ∙ ap (depth (trim (decode t))) (sym r.follows))
                ];
          }

      pub moved-gone : (ltb v m || ltb 0 (get_or u v 0)) ≡ false → MovedTo t size (set d next (get_or old v 0)) next (v + 1)
      moved-gone k =
          record {
            few = omega (arith, r.few);
            follows = r.follows ∙ sym (rank-gone (is_kept (decode t)) v (sym read ∙ k));
            long = length-set d next (get_or old v 0) ∙ r.long;
            moved = stays (get_or old v 0);
          }
