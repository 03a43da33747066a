-- Lines of a side: what loops over the gate lines of a rule, and readers of them, need. The lines are n, from number q of the table on;
-- a loop that has come to line i cites `step_from` (circuit). Assumes nothing.
use mathlib.Core.Path.{◌≡◌, refl, sym, ap, ◌∙◌}
use mathlib.Core.Bool.{Bool, true, ◌&&◌, and_assoc}
use mathlib.Core.List.{List, [], ◌∷◌}
use Prim.Native.Nat.{ℕ, suc, ◌+◌, ◌*◌, ◌<◌}
use native.Mathlib.Nat.{add-zero}
use lib.Dec.{ltb}
use lib.ListN.{drop, get_or}
use lib.Seq.{get_or-drop}
use borrow.Author.Tests.{ltb-true}
use Rattle.lists.proofs.Tests.{left-of, right_of}
use Rattle.circuit.specs.Circuit.{Gate, no_gate, first_gate}
use Rattle.circuit.specs.Table.{line_at, lines_of}
use Rattle.circuit.specs.Each.{all_gates, EachGate}
use Rattle.circuit.specs.Refusal.{has_gate_kind, is_closing, operands_below, reference_below}
use Rattle.circuit.proofs.TableLaws.{lines-length, step_from}
use Rattle.circuit.proofs.EachLaws.{all-at}
use Rattle.rules.specs.RuleTable.{holes_at, lefts_at, rights_at, left_from, right_from, closing_from, rule_at}
use Rattle.rules.specs.RuleRefusal.{rule_kinds_ok, references_ok}

module _ (n q : ℕ) (t : List ℕ) where
  pub line_of : (i : ℕ) → i < n → get_or (lines_of n (drop q t)) i no_gate ≡ line_at t (q + 3 * i)
  line_of i h =
      ap (λ k. get_or (lines_of n (drop q t)) k no_gate) (sym (add-zero i)) ∙ sym (get_or-drop i (lines_of n (drop q t)) 0 no_gate)
      ∙ ap (λ l. get_or l 0 no_gate) (step_from q n t i h)

  -- the operands of line i, where the first line is reference m
  pub operands-at : (m : ℕ) → all_gates operands_below m (lines_of n (drop q t)) ≡ true → (i : ℕ) → i < n
      → (get_or t (q + 3 * i + 1) 0 < m + i) × (get_or t (q + 3 * i + 2) 0 < m + i)
  operands-at m e i h =
      let o = all-at operands_below m (lines_of n (drop q t)) i (line_at t (q + 3 * i)) e (step_from q n t i h) in
      let a = ltb (get_or t (q + 3 * i + 1) 0) (m + i) in
      let b = ltb (get_or t (q + 3 * i + 2) 0) (m + i) in
      (ltb-true _ _ (left-of a b o), ltb-true _ _ (right_of a b o))

-- what does not go by the references holds whichever the first is
pub each_from : (P : Gate → Type 0) (m n : ℕ) (gs : List Gate) → EachGate (λ k g. P g) m gs → EachGate (λ k g. P g) n gs
each_from P m n [] a = tt
each_from P m n (g ∷ gs) a = (a.0, each_from P (suc m) (suc n) gs a.1)

kinds-from : (m n : ℕ) (gs : List Gate) → all_gates has_gate_kind m gs ≡ all_gates has_gate_kind n gs
unfolding all_gates
kinds-from m n [] = refl
kinds-from m n (g ∷ gs) = ap (λ b. has_gate_kind m g && b) (kinds-from (suc m) (suc n) gs)

-- The tests of a rule's lines, one after the other: its left gate lines, its right ones and its closing line, which were found to begin at
-- l, q and e; b, c and d are what each leaves of the one before.
module _ (t : List ℕ) (p l q e : ℕ) (el : l ≡ left_from t p) (eq : q ≡ right_from t p) (ee : e ≡ closing_from t p) (a b c d : Bool) where
  pub kinds-tested : (m : ℕ) → b ≡ (a && all_gates has_gate_kind m (lines_of (lefts_at t p) (drop l t)))
      → c ≡ (b && all_gates has_gate_kind m (lines_of (rights_at t p) (drop q t))) → d ≡ (c && is_closing 0 (line_at t e)) → d ≡ (a && rule_kinds_ok t p)
  kinds-tested m hb hc hd =
      rw (hd, hc, hb, el, eq, ee, kinds-from m 0 (rule_at t p).lefts, kinds-from m 0 (rule_at t p).rights) (simp and_assoc)

  pub references-tested : b ≡ (a && all_gates operands_below (first_gate (holes_at t p)) (lines_of (lefts_at t p) (drop l t)))
      → c ≡ (b && all_gates operands_below (first_gate (holes_at t p)) (lines_of (rights_at t p) (drop q t)))
      → d ≡ (c && reference_below (first_gate (holes_at t p) + rights_at t p) 0 (line_at t e)) → d ≡ (a && references_ok (rule_at t p))
  references-tested hb hc hd = rw (hd, hc, hb, el, eq, ee, lines-length (rights_at t p) (drop (right_from t p) t)) (simp and_assoc)
