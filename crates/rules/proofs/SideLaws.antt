-- A loop that computes the words of a side's references in an array, each gate's behind those before it. The side's n gate lines begin
-- at number q of the table, its first gate is reference m, and the constants' and holes' words are `start`. Assumes nothing.
use mathlib.Core.Path.{◌≡◌, sym, ap, ap₂, ◌∙◌}
use mathlib.Core.Bool.{true}
use mathlib.Core.List.{List}
use Prim.Native.Nat.{ℕ, ◌+◌, ◌*◌, ◌-◌, ◌<◌}
use native.Mathlib.Omega.{arith}
use lib.Dec.{eqb}
use lib.ListN.{length, take, drop, get_or, set}
use lib.Seq.{take-take}
use Rattle.lists.proofs.Each.{each-begin, Filled, filled_none, filled_more, filled-all}
use Rattle.lists.proofs.Maps.{take-read}
use Rattle.circuit.specs.Circuit.{first_gate}
use Rattle.circuit.specs.Table.{line_at, lines_of}
use Rattle.circuit.specs.Each.{all_gates}
use Rattle.circuit.specs.Refusal.{operands_below}
use Rattle.circuit.specs.Fold.{gate_value}
use Rattle.circuit.specs.Evaluation.{bit_op}
use Rattle.circuit.proofs.TableLaws.{lines-length, step_from}
use Rattle.circuit.proofs.LoopLaws.{value_read}
use Rattle.rules.specs.RuleTable.{holes_at, lefts_at, left_from, rule_at}
use Rattle.rules.specs.Soundness.{side_value}
use Rattle.rules.specs.Words.{start_words, same_words}
use Rattle.rules.proofs.LineLaws.{operands-at}

module _ (t : List ℕ) (q n m size : ℕ) (start : List ℕ) where
  -- the words of the first i gates are there
  abbrev pub SideTo : (d : List ℕ) (i : ℕ) → Type 0
  SideTo = Filled (gate_value bit_op 0) (lines_of n (drop q t)) start m size

  pub side-none : (d : List ℕ) → take m d ≡ start → length d ≡ size → SideTo d 0
  side-none d e l = filled_none (gate_value bit_op 0) (lines_of n (drop q t)) start m size d e l

  pub side-more : (d : List ℕ) (i x : ℕ) → SideTo d i → all_gates operands_below m (lines_of n (drop q t)) ≡ true → i < n → m + i < size
      → x ≡ bit_op (get_or t (q + 3 * i) 0) (get_or d (get_or t (q + 3 * i + 1) 0) 0) (get_or d (get_or t (q + 3 * i + 2) 0) 0)
      → SideTo (set d (m + i) x) (i + 1)
  side-more d i x f ok h room e =
      let o = operands-at n q t m ok i h in
      filled_more (gate_value bit_op 0) (lines_of n (drop q t)) start m size d i x (line_at t (q + 3 * i)) f (step_from q n t i h) room
      (e ∙ value_read bit_op 0 (line_at t (q + 3 * i)) (m + i) d o.0 o.1)

  -- all of them, as one who looks at reference r sees them
  pub side-all : (d : List ℕ) (i : ℕ) → SideTo d i → i ≡ n → (r : ℕ) → r < m + n → get_or d r 0 ≡ side_value (lines_of n (drop q t)) r start
  side-all d i f h r l =
      take-read (m + i) d _ r 0 (filled-all (gate_value bit_op 0) (lines_of n (drop q t)) start m size d i f (omega (arith, lines-length n (drop q t)))) (omega arith)

  -- and the front is as it was
  pub side-kept : (d : List ℕ) (i : ℕ) → SideTo d i → i ≡ n → length start ≡ m → take m d ≡ start
  side-kept d i f h l =
      sym (take-take m (m + i) d (omega arith))
      ∙ ap (take m) (filled-all (gate_value bit_op 0) (lines_of n (drop q t)) start m size d i f (omega (arith, lines-length n (drop q t))))
      ∙ each-begin (gate_value bit_op 0) (lines_of n (drop q t)) start m l

-- the compare of both sides' words, as they were read off for the rule at number p
pub side-compare : (t : List ℕ) (p n from x y : ℕ)
    → x ≡ side_value (rule_at t p).lefts (first_gate (holes_at t p) + lefts_at t p - 1) (start_words n from (holes_at t p))
    → y ≡ side_value (rule_at t p).rights (rule_at t p).closing (start_words n from (holes_at t p))
    → eqb x y ≡ same_words n from (rule_at t p)
side-compare t p n from x y ex ey =
    ap₂ eqb
    (ex ∙ ap (λ k. side_value (rule_at t p).lefts (first_gate (holes_at t p) + k - 1) (start_words n from (holes_at t p))) (sym (lines-length (lefts_at t p) (drop (left_from t p) t))))
    ey
