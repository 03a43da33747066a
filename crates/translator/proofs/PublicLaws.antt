-- A register is public from a load of a constant until it is overwritten. Assumes nothing.
use mathlib.Core.Path.{◌≡◌, sym, ap, ◌∙◌}
use mathlib.Core.Bool.{Bool, ◌&&◌, ◌||◌}
use mathlib.Core.List.{List, [], ◌∷◌}
use mathlib.Core.Option.{none, some, bind-eq-some_iff, some-injective}
use Prim.Native.Nat.{ℕ}
use native.Mathlib.Decide.{ℕ_discrete}
use lib.Dec.{eqb}
use lib.ListN.{get_or, set}
use lib.Seq.{get_or-set_same, get_or-set_other}
use borrow.Author.Tests.{eq-eqb, ne_eqb}
use Rattle.lists.specs.First.{first}
use Rattle.circuit.specs.Circuit.{is_constant}
use Rattle.translator.specs.Machine.{Instruction, is_load, is_operation, Machine, read_from, execute, run_from}
use Rattle.translator.specs.LeveledBit.{LeveledBit, leveled_op}
use Rattle.translator.specs.PublicRegister.{is_public_after}
use Rattle.translator.proofs.RunLaws.{Wrote, Did, did-load, did-operation, did-emit, execute-did}
use Rattle.translator.proofs.FaultLaws.{full}
use Rattle.translator.proofs.LeveledLaws.{no_value, PublicConstants}

-- each full register has its mark
abbrev Marks : Machine LeveledBit → (marks : ℕ → Bool) → Type 0
Marks m marks = (d : ℕ) (v : LeveledBit) → read_from m d ≡ some v → v.public ≡ marks d

-- a write replaces one mark
write-marks : (m m' : Machine LeveledBit) (marks : ℕ → Bool) (d : ℕ) (x : LeveledBit) → Wrote m m' d x → Marks m marks
    → Marks m' (λ k. first (eqb k d) x.public (marks k))
write-marks m m' marks d x w h k v r =
    let read : get_or (set m.registers d (some x)) k none ≡ some v = ap (λ n. read_from n k) (sym w.result) ∙ r in
    elim (ℕ_discrete k d) [
      | yes s ↦
          let here = sym (get_or-set_same m.registers d (some x) none w.inside) ∙ ap (λ j. get_or (set m.registers d (some x)) j none) (sym s) ∙ read in
          rw (eq-eqb k d s) (ap (λ y. y.public) (sym (some-injective x v here)))
      | no s ↦ rw (ne_eqb k d s) (h k v (sym (get_or-set_other m.registers d k (some x) none s) ∙ read))
    ]

module _ (start : List LeveledBit) (loads : PublicConstants start) where
  execute-marks : (i : Instruction) (m m' : Machine LeveledBit) (marks : ℕ → Bool) → Did start leveled_op i m m' → Marks m marks
      → Marks m' (λ d. first ((is_load i || is_operation i) && eqb d i.arg1) (is_load i && is_constant i.arg2) (marks d))
  execute-marks i m m' marks (did-load l x p w) h =
      let mark : x.public ≡ is_constant i.arg2 = ap (λ y. y.public) (sym (full start no_value i.arg2 x p)) ∙ loads i.arg2 in
      rw l (λ k v r. write-marks m m' marks i.arg1 x w h k v r ∙ ap (λ b. first (eqb k i.arg1) b (marks k)) mark)
  execute-marks i m m' marks (did-operation l o a b p q w) h = rw (l, o) (write-marks m m' marks i.arg1 (leveled_op i.opcode a b) w h)
  execute-marks i m m' marks (did-emit l o e a p q) h = rw (l, o) (λ k v r. h k v (ap (λ n. read_from n k) q ∙ r))

  pub run-marks : (is : List Instruction) (m m' : Machine LeveledBit) (marks : ℕ → Bool) → run_from start leveled_op is m ≡ some m' → Marks m marks
      → Marks m' (λ d. is_public_after is d (marks d))
  unfolding run_from is_public_after
  run-marks [] m m' marks e h = λ d v r. h d v (ap (λ n. read_from n d) (some-injective m m' e) ∙ r)
  run-marks (i ∷ is) m m' marks e h =
      let (n, p, q) = (bind-eq-some_iff (execute start leveled_op i m) (run_from start leveled_op is)).0 e in
      run-marks is n m' (λ d. first ((is_load i || is_operation i) && eqb d i.arg1) (is_load i && is_constant i.arg2) (marks d)) q (execute-marks i m n marks (execute-did start leveled_op i m n p) h)
