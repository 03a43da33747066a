-- A run without a fault uses no registers but those below the limit. Assumes nothing.
use mathlib.Core.Path.{◌≡◌, refl, sym, ap, ◌∙◌}
use mathlib.Core.Bool.{Bool, true, false, true≢false, ◌||◌}
use mathlib.Core.List.{List, [], ◌∷◌, ◌++◌}
use mathlib.Core.Option.{none, some, bind-eq-some_iff, none-ne-some}
use Prim.Native.Nat.{ℕ, ◌<◌}
use native.Mathlib.Decide.{dec_lt}
use native.Mathlib.Omega.{arith}
use lib.Dec.{eqb}
use lib.ListN.{length, length-set, get_or-eq_default}
use borrow.Author.Tests.{eqb-true}
use Rattle.circuit.specs.Path.{is_among}
use Rattle.translator.specs.Machine.{Instruction, Machine, read_from, execute, run_from}
use Rattle.translator.specs.Shape.{registers_of, registers_in}
use Rattle.translator.proofs.OwnerLaws.{among-append}
use Rattle.translator.proofs.RunLaws.{Wrote, Did, did-load, did-operation, did-emit, execute-did}

-- all of a list are below n
abbrev pub Below : (n : ℕ) → List ℕ → Type 0
Below n ds = (d : ℕ) → is_among d ds ≡ true → d < n

below_none : (n : ℕ) → Below n []
unfolding is_among
below_none n d e = absurd (true≢false (sym e))

below-cons : (n x : ℕ) (ds : List ℕ) → x < n → Below n ds → Below n (x ∷ ds)
unfolding is_among
below-cons n x ds h b d e = go (eqb d x) refl
  where
    go : (a : Bool) → eqb d x ≡ a → d < n
    go true q = rw (eqb-true d x q) h
    go false q = b d (rw q at e)

below-append : (n : ℕ) (ds es : List ℕ) → Below n ds → Below n es → Below n (ds ++ es)
below-append n ds es a b d e = go (is_among d ds) refl (sym (among-append d ds es) ∙ e)
  where
    go : (x : Bool) → is_among d ds ≡ x → x || is_among d es ≡ true → d < n
    go true q f = a d q
    go false q f = b d f

module _ {A : Type 0} (start : List A) (op : ℕ → A → A → A) where
  read-within : (m : Machine A) (a : ℕ) (x : A) → read_from m a ≡ some x → a < length m.registers
  read-within m a x e =
      elim (dec_lt a (length m.registers)) [
        | yes l ↦ l
        | no l ↦ absurd (none-ne-some x (sym (get_or-eq_default m.registers none {n = a} (omega arith)) ∙ e))
      ]

  module _ (i : Instruction) (m m' : Machine A) where
    abbrev Within : List ℕ → Type 0
    Within ds = Below (length m.registers) ds × (length m'.registers ≡ length m.registers)

    write-within : (d : ℕ) (x : A) → Wrote m m' d x → length m'.registers ≡ length m.registers
    write-within d x w = ap (λ n. length n.registers) w.result ∙ length-set m.registers d (some x)

    execute-within : Did start op i m m' → Within (registers_of i)
    unfolding registers_of
    execute-within (did-load l x p w) = rw l (below-cons _ i.arg1 [] w.inside (below_none _), write-within i.arg1 x w)
    execute-within (did-operation l o a b p q w) =
        rw (l, o) (
          below-cons _ i.arg1 (i.arg2 ∷ i.arg3 ∷ []) w.inside (below-cons _ i.arg2 (i.arg3 ∷ []) (read-within m i.arg2 a p)
              (below-cons _ i.arg3 [] (read-within m i.arg3 b q) (below_none _))),
          write-within i.arg1 (op i.opcode a b) w,
        )
    execute-within (did-emit l o e a p q) =
        rw (l, o, e) (below-cons _ i.arg1 [] (read-within m i.arg1 a p) (below_none _), ap (λ n. length n.registers) (sym q))

  pub run-within : (is : List Instruction) (m m' : Machine A) → run_from start op is m ≡ some m' → Below (length m.registers) (registers_in is)
  unfolding run_from registers_in
  run-within [] m m' e = below_none (length m.registers)
  run-within (i ∷ is) m m' e =
      let (n, p, q) = (bind-eq-some_iff (execute start op i m) (run_from start op is)).0 e in
      let (b, l) = execute-within i m n (execute-did start op i m n p) in
      below-append (length m.registers) (registers_of i) (registers_in is) b (rw l at (run-within is n m' q))
