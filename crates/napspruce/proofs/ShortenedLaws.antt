-- What is read of a circuit's table is refused as the table is; where neither is refused, they are the same. Assumes nothing.
use mathlib.Core.Path.{◌≡◌, refl, sym, ap, ap₂, ◌∙◌}
use mathlib.Core.Logic.{◌⊎◌, inl, inr}
use mathlib.Core.Bool.{Bool, true, false}
use mathlib.Core.List.{List, [], ◌∷◌, ◌++◌}
use Prim.Native.Nat.{ℕ, suc, ◌+◌, ◌*◌, ◌/◌, ◌≤◌, ◌<◌}
use native.Mathlib.Decide.{dec_lt}
use native.Mathlib.Omega.{arith}
use lib.ListN.{length, take, drop, length-append, length-drop, take-append-drop}
use lib.Seq.{take_all, length-take-le}
use borrow.Author.Tests.{eq-eqb, ne_eqb, eqb-true, eqb-false, lt-ltb, le-ltb}
use Rattle.lists.specs.First.{first}
use Rattle.lines.specs.Text.{is_partial}
use Rattle.lines.proofs.CallLaws.{whole_is}
use Rattle.lines.proofs.TextLaws.{whole-passes}
use Rattle.circuit.specs.Circuit.{max_inputs, constants, first_gate}
use Rattle.circuit.specs.Table.{inputs, start_run, starts, gates_from, table_end, decode}
use Rattle.circuit.specs.Refusal.{head_in_limits, lines_as_head_says, starts_ok, refusal}
use Rattle.circuit.proofs.TableLaws.{starts-length}
use Rattle.circuit.proofs.RefusalLaws.{head-limits, refusal-head, refusal-lines, refusal-starts}
use Rattle.circuit.proofs.StartRunLaws.{run_fits, run-behind, run-front, run-part}
use Rattle.circuit.proofs.StartLaws.{right-count}
use Rattle.napspruce.specs.Front.{starts_read, rest_read, shortened}
use Rattle.napspruce.proofs.FrontLaws.{Alike}

-- of the lines behind the head
abbrev lines_read : List ℕ → List ℕ
lines_read l = take (3 * starts_read (start_run l)) l ++ take (3 * rest_read) (drop (3 * start_run l) l)

starts-read : (n : ℕ) → (n ≤ max_inputs × (starts_read n ≡ n)) ⊎ (max_inputs < n × (starts_read n ≡ max_inputs + 1))
starts-read n =
    elim (dec_lt n (max_inputs + 1)) [
      | yes l ↦ inl (omega arith, ap (λ b. first b n (max_inputs + 1)) (lt-ltb n (max_inputs + 1) l))
      | no l ↦ inr (omega arith, ap (λ b. first b n (max_inputs + 1)) (le-ltb n (max_inputs + 1) (omega arith)))
    ]

-- no more than there are, and at most one more than there can be inputs
pub read-le : (n : ℕ) → (starts_read n ≤ n) × (starts_read n ≤ max_inputs + 1)
read-le n = elim (starts-read n) [ inl x ↦ (omega (arith, x.1), omega (arith, x.0, x.1)) | inr x ↦ (omega (arith, x.0, x.1), omega (arith, x.1)) ]

-- ---- the lines behind the head

module _ (l : List ℕ) where
  -- what stands behind the run
  abbrev behind : List ℕ
  behind = drop (3 * start_run l) l

  behind-length : length l ≡ 3 * start_run l + length behind
  behind-length = omega (arith, length-drop (3 * start_run l) l, run_fits l)

  read-run : start_run (lines_read l) ≡ starts_read (start_run l)
  read-run = run-part (starts_read (start_run l)) l (take (3 * rest_read) behind) (read-le (start_run l)).0 (run-front rest_read behind (run-behind l))

  front_length : length (lines_read l) ≡ 3 * starts_read (start_run l) + length (take (3 * rest_read) behind)
  front_length =
      let n = starts_read (start_run l) in
      omega (
        arith,
        length-append (take (3 * n) l) (take (3 * rest_read) behind),
        length-take-le (3 * n) l (omega (arith, (read-le (start_run l)).0, run_fits l)),
      )

  -- all of them, if there are no more than are read
  pub read_all : starts_read (start_run l) ≡ start_run l → length behind ≤ 3 * rest_read → lines_read l ≡ l
  read_all e h =
      ap₂ (λ n x. take (3 * n) l ++ x) e (take_all (3 * rest_read) behind h) ∙ take-append-drop (3 * start_run l) l

-- ---- the table

-- more starting lines than inputs are never right
too_many : (t : List ℕ) → inputs t < starts t → starts_ok t ≡ false
too_many t h = go (starts_ok t) refl
  where
    go : (b : Bool) → starts_ok t ≡ b → b ≡ false
    go true e =
        let z : ⊥ = omega (arith, right-count (first_gate (inputs t)) constants (decode t).starts e (omega arith), starts-length t) in
        absurd z
    go false e = refl

module _ (i g o : ℕ) (l : List ℕ) where
  abbrev whole : List ℕ
  whole = i ∷ g ∷ o ∷ l

  abbrev part : List ℕ
  part = i ∷ g ∷ o ∷ lines_read l

  pub shortened-part : shortened whole ≡ part
  shortened-part =
      let n = starts_read (start_run l) in
      let e : 3 * (1 + n) ≡ suc (suc (suc (3 * n))) = omega arith in
      let f : gates_from whole ≡ suc (suc (suc (3 * start_run l))) = omega arith in
      ap₂ (λ j k. take j whole ++ take (3 * rest_read) (drop k whole)) e f

  -- whole lines stay whole
  pub part-whole : is_partial 3 whole ≡ false → is_partial 3 part ≡ false
  part-whole p =
      elim (dec_lt (3 * rest_read) (length (behind l))) [
        | yes q ↦
            whole-passes 3 (1 + starts_read (start_run l) + rest_read) part (omega arith)
            (omega (arith, front_length l, length-take-le (3 * rest_read) (behind l) (omega arith))) (omega arith)
        | no q ↦
            let n = whole_is 3 whole p in
            whole-passes 3 (length part / 3) part (omega arith)
            (omega (arith, n, front_length l, behind-length l, ap length (take_all (3 * rest_read) (behind l) (omega arith)))) (omega arith)
      ]

  -- there are as many lines as the head says in the part exactly if there are in the whole
  lines-alike : head_in_limits whole ≡ true → (length part ≡ table_end part → length whole ≡ table_end whole) × (length whole ≡ table_end whole → length part ≡ table_end part)
  lines-alike h =
      let k = head-limits whole h in
      elim (dec_lt (3 * rest_read) (length (behind l))) [
        | yes q ↦
            let x = length-take-le (3 * rest_read) (behind l) (omega arith) in
            (λ e. let z : ⊥ = omega (arith, e, x, front_length l, read-run l, k) in absurd z, λ e. let z : ⊥ = omega (arith, e, behind-length l, k) in absurd z)
        | no q ↦
            let x = ap length (take_all (3 * rest_read) (behind l) (omega arith)) in
            (λ e. omega (arith, e, x, front_length l, read-run l, behind-length l), λ e. omega (arith, e, x, front_length l, read-run l, behind-length l))
      ]

  -- if something is not read, the whole is refused, and so is the part
  pub refused-alike : is_partial 3 whole ≡ false → ((max_inputs < start_run l × (starts_read (start_run l) ≡ max_inputs + 1)) ⊎ (3 * rest_read < length (behind l)))
      → (refusal part ≡ refusal whole) × (refusal whole ≡ 0 → ⊥)
  refused-alike p more = go (head_in_limits whole) refl
    where
      alike : (n : ℕ) → suc n ≡ refusal part → suc n ≡ refusal whole → (refusal part ≡ refusal whole) × (refusal whole ≡ 0 → ⊥)
      alike n a b = (sym a ∙ b, λ z. let y : ⊥ = omega (arith, b, z) in y)

      counted : head_in_limits whole ≡ true → (b : Bool) → lines_as_head_says whole ≡ b → (refusal part ≡ refusal whole) × (refusal whole ≡ 0 → ⊥)
      counted h false e =
          let f : lines_as_head_says part ≡ false = ne_eqb (length part) (table_end part) (λ q. eqb-false (length whole) (table_end whole) e ((lines-alike h).0 q)) in
          alike 4 (refusal-lines part (part-whole p) h f) (refusal-lines whole p h e)
      counted h true e =
          let q : length whole ≡ table_end whole = eqb-true (length whole) (table_end whole) e in
          let f : lines_as_head_says part ≡ true = eq-eqb (length part) (table_end part) ((lines-alike h).1 q) in
          let k = head-limits whole h in
          elim more [
            | inl x ↦
                alike 10
                (refusal-starts part (part-whole p) h f (too_many part (omega (arith, k.0, x.1, read-run l))))
                (refusal-starts whole p h e (too_many whole (omega (arith, k.0, x.0))))
            | inr x ↦ let z : ⊥ = omega (arith, q, x, behind-length l, k) in absurd z
          ]

      go : (b : Bool) → head_in_limits whole ≡ b → (refusal part ≡ refusal whole) × (refusal whole ≡ 0 → ⊥)
      go false h = alike 3 (refusal-head part (part-whole p) h) (refusal-head whole p h)
      go true h = counted h (lines_as_head_says whole) refl

pub circuit-alike : (t : List ℕ) → is_partial 3 t ≡ false → Alike refusal (shortened t) t
circuit-alike [] p = let z : ⊥ = omega (arith, whole_is 3 [] p) in absurd z
circuit-alike (i ∷ []) p = let z : ⊥ = omega (arith, whole_is 3 (i ∷ []) p) in absurd z
circuit-alike (i ∷ g ∷ []) p = let z : ⊥ = omega (arith, whole_is 3 (i ∷ g ∷ []) p) in absurd z
circuit-alike (i ∷ g ∷ o ∷ l) p =
    rw (shortened-part i g o l)
    (elim (dec_lt (3 * rest_read) (length (behind l))) [
      | yes q ↦ inr (refused-alike i g o l p (inr q))
      | no q ↦ elim (starts-read (start_run l)) [
        | inl x ↦ inl (ap (λ y. i ∷ g ∷ o ∷ y) (read_all l x.1 (omega arith)))
        | inr x ↦ inr (refused-alike i g o l p (inl x))
      ]
    ])

pub shortened-whole : (t : List ℕ) → is_partial 3 t ≡ false → is_partial 3 (shortened t) ≡ false
shortened-whole [] p = let z : ⊥ = omega (arith, whole_is 3 [] p) in absurd z
shortened-whole (i ∷ []) p = let z : ⊥ = omega (arith, whole_is 3 (i ∷ []) p) in absurd z
shortened-whole (i ∷ g ∷ []) p = let z : ⊥ = omega (arith, whole_is 3 (i ∷ g ∷ []) p) in absurd z
shortened-whole (i ∷ g ∷ o ∷ l) p = ap (is_partial 3) (shortened-part i g o l) ∙ part-whole i g o l p
