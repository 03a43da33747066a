-- The program in the lent buffer, instruction by instruction. Assumes nothing.
use mathlib.Core.Path.{◌≡◌, refl, sym, ap, ap₂, ◌∙◌}
use mathlib.Core.List.{List, [], ◌∷◌, ◌++◌, append_assoc}
use Prim.Native.Nat.{ℕ, zero, suc, ◌+◌, ◌*◌, ◌-◌, ◌≤◌}
use native.Mathlib.Omega.{arith}
use lib.ListN.{length, take, drop, get_or, take-append-drop, length-append, length-drop}
use lib.Seq.{sets, length-take-le, length-sets, drop-drop, drop_at}
use borrow.Rule.Slice.PartMut.{put_mid}
use Rattle.lists.proofs.Stores.{sets_behind}
use Rattle.lines.specs.Calls.{over}
use Rattle.translator.specs.Machine.{Instruction}
use Rattle.translator.specs.Instructions.{numbers_of}
use Rattle.translator.specs.Program.{encode_program, instructions_of}
use Rattle.translator.specs.Registers.{Beyond}
use Rattle.translator.proofs.ShapeLaws.{encode-length, encode-append, instructions-encode}

pub instructions-length : (n : ℕ) (p : List ℕ) → length (instructions_of n p) ≡ n
unfolding instructions_of
instructions-length zero p = refl
instructions-length (suc n) p = ap suc (instructions-length n (drop 4 p))

four : (p : List ℕ) → 4 ≤ length p → get_or p 0 0 ∷ get_or p 1 0 ∷ get_or p 2 0 ∷ get_or p 3 0 ∷ drop 4 p ≡ p
four [] h = absurd (omega arith)
four (a ∷ []) h = absurd (omega arith)
four (a ∷ b ∷ []) h = absurd (omega arith)
four (a ∷ b ∷ d ∷ []) h = absurd (omega arith)
four (a ∷ b ∷ d ∷ e ∷ p) h = refl

-- the numbers of the first n instructions
encode-instructions : (n : ℕ) (p : List ℕ) → 4 * n ≤ length p → encode_program (instructions_of n p) ++ drop (4 * n) p ≡ p
unfolding encode_program instructions_of
encode-instructions zero p h = refl
encode-instructions (suc n) p h =
    let e : 4 * suc n ≡ 4 + 4 * n = omega arith in
    let is = encode_program (instructions_of n (drop 4 p)) in
    ap (λ l. get_or p 0 0 ∷ get_or p 1 0 ∷ get_or p 2 0 ∷ get_or p 3 0 ∷ l)
    (ap (λ k. is ++ drop k p) e ∙ ap (λ l. is ++ l) (sym (drop-drop (4 * n) 4 p)) ∙ encode-instructions n (drop 4 p) (rw length-drop (omega arith)))
    ∙ four p (omega arith)

-- ---- one instruction more

module _ (p : List ℕ) (n : ℕ) (i : Instruction) (h : 4 * n + 4 ≤ length p) where
  encoded-length : length (encode_program (instructions_of n p)) ≡ 4 * n
  encoded-length = encode-length (instructions_of n p) ∙ ap (λ m. 4 * m) (instructions-length n p)

  written : sets p (4 * n) (numbers_of i) ≡ encode_program (instructions_of n p ++ (i ∷ [])) ++ drop 4 (drop (4 * n) p)
  unfolding encode_program
  written =
      ap (λ l. sets l (4 * n) (numbers_of i)) (sym (encode-instructions n p (omega arith)))
      ∙ sets_behind (encode_program (instructions_of n p)) (numbers_of i) (drop (4 * n) p) (4 * n) encoded-length (rw length-drop (omega arith))
      ∙ ap (λ l. l ++ drop 4 (drop (4 * n) p)) (sym (encode-append (instructions_of n p) (i ∷ [])))

  all-length : length (instructions_of n p ++ (i ∷ [])) ≡ n + 1
  all-length = length-append (instructions_of n p) (i ∷ []) ∙ ap (λ m. m + 1) (instructions-length n p)

  pub write-instruction : instructions_of (n + 1) (sets p (4 * n) (numbers_of i)) ≡ instructions_of n p ++ (i ∷ [])
  write-instruction =
      let is = instructions_of n p ++ (i ∷ []) in
      ap₂ instructions_of (sym all-length) written ∙ instructions-encode is (drop 4 (drop (4 * n) p))

  write-beyond : drop (4 * (n + 1)) (sets p (4 * n) (numbers_of i)) ≡ drop (4 * (n + 1)) p
  write-beyond =
      let is = instructions_of n p ++ (i ∷ []) in
      let e : 4 * n + 4 ≡ 4 * (n + 1) = omega arith in
      ap (drop (4 * (n + 1))) written
      ∙ drop_at (encode_program is) (drop 4 (drop (4 * n) p)) (4 * (n + 1)) (encode-length is ∙ ap (λ m. 4 * m) all-length)
      ∙ drop-drop 4 (4 * n) p ∙ ap (λ k. drop k p) e

pub beyond-more : (p₀ p : List ℕ) (n : ℕ) (i : Instruction) → 4 * n + 4 ≤ length p → Beyond p₀ p n → Beyond p₀ (sets p (4 * n) (numbers_of i)) (n + 1)
beyond-more p₀ p n i h b =
    let e : 4 * n + 4 ≡ 4 * (n + 1) = omega arith in
    record {
      beyond =
          write-beyond p n i h ∙ ap (λ k. drop k p) (sym e) ∙ sym (drop-drop 4 (4 * n) p) ∙ ap (drop 4) b.beyond ∙ drop-drop 4 (4 * n) p₀
          ∙ ap (λ k. drop k p₀) e;
      long = length-sets p (4 * n) (numbers_of i) ∙ b.long;
    }

pub beyond-then : (p₀ p p' : List ℕ) (n n' : ℕ) → n ≤ n' → Beyond p₀ p n → Beyond p p' n' → Beyond p₀ p' n'
beyond-then p₀ p p' n n' h a b =
    let e : 4 * n + (4 * n' - 4 * n) ≡ 4 * n' = omega arith in
    let m = 4 * n' - 4 * n in
    record {
      beyond =
          b.beyond ∙ ap (λ k. drop k p) (sym e) ∙ sym (drop-drop m (4 * n) p) ∙ ap (drop m) a.beyond ∙ drop-drop m (4 * n) p₀ ∙ ap (λ k. drop k p₀) e;
      long = b.long ∙ a.long;
    }

-- the whole buffer, when the program is written
pub beyond-all : (p₀ p : List ℕ) (n : ℕ) (is : List Instruction) → 4 * n ≤ length p → Beyond p₀ p n → instructions_of n p ≡ is → p ≡ over (encode_program is) p₀
beyond-all p₀ p n is h b e =
    let l : 4 * n ≡ length (encode_program is) = sym (encode-length is ∙ ap (λ m. 4 * m) (sym (ap length e) ∙ instructions-length n p)) in
    sym (encode-instructions n p h) ∙ ap₂ (λ js r. encode_program js ++ r) e (b.beyond ∙ ap (λ k. drop k p₀) l)

-- a copy of its numbers is an instruction
module _ (p : List ℕ) (n : ℕ) (i : Instruction) (h : 4 * (n + 1) ≤ length p) (k : ℕ) (e : k ≡ 4) (ns : List ℕ) (q : ns ≡ numbers_of i) where
  behind : sets (take (4 * n) p ++ drop (4 * n) p) (4 * n) (numbers_of i) ≡ take (4 * n) p ++ (numbers_of i ++ drop 4 (drop (4 * n) p))
  behind =
      sets_behind (take (4 * n) p) (numbers_of i) (drop (4 * n) p) (4 * n) (length-take-le (4 * n) p (omega arith)) (rw length-drop (omega arith))
      ∙ append_assoc (take (4 * n) p) (numbers_of i) (drop 4 (drop (4 * n) p))

  copied : put_mid (4 * n) k p ns ≡ sets p (4 * n) (numbers_of i)
  copied =
      rw (e, q) (sym (ap (λ l. sets l (4 * n) (numbers_of i)) (sym (take-append-drop (4 * n) p)) ∙ behind))

  pub push-code : instructions_of (n + 1) (put_mid (4 * n) k p ns) ≡ instructions_of n p ++ (i ∷ [])
  push-code = ap (instructions_of (n + 1)) copied ∙ write-instruction p n i (omega arith)

  pub push-beyond : Beyond p (put_mid (4 * n) k p ns) (n + 1)
  push-beyond = rw copied (beyond-more p p n i (omega arith) (record { beyond = refl; long = refl }))
