-- One number: its columns, the test of its columns, reading them, and reading back what was written. Assumes nothing.
use mathlib.Core.Path.{◌≡◌, refl, sym, ap, ◌∙◌, subst}
use mathlib.Core.Bool.{Bool, true, false, ◌&&◌, ◌||◌, false≢true}
use mathlib.Core.List.{List, [], ◌∷◌, ◌++◌, append_assoc}
use Prim.Native.Nat.{ℕ, zero, suc, ◌+◌, ◌-◌, ◌*◌, ◌/◌, ◌%◌, ◌≤◌, ◌<◌}
use native.Mathlib.Nat.{div-eq_of_lt, mod-eq_of_lt, div-add-mod', add-zero, zero-div}
use native.Mathlib.Numerals.{add-one}
use native.Mathlib.Omega.{arith}
use lib.Dec.{eqb, leb, ltb}
use lib.ListN.{length, take, drop, get_or, set, replicate, length-append, length-drop, replicate-append-replicate}
use lib.Seq.{get_or-drop}
use borrow.Author.Tests.{ne_eqb, le-leb, eqb-true, eqb-false, leb-true, ltb-true, ltb-false}
use Rattle.lists.specs.First.{first}
use Rattle.lists.specs.Same.{same}
use Rattle.lists.proofs.Tests.{same_test, both, left-of, right_of}
use Rattle.lists.proofs.Same.{same_refl, same-is}
use Rattle.lines.specs.Number.{digit, digits, write_number, column_value, read_number, is_number}

-- ---- the columns of a number

-- the byte of a column before the last, by what the number is without the columns behind it
abbrev pub column : ℕ → ℕ
column v = first (eqb v 0) 32 (digit (v % 10))

columns : ℕ → ℕ → List ℕ
columns zero v = []
columns (suc k) v = columns k (v / 10) ++ (column v ∷ [])

column-some : (v : ℕ) → 0 < v → column v ≡ digit (v % 10)
column-some v h = rw (ne_eqb v 0 (omega arith))

columns-blank : (k : ℕ) → columns k 0 ≡ replicate k 32
unfolding columns
columns-blank zero = refl
columns-blank (suc k) = rw (zero-div, columns-blank k, replicate-append-replicate {A = ℕ} k 1 32, add-one)

-- right-justified digits are the columns
JustifiedAs : ℕ → ℕ → List ℕ → Type 0
JustifiedAs k n ds = replicate (suc k - length ds) 32 ++ ds ≡ columns k (n / 10) ++ (digit (n % 10) ∷ [])

one-digit : (k n : ℕ) → n < 10 → JustifiedAs k n (digit n ∷ [])
unfolding JustifiedAs
one-digit k n h =
    let e : suc k - 1 ≡ k = omega arith in
    rw (e, div-eq_of_lt h, mod-eq_of_lt h, columns-blank k)

more-digits : (k n : ℕ) → 10 ≤ n → (ds : List ℕ) → JustifiedAs k (n / 10) ds → JustifiedAs (suc k) n (ds ++ (digit (n % 10) ∷ []))
unfolding JustifiedAs columns
more-digits k n h ds ih =
    let e : suc (suc k) - length (ds ++ (digit (n % 10) ∷ [])) ≡ suc k - length ds = omega (arith, length-append ds (digit (n % 10) ∷ [])) in
    rw (e, column-some (n / 10) (omega arith), ← append_assoc (replicate (suc k - length ds) 32) ds (digit (n % 10) ∷ []), ih)

justified : (k n : ℕ) → JustifiedAs k n (digits (suc k) n)
unfolding digits JustifiedAs columns
justified zero n = go (ltb n 10) refl
  where
    go : (b : Bool) → ltb n 10 ≡ b → JustifiedAs 0 n (first b (digit n ∷ []) (digit (n % 10) ∷ []))
    go true e = one-digit 0 n (ltb-true n 10 e)
    go false e = refl
justified (suc k) n = go (ltb n 10) refl (justified k (n / 10))
  where
    go : (b : Bool) → ltb n 10 ≡ b → JustifiedAs k (n / 10) (digits (suc k) (n / 10))
        → JustifiedAs (suc k) n (first b (digit n ∷ []) (digits (suc k) (n / 10) ++ (digit (n % 10) ∷ [])))
    go true e ih = one-digit (suc k) n (ltb-true n 10 e)
    go false e ih = more-digits k n (ltb-false n 10 e) (digits (suc k) (n / 10)) ih

-- a number's six columns, from the left
pub six-columns : (n : ℕ) → write_number n
    ≡ column (n / 10 / 10 / 10 / 10 / 10) ∷ column (n / 10 / 10 / 10 / 10) ∷ column (n / 10 / 10 / 10) ∷ column (n / 10 / 10) ∷ column (n / 10) ∷ digit (n % 10) ∷ []
unfolding write_number JustifiedAs columns
six-columns n = justified 5 n

-- six bytes stored one by one
pub six-stores : (l : List ℕ) (a b c d e f : ℕ) → length l ≡ 6 → set (set (set (set (set (set l 0 a) 1 b) 2 c) 3 d) 4 e) 5 f ≡ a ∷ b ∷ c ∷ d ∷ e ∷ f ∷ []
six-stores (u ∷ v ∷ w ∷ x ∷ y ∷ z ∷ []) a b c d e f h = refl
six-stores (u ∷ v ∷ w ∷ x ∷ y ∷ z ∷ t ∷ l) a b c d e f h = absurd (omega arith)
six-stores (u ∷ v ∷ w ∷ x ∷ y ∷ []) a b c d e f h = absurd (omega arith)
six-stores (u ∷ v ∷ w ∷ x ∷ []) a b c d e f h = absurd (omega arith)
six-stores (u ∷ v ∷ w ∷ []) a b c d e f h = absurd (omega arith)
six-stores (u ∷ v ∷ []) a b c d e f h = absurd (omega arith)
six-stores (u ∷ []) a b c d e f h = absurd (omega arith)
six-stores [] a b c d e f h = absurd (omega arith)

-- ---- the test of six columns

-- whether a column can stand behind the one before it
abbrev pub follows : ℕ → ℕ → Bool
follows before byte = first (eqb before 32) (eqb byte 32 || (leb 49 byte && leb byte 57)) (leb 48 byte && leb byte 57)

-- what v becomes with one column more
abbrev push : ℕ → ℕ → ℕ
push v byte = v * 10 + column_value byte

record Pushed (v byte : ℕ) : Type 0 where
  is : byte ≡ column (push v byte)
  rest : push v byte / 10 ≡ v
  small : push v byte ≤ v * 10 + 9

a-digit : (low byte : ℕ) → leb low byte && leb byte 57 ≡ true → (low ≤ byte) × (byte ≤ 57)
a-digit low byte e = (leb-true low byte (left-of (leb low byte) (leb byte 57) e), leb-true byte 57 (right_of (leb low byte) (leb byte 57) e))

push-digit : (v byte : ℕ) → 48 ≤ byte → byte ≤ 57 → 0 < push v byte → Pushed v byte
push-digit v byte l h p =
    let r : push v byte % 10 ≡ byte - 48 = omega arith in
    record { is = sym (column-some (push v byte) p ∙ omega arith); rest = omega arith; small = omega arith }

pushed-first : (byte : ℕ) (b : Bool) → eqb byte 32 ≡ b → b || (leb 49 byte && leb byte 57) ≡ true → Pushed 0 byte
pushed-first byte true e f =
    let q : byte ≡ 32 = eqb-true byte 32 e in
    rw q (record { is = refl; rest = refl; small = omega arith })
pushed-first byte false e f =
    let d = a-digit 49 byte f in
    push-digit 0 byte (omega arith) d.1 (omega arith)

digit-not-blank : (v : ℕ) → 0 < v → eqb (column v) 32 ≡ false
digit-not-blank v h = ne_eqb (column v) 32 (λ e. let z : digit (v % 10) ≡ 32 = sym (column-some v h) ∙ e in omega arith)

pushed : (v byte : ℕ) → follows (column v) byte ≡ true → Pushed v byte
pushed v byte = go (eqb v 0) refl
  where
    go : (b : Bool) → eqb v 0 ≡ b → follows (column v) byte ≡ true → Pushed v byte
    go true e f =
        let z : v ≡ 0 = eqb-true v 0 e in
        rw z (pushed-first byte (eqb byte 32) refl (rw z at f))
    go false e f =
        let p : v ≡ 0 → ⊥ = eqb-false v 0 e in
        let d = a-digit 48 byte (rw (digit-not-blank v (omega arith)) at f) in
        push-digit v byte d.0 d.1 (omega arith)

-- the columns of a number follow each other
follow-each : (v : ℕ) → follows (column (v / 10)) (column v) ≡ true
follow-each v = go (eqb v 0) refl (eqb (v / 10) 0) refl
  where
    go : (a : Bool) → eqb v 0 ≡ a → (b : Bool) → eqb (v / 10) 0 ≡ b → follows (column (v / 10)) (column v) ≡ true
    go true e b f =
        let z : v ≡ 0 = eqb-true v 0 e in
        rw z
    go false e true f =
        let p : v ≡ 0 → ⊥ = eqb-false v 0 e in
        let z : v / 10 ≡ 0 = eqb-true (v / 10) 0 f in
        let q : column v ≡ digit (v % 10) = column-some v (omega arith) in
        rw (z, digit-not-blank v (omega arith), q, le-leb 49 (digit (v % 10)) (omega arith), le-leb (digit (v % 10)) 57 (omega arith))
    go false e false f =
        let p : v ≡ 0 → ⊥ = eqb-false v 0 e in
        let r : v / 10 ≡ 0 → ⊥ = eqb-false (v / 10) 0 f in
        let q : column v ≡ digit (v % 10) = column-some v (omega arith) in
        rw (digit-not-blank (v / 10) (omega arith), q, le-leb 48 (digit (v % 10)) (omega arith), le-leb (digit (v % 10)) 57 (omega arith))

last-column : (v byte : ℕ) → 48 ≤ byte → byte ≤ 57 → (byte ≡ digit (push v byte % 10)) × (push v byte / 10 ≡ v) × (push v byte ≤ v * 10 + 9)
last-column v byte l h =
    let r : push v byte % 10 ≡ byte - 48 = omega arith in
    (omega arith, omega arith, omega arith)

pushed-behind : (v before byte : ℕ) → before ≡ column v → follows before byte ≡ true → Pushed v byte
pushed-behind v before byte e f = pushed v byte (subst (λ x. follows x byte ≡ true) e f)

-- six columns by what the number is up to each of them
six-written : (a b c d e f v₀ v₁ v₂ v₃ v₄ n : ℕ) → a ≡ column v₀ → b ≡ column v₁ → c ≡ column v₂ → d ≡ column v₃ → e ≡ column v₄ → f ≡ digit (n % 10)
    → v₁ / 10 ≡ v₀ → v₂ / 10 ≡ v₁ → v₃ / 10 ≡ v₂ → v₄ / 10 ≡ v₃ → n / 10 ≡ v₄ → a ∷ b ∷ c ∷ d ∷ e ∷ f ∷ [] ≡ write_number n
six-written a b c d e f v₀ v₁ v₂ v₃ v₄ n ea eb ec ed ee ef q₁ q₂ q₃ q₄ q₅ = rw (six-columns n, q₅, q₄, q₃, q₂, q₁) (cc)

six-small : (v₀ v₁ v₂ v₃ v₄ n : ℕ) → v₀ ≤ 9 → v₁ ≤ v₀ * 10 + 9 → v₂ ≤ v₁ * 10 + 9 → v₃ ≤ v₂ * 10 + 9 → v₄ ≤ v₃ * 10 + 9 → n ≤ v₄ * 10 + 9 → n ≤ 999999
six-small v₀ v₁ v₂ v₃ v₄ n h₀ h₁ h₂ h₃ h₄ h₅ = omega arith

-- each of seven tests
record Seven (p q r s t u v : Bool) : Type 0 where
  one : p ≡ true
  two : q ≡ true
  three : r ≡ true
  four : s ≡ true
  five : t ≡ true
  six : u ≡ true
  seven : v ≡ true

seven-of : (p q r s t u v : Bool) → p && q && r && s && t && u && v ≡ true → Seven p q r s t u v
seven-of true true true true true true v e =
    record { one = refl; two = refl; three = refl; four = refl; five = refl; six = refl; seven = e }
seven-of true true true true true false v e = absurd (false≢true e)
seven-of true true true true false u v e = absurd (false≢true e)
seven-of true true true false t u v e = absurd (false≢true e)
seven-of true true false s t u v e = absurd (false≢true e)
seven-of true false r s t u v e = absurd (false≢true e)
seven-of false q r s t u v e = absurd (false≢true e)

tenth : (n m : ℕ) → n ≤ m * 10 + 9 → n / 10 ≤ m
tenth n m h = omega arith

-- the first column of a number up to 999,999 has no column before it
none_before : (n : ℕ) → n ≤ 999999 → n / 10 / 10 / 10 / 10 / 10 / 10 ≡ 0
none_before n h =
    let z = tenth _ 0 (tenth _ 9 (tenth _ 99 (tenth _ 999 (tenth _ 9999 (tenth n 99999 h))))) in
    omega arith

columns-pass : (n : ℕ) → n ≤ 999999
    → follows 32 (column (n / 10 / 10 / 10 / 10 / 10)) && follows (column (n / 10 / 10 / 10 / 10 / 10)) (column (n / 10 / 10 / 10 / 10))
    && follows (column (n / 10 / 10 / 10 / 10)) (column (n / 10 / 10 / 10)) && follows (column (n / 10 / 10 / 10)) (column (n / 10 / 10))
    && follows (column (n / 10 / 10)) (column (n / 10)) && leb 48 (digit (n % 10)) && leb (digit (n % 10)) 57 ≡ true
columns-pass n h =
    let v = n / 10 / 10 / 10 / 10 / 10 in
    let start : follows 32 (column v) ≡ true = subst (λ x. follows (column x) (column v) ≡ true) (none_before n h) (follow-each v) in
    both (both (both (both (both (both start (follow-each (n / 10 / 10 / 10 / 10))) (follow-each (n / 10 / 10 / 10))) (follow-each (n / 10 / 10))) (follow-each (n / 10)))
    (le-leb 48 (digit (n % 10)) (omega arith))) (le-leb (digit (n % 10)) 57 (omega arith))

-- six bytes: the test, and the number that they show
module _ (a b c d e f : ℕ) where
  abbrev pub passes : Bool
  passes = follows 32 a && follows a b && follows b c && follows c d && follows d e && leb 48 f && leb f 57

  abbrev pub shows : ℕ
  shows = ((((column_value a * 10 + column_value b) * 10 + column_value c) * 10 + column_value d) * 10 + column_value e) * 10 + column_value f

  passes-writing : passes ≡ true → (shows ≤ 999999) × (a ∷ b ∷ c ∷ d ∷ e ∷ f ∷ [] ≡ write_number shows)
  passes-writing t =
      let k = seven-of (follows 32 a) (follows a b) (follows b c) (follows c d) (follows d e) (leb 48 f) (leb f 57) t in
      let low : 48 ≤ f = leb-true 48 f k.six in
      let high : f ≤ 57 = leb-true f 57 k.seven in
      let p₀ : Pushed 0 a = pushed-behind 0 32 a refl k.one in
      let z : push 0 a ≡ column_value a = omega arith in
      let v₀ = column_value a in
      let e₀ : a ≡ column v₀ = p₀.is ∙ ap column z in
      let p₁ : Pushed v₀ b = pushed-behind v₀ a b e₀ k.two in
      let v₁ = push v₀ b in
      let p₂ : Pushed v₁ c = pushed-behind v₁ b c p₁.is k.three in
      let v₂ = push v₁ c in
      let p₃ : Pushed v₂ d = pushed-behind v₂ c d p₂.is k.four in
      let v₃ = push v₂ d in
      let p₄ : Pushed v₃ e = pushed-behind v₃ d e p₃.is k.five in
      let v₄ = push v₃ e in
      let last = last-column v₄ f low high in (
        six-small v₀ v₁ v₂ v₃ v₄ (push v₄ f) (omega (arith, p₀.small)) p₁.small p₂.small p₃.small p₄.small last.2,
        six-written a b c d e f v₀ v₁ v₂ v₃ v₄ (push v₄ f) e₀ p₁.is p₂.is p₃.is p₄.is last.0 p₁.rest p₂.rest p₃.rest p₄.rest last.1,
      )

  writing-passes : (n : ℕ) → n ≤ 999999 → a ∷ b ∷ c ∷ d ∷ e ∷ f ∷ [] ≡ write_number n → passes ≡ true
  writing-passes n h w =
      let x : a ∷ b ∷ c ∷ d ∷ e ∷ f ∷ [] ≡ _ = w ∙ six-columns n in
      rw (
        ap (λ (l : List ℕ). get_or l 0 0) x,
        ap (λ (l : List ℕ). get_or l 1 0) x,
        ap (λ (l : List ℕ). get_or l 2 0) x,
        ap (λ (l : List ℕ). get_or l 3 0) x,
        ap (λ (l : List ℕ). get_or l 4 0) x,
        ap (λ (l : List ℕ). get_or l 5 0) x,
      )
      (columns-pass n h)

-- the test of six bytes says that they are the writing of the number that they show
six-test : (a b c d e f : ℕ) → passes a b c d e f ≡ leb (shows a b c d e f) 999999 && same (a ∷ b ∷ c ∷ d ∷ e ∷ f ∷ []) (write_number (shows a b c d e f))
six-test a b c d e f =
    let n = shows a b c d e f in
    let six = a ∷ b ∷ c ∷ d ∷ e ∷ f ∷ [] in
    same_test (passes a b c d e f) (leb n 999999 && same six (write_number n))
    (λ t. let k = passes-writing a b c d e f t in both (le-leb n 999999 k.0) (subst (λ l. same six l ≡ true) k.1 (same_refl six)))
    (λ t. writing-passes a b c d e f n (leb-true n 999999 (left-of (leb n 999999) (same six (write_number n)) t))
    (same-is six (write_number n) (right_of (leb n 999999) (same six (write_number n)) t)))

first-six : (t : List ℕ) → 6 ≤ length t → take 6 t ≡ get_or t 0 0 ∷ get_or t 1 0 ∷ get_or t 2 0 ∷ get_or t 3 0 ∷ get_or t 4 0 ∷ get_or t 5 0 ∷ []
first-six (a ∷ b ∷ c ∷ d ∷ e ∷ f ∷ t) h = refl
first-six (a ∷ b ∷ c ∷ d ∷ e ∷ []) h = absurd (omega arith)
first-six (a ∷ b ∷ c ∷ d ∷ []) h = absurd (omega arith)
first-six (a ∷ b ∷ c ∷ []) h = absurd (omega arith)
first-six (a ∷ b ∷ []) h = absurd (omega arith)
first-six (a ∷ []) h = absurd (omega arith)
first-six [] h = absurd (omega arith)

pub number-test : (t : List ℕ) → 6 ≤ length t → passes (get_or t 0 0) (get_or t 1 0) (get_or t 2 0) (get_or t 3 0) (get_or t 4 0) (get_or t 5 0) ≡ is_number t
unfolding read_number
number-test t h = rw (first-six t h) (six-test (get_or t 0 0) (get_or t 1 0) (get_or t 2 0) (get_or t 3 0) (get_or t 4 0) (get_or t 5 0))

-- the same of the bytes from a place on
pub number-test-at : (t : List ℕ) (at : ℕ) → at + 6 ≤ length t
    → passes (get_or t at 0) (get_or t (at + 1) 0) (get_or t (at + 2) 0) (get_or t (at + 3) 0) (get_or t (at + 4) 0) (get_or t (at + 5) 0) ≡ is_number (drop at t)
number-test-at t at h = simp (get_or-drop, add-zero) at (number-test (drop at t) (rw length-drop (omega arith)))

-- ---- reading six columns that are a number

-- the low half of a column's byte is what it adds
column-low : (v : ℕ) → column v % 16 ≡ column_value (column v)
column-low v = go (eqb v 0)
  where
    go : (b : Bool) → first b 32 (digit (v % 10)) % 16 ≡ column_value (first b 32 (digit (v % 10)))
    go true = refl
    go false = omega arith

six_low : (a b c d e f n : ℕ) → a ∷ b ∷ c ∷ d ∷ e ∷ f ∷ [] ≡ write_number n
    → ((((a % 16 * 10 + b % 16) * 10 + c % 16) * 10 + d % 16) * 10 + e % 16) * 10 + f % 16 ≡ shows a b c d e f
six_low a b c d e f n w =
    let x = w ∙ six-columns n in
    let low : (byte v : ℕ) → byte ≡ column v → byte % 16 ≡ column_value byte = λ byte v q. rw q (column-low v) in
    let last : f ≡ digit (n % 10) = ap (λ (l : List ℕ). get_or l 5 0) x in
    let low-f : f % 16 ≡ column_value f = omega arith in
    rw (
      low a (n / 10 / 10 / 10 / 10 / 10) (ap (λ (l : List ℕ). get_or l 0 0) x),
      low b (n / 10 / 10 / 10 / 10) (ap (λ (l : List ℕ). get_or l 1 0) x),
      low c (n / 10 / 10 / 10) (ap (λ (l : List ℕ). get_or l 2 0) x),
      low d (n / 10 / 10) (ap (λ (l : List ℕ). get_or l 3 0) x),
      low e (n / 10) (ap (λ (l : List ℕ). get_or l 4 0) x),
      low-f,
    )

pub number-low : (t : List ℕ) → 6 ≤ length t → is_number t ≡ true
    → ((((get_or t 0 0 % 16 * 10 + get_or t 1 0 % 16) * 10 + get_or t 2 0 % 16) * 10 + get_or t 3 0 % 16) * 10 + get_or t 4 0 % 16) * 10 + get_or t 5 0 % 16 ≡ read_number t
unfolding read_number
number-low t h e =
    six_low (get_or t 0 0) (get_or t 1 0) (get_or t 2 0) (get_or t 3 0) (get_or t 4 0) (get_or t 5 0) (read_number t)
    (sym (first-six t h) ∙ same-is (take 6 t) (write_number (read_number t)) (right_of (leb (read_number t) 999999) _ e))

-- the same of the bytes from a place on
pub number-low-at : (t : List ℕ) (at : ℕ) → at + 6 ≤ length t → is_number (drop at t) ≡ true
    → ((((get_or t at 0 % 16 * 10 + get_or t (at + 1) 0 % 16) * 10 + get_or t (at + 2) 0 % 16) * 10 + get_or t (at + 3) 0 % 16) * 10
    + get_or t (at + 4) 0 % 16) * 10 + get_or t (at + 5) 0 % 16 ≡ read_number (drop at t)
number-low-at t at h e = simp (get_or-drop, add-zero) at (number-low (drop at t) (rw length-drop (omega arith)) e)

-- ---- reading back

-- what a column of v adds
column-adds : (v : ℕ) → column_value (column v) ≡ v % 10
column-adds v = go (eqb v 0) refl
  where
    go : (b : Bool) → eqb v 0 ≡ b → column_value (first b 32 (digit (v % 10))) ≡ v % 10
    go true e =
        let z : v ≡ 0 = eqb-true v 0 e in
        rw z
    go false e = omega arith

-- a number up to 999,999 is read back from its columns, whatever stands behind them
pub read_back : (n : ℕ) (r : List ℕ) → n ≤ 999999 → read_number (write_number n ++ r) ≡ n
unfolding read_number
read_back n r h =
    let e = n / 10 in
    let d = e / 10 in
    let c = d / 10 in
    let b = c / 10 in
    let a = b / 10 in
    let one_left : a % 10 ≡ a = omega (arith, none_before n h) in
    let last : column_value (digit (n % 10)) ≡ n % 10 = omega arith in
    rw (six-columns n, column-adds a, column-adds b, column-adds c, column-adds d, column-adds e, last, one_left)
    (rw (div-add-mod' b 10, div-add-mod' c 10, div-add-mod' d 10, div-add-mod' e 10, div-add-mod' n 10))
