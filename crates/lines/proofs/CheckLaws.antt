-- What a call's checks say of its answer, and the answer of its checks. Assumes nothing.
use mathlib.Core.Path.{◌≡◌, refl, sym, ap, ap₂, ◌∙◌}
use mathlib.Core.Bool.{Bool, true, false}
use mathlib.Core.List.{List, [], ◌∷◌, ◌++◌}
use Prim.Native.Nat.{ℕ, suc}
use native.Mathlib.Omega.{arith}
use lib.Dec.{eqb}
use borrow.Author.Tests.{eq-eqb, ne_eqb, eqb-true, eqb-false}
use Rattle.std.specs.Prelude.{Option, Result as Returned, Ok, Err, IsErr, IsErrAnd, MatchResult}
use Rattle.std.proofs.lemmas.Result.{err_from_is_err_and}
use Rattle.lists.specs.First.{first}
use Rattle.lines.specs.declared.refusing.Reason.{Reason}
use Rattle.lines.specs.declared.refusing.Reason.TheVariants.{WrongLength, BufferTooShort, LineIllWritten, HeadOutOfLimits, LinesNotAsHeadSays, UnknownKind}
use Rattle.lines.specs.declared.refusing.Reason.TheVariants.{ReferenceOutOfRange, UnusedReference, RegisterLimitOutOfRange, TooFewRegisters, WrongStart, WayLimitOutOfRange}
use Rattle.lines.specs.declared.refusing.Refusal.{Refusal as GivenRefusal}
use Rattle.lines.specs.declared.refusing.Table.{Table}
use Rattle.lines.specs.Refusal.{Refusal, Result, refused, gives, leaving, reason_number, table_number, refusal_of, found_by, number_found_by, answer_of}
use Rattle.lines.specs.Checks.{found, check, first_found, answering, afterwards}

-- ---- one test

module _ (b : Bool) (n t : ℕ) where
  pub check-applies : b ≡ true → check b n t ≡ found n t
  unfolding check
  check-applies e = rw e

  pub check-passes : b ≡ false → (check b n t).number ≡ 0
  unfolding check
  check-passes e = rw e

pub check-passed : (b : Bool) (n t : ℕ) → (check b (suc n) t).number ≡ 0 → b ≡ false
unfolding check
check-passed true n t e = absurd (omega arith)
check-passed false n t e = refl

-- ---- tests in order, as the code goes through them: r is what it finds

module _ (k : Refusal) (ks : List Refusal) (r : Refusal) where
  here : r ≡ k → (r.number ≡ 0 → ⊥) → r ≡ first_found (k ∷ ks)
  unfolding first_found
  here e some = rw (← e, ne_eqb r.number 0 some)

  later : k.number ≡ 0 → r ≡ first_found ks → r ≡ first_found (k ∷ ks)
  unfolding first_found
  later z e = rw (eq-eqb k.number 0 z) e

module _ (b : Bool) (n t : ℕ) (ks : List Refusal) (r : Refusal) where
  pub applies-here : b ≡ true → r ≡ found (suc n) t → r ≡ first_found (check b (suc n) t ∷ ks)
  applies-here e q =
      here (check b (suc n) t) ks r (q ∙ sym (check-applies b (suc n) t e))
      (λ z. let y : suc n ≡ 0 = ap (λ (x : Refusal). x.number) (sym q) ∙ z in absurd (omega arith))

  pub applies-later : b ≡ false → r ≡ first_found ks → r ≡ first_found (check b n t ∷ ks)
  applies-later e = later (check b n t) ks r (check-passes b n t e)

-- where a table's own refusal has the number n, which the code has been told as m
module _ (n t : ℕ) (ks : List Refusal) (r : Refusal) (m : ℕ) (told : m ≡ n) where
  pub found_here : (m ≡ 0 → ⊥) → r ≡ found m t → r ≡ first_found (found n t ∷ ks)
  found_here some q = here (found n t) ks r (q ∙ ap (λ k. found k t) told) (λ z. some (ap (λ (x : Refusal). x.number) (sym q) ∙ z))

  pub found-later : m ≡ 0 → r ≡ first_found ks → r ≡ first_found (found n t ∷ ks)
  found-later z = later (found n t) ks r (sym told ∙ z)

pub found_none : found 0 0 ≡ first_found []
unfolding first_found
found_none = refl

-- ---- what was found says of the checks and of the answer

-- no check applies; what each of them says, in order
abbrev pub Passed : List Refusal → Type 0
Passed [] = Unit {0}
Passed (k ∷ ks) = (k.number ≡ 0) × Passed ks

pub passed : (ks : List Refusal) → (first_found ks).number ≡ 0 → Passed ks
unfolding first_found
passed [] e = tt
passed (k ∷ ks) e = go (eqb k.number 0) refl e (passed ks)
  where
    go : (b : Bool) → eqb k.number 0 ≡ b → (first b (first_found ks) k).number ≡ 0 → ((first_found ks).number ≡ 0 → Passed ks) → Passed (k ∷ ks)
    go true q e p = (eqb-true k.number 0 q, p e)
    go false q e p = absurd (eqb-false k.number 0 q e)

pub none_found : (ks : List Refusal) → Passed ks → (first_found ks).number ≡ 0
unfolding first_found
none_found [] p = refl
none_found (k ∷ ks) p = rw (eq-eqb k.number 0 p.0) (none_found ks p.1)

-- what holds of each refusal that is found
abbrev pub EachFound : (Result → Type 0) → List Refusal → Type 0
EachFound P [] = Unit {0}
EachFound P (k ∷ ks) = ((k.number ≡ 0 → ⊥) → P (refused k.number k.table)) × EachFound P ks

each-found : (P : Result → Type 0) (ks : List Refusal) → EachFound P ks → ((first_found ks).number ≡ 0 → ⊥)
    → P (refused (first_found ks).number (first_found ks).table)
unfolding first_found
each-found P [] each some = absurd (some refl)
each-found P (k ∷ ks) each some = go (eqb k.number 0) refl some (each-found P ks each.1)
  where
    go : (b : Bool) → eqb k.number 0 ≡ b → ((first b (first_found ks) k).number ≡ 0 → ⊥)
        → (((first_found ks).number ≡ 0 → ⊥) → P (refused (first_found ks).number (first_found ks).table))
        → P (refused (first b (first_found ks) k).number (first b (first_found ks) k).table)
    go true q some p = p some
    go false q some p = each.0 some

-- the answer, by whether nothing was found
abbrev answer_by : (none : Bool) → Refusal → (values : List ℕ) → Result
answer_by none r values = first none (gives values) (refused r.number r.table)

module _ (ks : List Refusal) (values : List ℕ) where
  pub answer-refused : (r : Refusal) → r ≡ first_found ks → (r.number ≡ 0 → ⊥) → answering ks values ≡ refused r.number r.table
  unfolding answering
  answer-refused r e some = rw (← e, ne_eqb r.number 0 some)

  pub answer-gives : Passed ks → answering ks values ≡ gives values
  unfolding answering
  answer-gives p = rw (eq-eqb (first_found ks).number 0 (none_found ks p))

  -- an answer, taken apart
  pub answer-given : (vs : List ℕ) → answering ks values ≡ gives vs → Passed ks × (vs ≡ values)
  unfolding answering
  answer-given vs e = go (eqb (first_found ks).number 0) refl e
    where
      go : (b : Bool) → eqb (first_found ks).number 0 ≡ b → answer_by b (first_found ks) values ≡ gives vs
          → Passed ks × (vs ≡ values)
      go true q e = (passed ks (eqb-true (first_found ks).number 0 q), cc)
      go false q e = let z : ◌≡◌ {A = ℕ} 0 1 = cc in absurd (omega arith)

  pub answer-turned : (number table : ℕ) → answering ks values ≡ refused number table → (found number table ≡ first_found ks) × (number ≡ 0 → ⊥)
  unfolding answering
  answer-turned number table e = go (eqb (first_found ks).number 0) refl e
    where
      go : (b : Bool) → eqb (first_found ks).number 0 ≡ b → answer_by b (first_found ks) values ≡ refused number table
          → (found number table ≡ first_found ks) × (number ≡ 0 → ⊥)
      go true q e = let z : ◌≡◌ {A = ℕ} 0 1 = cc in absurd (omega arith)
      go false q e =
          let n : (first_found ks).number ≡ number = cc in
          let t : (first_found ks).table ≡ table = cc in
          (rw (← n, ← t), λ z. eqb-false (first_found ks).number 0 q (n ∙ z))

  -- what holds of each refusal that is found, and of the numbers where none is, holds of the answer
  pub answer-either : (P : Result → Type 0) → EachFound P ks → (Passed ks → P (gives values)) → P (answering ks values)
  unfolding answering
  answer-either P each given = go (eqb (first_found ks).number 0) refl
    where
      go : (b : Bool) → eqb (first_found ks).number 0 ≡ b → P (answer_by b (first_found ks) values)
      go true q = given (passed ks (eqb-true (first_found ks).number 0 q))
      go false q = each-found P ks each (eqb-false (first_found ks).number 0 q)

-- ---- the answer with the lent buffers

module _ {B : Type 0} (ks : List Refusal) (values : List ℕ) (old new : B) where
  pub outcome-refused : (r : Refusal) → r ≡ first_found ks → (r.number ≡ 0 → ⊥)
      → leaving (refused r.number r.table) old ≡ afterwards (answering ks values) old new
  outcome-refused r e some = rw (answer-refused ks values r e some)

  pub outcome-gives : Passed ks → (answer : Result) (after : B) → answer ≡ gives values → after ≡ new
      → leaving answer after ≡ afterwards (answering ks values) old new
  outcome-gives p answer after a b = rw (a, b, answer-gives ks values p)

-- numbers and buffers that are the same wherever no check applies
module _ {B : Type 0} (ks : List Refusal) (values values' : List ℕ) (old new new' : B) (same : Passed ks → (values ≡ values') × (new ≡ new')) where
  pub outcome-same : afterwards (answering ks values) old new ≡ afterwards (answering ks values') old new'
  unfolding answering
  outcome-same = go (eqb (first_found ks).number 0) refl
    where
      go : (b : Bool) → eqb (first_found ks).number 0 ≡ b → afterwards (answer_by b (first_found ks) values) old new ≡ afterwards (answer_by b (first_found ks) values') old new'
      go true q = let (v, w) = same (passed ks (eqb-true (first_found ks).number 0 q)) in ap₂ (λ vs (x : B). leaving (gives vs) x) v w
      go false q = refl

pub answer-same : (ks : List Refusal) (values values' : List ℕ) → (Passed ks → values ≡ values') → answering ks values ≡ answering ks values'
answer-same ks values values' same = ap (λ o. o.answer) (outcome-same ks values values' (found 0 0) (found 0 0) (found 0 0) (λ p. (same p, refl)))

-- ---- one list of checks behind another

module _ (ls : List Refusal) where
  pub found_front : (ks : List Refusal) (r : Refusal) → r ≡ first_found ks → (r.number ≡ 0 → ⊥) → r ≡ first_found (ks ++ ls)
  unfolding first_found
  found_front [] r e some = absurd (some (ap (λ (x : Refusal). x.number) e))
  found_front (k ∷ ks) r e some = go (eqb k.number 0) e (λ q. found_front ks r q some)
    where
      go : (b : Bool) → r ≡ first b (first_found ks) k → (r ≡ first_found ks → r ≡ first_found (ks ++ ls)) → r ≡ first b (first_found (ks ++ ls)) k
      go true e f = f e
      go false e f = e

  pub found-behind : (ks : List Refusal) → Passed ks → first_found (ks ++ ls) ≡ first_found ls
  unfolding first_found
  found-behind [] p = refl
  found-behind (k ∷ ks) p = rw (eq-eqb k.number 0 p.0) (found-behind ks p.1)

  pub answer-behind : (ks : List Refusal) (values : List ℕ) → Passed ks → answering (ks ++ ls) values ≡ answering ls values
  unfolding answering
  answer-behind ks values p = rw (found-behind ks p)

-- ---- checks with `?` behind them: what the code has found so far, or has been refused for

-- a refusal has a number
pub reason-some : (reason : Reason) → reason_number reason ≡ 0 → ⊥
reason-some WrongLength z = omega (arith, z)
reason-some BufferTooShort z = omega (arith, z)
reason-some LineIllWritten z = omega (arith, z)
reason-some HeadOutOfLimits z = omega (arith, z)
reason-some LinesNotAsHeadSays z = omega (arith, z)
reason-some UnknownKind z = omega (arith, z)
reason-some ReferenceOutOfRange z = omega (arith, z)
reason-some UnusedReference z = omega (arith, z)
reason-some RegisterLimitOutOfRange z = omega (arith, z)
reason-some TooFewRegisters z = omega (arith, z)
reason-some WrongStart z = omega (arith, z)
reason-some WayLimitOutOfRange z = omega (arith, z)

-- The checks ks have found e. Then all checks do, where ks are the first of them.
pub refused_at : (e : GivenRefusal) (ks : List Refusal) → refusal_of e ≡ first_found ks → (ls : List Refusal) → refusal_of e ≡ first_found (ks ++ ls)
refused_at e ks told ls = found_front ls ks (refusal_of e) told (reason-some e.reason)

-- what `?` hands back as r
pub handed_back : {A E : Type 0} (r : Returned A E) (e : E) → IsErr r × IsErrAnd r (λ d. d ≡ e) → r ≡ Err e
handed_back r e back = let p = err_from_is_err_and r back.1 in p.1 ∙ ap Err p.2

pub back-refused : {A : Type 0} (show : A → List ℕ) (r : Returned A GivenRefusal) (e : GivenRefusal) → IsErr r × IsErrAnd r (λ d. d ≡ e)
    → answer_of show r ≡ refused (reason_number e.reason) (table_number e.table)
back-refused show r e back = ap (answer_of show) (handed_back r e back)

module _ {A : Type 0} (r : Returned A GivenRefusal) (e : GivenRefusal) (back : IsErr r × IsErrAnd r (λ d. d ≡ e)) (ks : List Refusal) (told : refusal_of e ≡ first_found ks) where
  pub back-found : found_by r ≡ first_found ks
  back-found = ap found_by (handed_back r e back) ∙ told

  module _ (show : A → List ℕ) (values : List ℕ) where
    pub back-answer : answer_of show r ≡ answering ks values
    back-answer = ap (answer_of show) (handed_back r e back) ∙ sym (answer-refused ks values (refusal_of e) told (reason-some e.reason))

    pub back-leaving : {B : Type 0} (old new : B) → leaving (answer_of show r) old ≡ afterwards (answering ks values) old new
    back-leaving old new = ap (λ x. leaving (answer_of show x) old) (handed_back r e back) ∙ outcome-refused ks values old new (refusal_of e) told (reason-some e.reason)

-- The checks ks have found nothing. Then all checks find what those behind ks do.
module _ (ks : List Refusal) (told : found 0 0 ≡ first_found ks) where
  pub all-passed : Passed ks
  all-passed = passed ks (ap (λ r. r.number) (sym told))

  pub after : (ls : List Refusal) (r : Refusal) → r ≡ first_found ls → r ≡ first_found (ks ++ ls)
  after ls r e = e ∙ sym (found-behind ls ks all-passed)

pub test-passed : (b : Bool) (n t : ℕ) → found 0 0 ≡ first_found (check b (suc n) t ∷ []) → b ≡ false
test-passed b n t told = check-passed b n t (all-passed _ told).0

pub test-refused : (b : Bool) (n t : ℕ) (e : GivenRefusal) → refusal_of e ≡ first_found (check b (suc n) t ∷ []) → (b ≡ true) × (refusal_of e ≡ found (suc n) t)
test-refused true n t e told = (refl, told ∙ sym (applies-here true n t [] _ refl refl))
test-refused false n t e told =
    absurd (reason-some e.reason (ap (λ r. r.number) told ∙ none_found (check false (suc n) t ∷ []) (check-passes false (suc n) t refl, tt)))

-- The checks of one table as a chain of numbers, where the test b of the first has been passed, or not.
module _ (b : Bool) (n x t : ℕ) where
  chain-step : first_found (found (first b (suc n) x) t ∷ []) ≡ first_found (check b (suc n) t ∷ found x t ∷ [])
  unfolding first_found check
  chain-step = go b
    where
      go : (b : Bool) → first_found (found (first b (suc n) x) t ∷ []) ≡ first_found (check b (suc n) t ∷ found x t ∷ [])
      go true = rw (ne_eqb (suc n) 0 (λ z. omega arith))
      go false = refl

  pub chain-refused : (e : GivenRefusal) → refusal_of e ≡ first_found (check b (suc n) t ∷ []) → refusal_of e ≡ first_found (found (first b (suc n) x) t ∷ [])
  chain-refused e told = refused_at e (check b (suc n) t ∷ []) told (found x t ∷ []) ∙ sym chain-step

  pub chain-passed : found 0 0 ≡ first_found (check b (suc n) t ∷ []) → (r : Refusal) → r ≡ first_found (found x t ∷ []) → r ≡ first_found (found (first b (suc n) x) t ∷ [])
  chain-passed told r e = after (check b (suc n) t ∷ []) told (found x t ∷ []) r e ∙ sym chain-step

pub chain-end : (b : Bool) (n t : ℕ) (r : Refusal) → r ≡ first_found (check b n t ∷ []) → r ≡ first_found (found (first b n 0) t ∷ [])
unfolding check
chain-end b n t r e = e

-- What has been found in one table, by its number, is a refusal of that table, which `map_err` makes of the reason.
pub found-in-table : {A : Type 0} (w : Returned A Reason) (r : Returned A GivenRefusal) (table : Option Table)
    → MatchResult w (λ x. r ≡ Ok x) (λ reason. IsErrAnd r (λ e. e ≡ record { reason = reason; table = table }))
    → found_by r ≡ first_found (found (number_found_by w) (table_number table) ∷ [])
unfolding first_found
found-in-table (Ok x) r table made = ap found_by made
found-in-table (Err reason) r table made =
    let p = err_from_is_err_and r made in
    ap found_by (p.1 ∙ ap Err p.2) ∙ rw (ne_eqb (reason_number reason) 0 (reason-some reason))
