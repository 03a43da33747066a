-- Registers in time: the discipline leaves no choice of a register, and the allocation's owners and stack are what has been taken and freed.
-- Assumes nothing.
use mathlib.Core.Path.{◌≡◌, refl, sym, ap, ◌∙◌}
use mathlib.Core.Logic.{◌≢◌, inl, inr}
use mathlib.Core.Bool.{Bool, true, false, true≢false, not, ◌||◌}
use mathlib.Core.List.{List, [], ◌∷◌}
use Prim.Native.Nat.{ℕ, suc, ◌≤◌, ◌<◌}
use native.Mathlib.Nat.{suc_inj, le_antisymm}
use native.Mathlib.Decide.{dec_lt, ℕ_discrete}
use native.Mathlib.Omega.{arith}
use lib.Dec.{eqb, ltb}
use lib.ListN.{length, get_or, set, length-set, length-append}
use borrow.Author.Tests.{eq-eqb, ne_eqb, eqb-true, lt-ltb, le-ltb, ltb-true}
use Rattle.lists.specs.First.{first}
use Rattle.circuit.specs.Path.{is_among}
use Rattle.circuit.proofs.ValidLaws.{among-head, among-tail}
use Rattle.translator.specs.Machine.{Instruction}
use Rattle.translator.specs.Allocation.{Allocation, register_of, next_register, still_free, owners_with, assign, release}
use Rattle.translator.specs.History.{Change, taken, freed, taken_at, freed_at, is_free, is_never_used, register_taken_by, free_if, LowestNeverUsed, Takes}
use Rattle.translator.proofs.OwnerLaws.{register-at, among-at, freed-owner, Free, free-out, owners-next, owners-other, next-inside, owners-grow}

-- ---- times

-- the latest change is of this register or not, and no other is later
latest : (b : Bool) (n m : ℕ) → m ≤ n → first b (suc n) m ≤ suc n
latest true n m h = omega arith
latest false n m h = omega arith

taken-limit : (hs : List Change) (d : ℕ) → taken_at hs d ≤ length hs
unfolding taken_at
taken-limit [] d = omega arith
taken-limit (taken e v ∷ hs) d = latest (eqb d e) (length hs) (taken_at hs d) (taken-limit hs d)
taken-limit (freed e ∷ hs) d = omega (arith, taken-limit hs d)

freed-limit : (hs : List Change) (d : ℕ) → freed_at hs d ≤ length hs
unfolding freed_at
freed-limit [] d = omega arith
freed-limit (taken e v ∷ hs) d = omega (arith, freed-limit hs d)
freed-limit (freed e ∷ hs) d = latest (eqb d e) (length hs) (freed_at hs d) (freed-limit hs d)

-- at one time one register is freed
freed-one : (hs : List Change) (d e : ℕ) → 0 < freed_at hs d → freed_at hs d ≡ freed_at hs e → d ≡ e
unfolding freed_at
freed-one [] d e h q = absurd (omega arith)
freed-one (taken f v ∷ hs) d e h q = freed-one hs d e h q
freed-one (freed f ∷ hs) d e h q = go (eqb d f) (eqb e f) refl refl h q (freed-one hs d e)
  where
    go : (a b : Bool) → eqb d f ≡ a → eqb e f ≡ b → 0 < first a (suc (length hs)) (freed_at hs d)
        → first a (suc (length hs)) (freed_at hs d) ≡ first b (suc (length hs)) (freed_at hs e)
        → (0 < freed_at hs d → freed_at hs d ≡ freed_at hs e → d ≡ e) → d ≡ e
    go true true x y l p before = eqb-true d f x ∙ sym (eqb-true e f y)
    go true false x y l p before = absurd (omega (arith, freed-limit hs e))
    go false true x y l p before = absurd (omega (arith, freed-limit hs d))
    go false false x y l p before = before l p

-- the discipline leaves no choice
pub takes_one : (hs : List Change) (d e : ℕ) → Takes hs d → Takes hs e → d ≡ e
takes_one hs d e (inl a) (inl b) =
    freed-one hs d e (omega (arith, ltb-true (taken_at hs d) (freed_at hs d) a.free)) (omega (arith, a.last e b.free, b.last d a.free))
takes_one hs d e (inl a) (inr b) = absurd (true≢false (sym a.free ∙ b.none_free d))
takes_one hs d e (inr a) (inl b) = absurd (true≢false (sym b.free ∙ a.none_free e))
takes_one hs d e (inr a) (inr b) = le_antisymm (lower d e a b) (lower e d b a)
  where
    lower : (d e : ℕ) → LowestNeverUsed hs d → LowestNeverUsed hs e → d ≤ e
    lower d e a b =
        elim (dec_lt e d) [
          | yes l ↦ absurd (true≢false (sym b.never-used ∙ a.lowest e l))
          | no l ↦ omega arith
        ]

-- ---- the allocation

-- each was freed no later than the one above it
abbrev pub Stacked : (time : ℕ → ℕ) → List ℕ → Type 0
Stacked time [] = Unit {0}
Stacked time (d ∷ ds) = ((e : ℕ) → is_among e ds ≡ true → time e ≤ time d) × Stacked time ds

stacked-same : (s t : ℕ → ℕ) (ds : List ℕ) → ((e : ℕ) → is_among e ds ≡ true → s e ≡ t e) → Stacked s ds → Stacked t ds
stacked-same s t [] same k = tt
stacked-same s t (d ∷ ds) same k = (
  λ e h. rw (sym (same e (among-tail e d ds h)), sym (same d (among-head d ds))) (k.0 e h),
  stacked-same s t ds (λ e h. same e (among-tail e d ds h)) k.1,
)

-- the owners are in the registers that they took, all of these registers were used and no others, and the stack has those that are free
pub record Recorded (ws ds : List ℕ) (hs : List Change) : Type 0 where
  pub used : (d : ℕ) → d < length ws → is_never_used hs d ≡ false
  pub unused : (d : ℕ) → length ws ≤ d → is_never_used hs d ≡ true
  pub free : (d : ℕ) → is_free hs d ≡ is_among d ds
  pub stacked : Stacked (freed_at hs) ds
  pub holds : (d v : ℕ) → get_or ws d 0 ≡ suc v → register_taken_by hs v ≡ d

pub recorded-none : Recorded [] [] []
unfolding taken_at freed_at is_among
recorded-none = record { used = λ d h. absurd (omega arith); unused = λ d h. refl; free = λ d. refl; stacked = tt; holds = λ d v e. absurd (omega arith) }

-- who is in a register is in the one that it took
pub recorded-register : (ws ds : List ℕ) (hs : List Change) → Recorded ws ds hs → (v : ℕ) → is_among (suc v) ws ≡ true → register_taken_by hs v ≡ register_of ws v
recorded-register ws ds hs r v e = r.holds (register_of ws v) v (register-at ws v e).0

-- the register that is taken next is that of the discipline
pub next-takes : (ws ds : List ℕ) (hs : List Change) → Recorded ws ds hs → Takes hs (next_register ws ds)
unfolding is_among
next-takes ws [] hs r = inr (record { none_free = r.free; never-used = r.unused (length ws) (omega arith); lowest = r.used })
next-takes ws (d ∷ ds) hs r =
    inl (record {
      free = r.free d ∙ among-head d ds;
      last = λ e q. go e (eqb e d) refl (sym (r.free e) ∙ q);
    })
  where
    go : (e : ℕ) (b : Bool) → eqb e d ≡ b → b || is_among e ds ≡ true → freed_at hs e ≤ freed_at hs d
    go e true x q = rw (eqb-true e d x) (omega arith)
    go e false x q = r.stacked.0 e q

-- ---- a value takes it

module _ (ws ds : List ℕ) (hs : List Change) (r : Recorded ws ds hs) (f : Free ws ds) (x : ℕ) (new : is_among (suc x) ws ≡ false) where
  abbrev d : ℕ
  d = next_register ws ds

  taken-same : (e : ℕ) → e ≡ d → taken_at (taken d x ∷ hs) e ≡ suc (length hs)
  unfolding taken_at
  taken-same e q = rw (eq-eqb e d q)

  taken-other : (e : ℕ) → e ≢ d → taken_at (taken d x ∷ hs) e ≡ taken_at hs e
  unfolding taken_at
  taken-other e ne = rw (ne_eqb e d ne)

  -- it is no longer free, and none of the others has changed
  still-same : (ds : List ℕ) (e : ℕ) → Free ws ds → e ≡ next_register ws ds → is_among e (still_free ds) ≡ false
  unfolding is_among
  still-same [] e f q = refl
  still-same (d ∷ ds) e f q = rw q f.2

  still-other : (ds : List ℕ) (e : ℕ) → e ≢ next_register ws ds → is_among e (still_free ds) ≡ is_among e ds
  unfolding is_among
  still-other [] e ne = refl
  still-other (d ∷ ds) e ne = rw (ne_eqb e d ne)

  still-stacked : (ds : List ℕ) → Stacked (freed_at hs) ds → Stacked (freed_at hs) (still_free ds)
  still-stacked [] k = tt
  still-stacked (d ∷ ds) k = k.1

  -- only the one that is taken may be used for the first time
  one_more : (ds : List ℕ) (e : ℕ) → e ≢ next_register ws ds → e < length (owners_with x ws ds) → e < length ws
  one_more [] e ne h = omega (arith, length-append ws (suc x ∷ []))
  one_more (d ∷ ds) e ne h = omega (arith, length-set ws d (suc x))

  recorded-taken : Recorded (owners_with x ws ds) (still_free ds) (taken d x ∷ hs)
  unfolding freed_at register_taken_by
  recorded-taken =
      record {
        used = λ e h. elim (ℕ_discrete e d) [
          | yes q ↦ ne_eqb (taken_at (taken d x ∷ hs) e) 0 (omega (arith, taken-same e q))
          | no q ↦ ap (λ t. eqb t 0) (taken-other e q) ∙ r.used e (one_more ds e q h)
        ];
        unused = λ e h. let q : e ≢ d = omega (arith, next-inside x ws ds f) in
            ap (λ t. eqb t 0) (taken-other e q) ∙ r.unused e (omega (arith, owners-grow x ws ds));
        free = λ e. elim (ℕ_discrete e d) [
          | yes q ↦ le-ltb (taken_at (taken d x ∷ hs) e) (freed_at hs e) (omega (arith, taken-same e q, freed-limit hs e)) ∙ sym (still-same ds e f q)
          | no q ↦ ap (λ t. ltb t (freed_at hs e)) (taken-other e q) ∙ r.free e ∙ sym (still-other ds e q)
        ];
        stacked = stacked-same (freed_at hs) (freed_at (taken d x ∷ hs)) (still_free ds) (λ e h. refl) (still-stacked ds r.stacked);
        holds = λ e v h. elim (ℕ_discrete e d) [
          | yes q ↦
              let same : v ≡ x = suc_inj (sym h ∙ ap (λ j. get_or (owners_with x ws ds) j 0) q ∙ owners-next x ws ds f) in
              ap (λ b. first b d (register_taken_by hs v)) (eq-eqb v x same) ∙ sym q
          | no q ↦
              let old = sym (owners-other x ws ds e q) ∙ h in
              let other : v ≢ x = λ p. true≢false (sym (among-at ws e x (old ∙ ap suc p)) ∙ new) in
              ap (λ b. first b d (register_taken_by hs v)) (ne_eqb v x other) ∙ r.holds e v old
        ];
      }

-- ---- a value has been read

module _ (ws ds : List ℕ) (hs : List Change) (r : Recorded ws ds hs) (f : Free ws ds) (v : ℕ) (there : is_among (suc v) ws ≡ true) where
  abbrev held : ℕ
  held = register_of ws v

  freed-same : (e : ℕ) → e ≡ held → freed_at (freed held ∷ hs) e ≡ suc (length hs)
  unfolding freed_at
  freed-same e q = rw (eq-eqb e held q)

  freed-other : (e : ℕ) → e ≢ held → freed_at (freed held ∷ hs) e ≡ freed_at hs e
  unfolding freed_at
  freed-other e ne = rw (ne_eqb e held ne)

  recorded-freed : Recorded (set ws held 0) (held ∷ ds) (freed held ∷ hs)
  unfolding taken_at register_taken_by is_among
  recorded-freed =
      let out = free-out ws held v ds (register-at ws v there).0 f in
      record {
        used = λ e h. r.used e (omega (arith, length-set ws held 0));
        unused = λ e h. r.unused e (omega (arith, length-set ws held 0));
        free = λ e. elim (ℕ_discrete e held) [
          | yes q ↦
              lt-ltb (taken_at hs e) (freed_at (freed held ∷ hs) e) (omega (arith, freed-same e q, taken-limit hs e))
              ∙ sym (ap (λ b. b || is_among e ds) (eq-eqb e held q))
          | no q ↦ ap (λ t. ltb (taken_at hs e) t) (freed-other e q) ∙ r.free e ∙ sym (ap (λ b. b || is_among e ds) (ne_eqb e held q))
        ];
        stacked = (
          λ e h. omega (arith, freed-limit (freed held ∷ hs) e, freed-same held refl),
          stacked-same (freed_at hs) (freed_at (freed held ∷ hs)) ds (λ e h. sym (freed-other e (λ q. true≢false (sym h ∙ ap (λ j. is_among j ds) q ∙ out)))) r.stacked,
        );
        holds = λ e w h. r.holds e w (freed-owner ws held e w h);
      }

-- ---- what the allocation does to its registers, as history

pub recorded-assign : (x : ℕ) (make : ℕ → Instruction) (s : Allocation) (hs : List Change) → Recorded s.owners s.freed hs → Free s.owners s.freed
    → is_among (suc x) s.owners ≡ false
    → Recorded (assign x make s).owners (assign x make s).freed (taken (next_register s.owners s.freed) x ∷ hs)
unfolding assign
recorded-assign x make s hs r f new = recorded-taken s.owners s.freed hs r f x new

pub recorded-release : (keep last : Bool) (v : ℕ) (s : Allocation) (hs : List Change) → last ≡ not keep → Recorded s.owners s.freed hs
    → Free s.owners s.freed → is_among (suc v) s.owners ≡ true
    → Recorded (release keep v s).owners (release keep v s).freed (free_if last v hs)
unfolding release
recorded-release true last v s hs e r f there = rw e r
recorded-release false last v s hs e r f there =
    rw (e, recorded-register s.owners s.freed hs r v there) (recorded-freed s.owners s.freed hs r f v there)
