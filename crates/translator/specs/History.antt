-- 02, 2026-05, 4 to 6: what happens to registers in time, and which one a new value takes, given what happened before.
use Rattle.std.specs.Prelude.{ℕ, suc, ◌≤◌, ◌<◌, ◌≡◌, ◌⊎◌, Bool, true, false, List, [], ◌∷◌, eqb, ltb, length}
use Rattle.lists.specs.First.{first}

-- The value of a reference is put into register d, or d is freed. A history has the latest change first.
pub data Change : Type 0 where
  taken : (d value : ℕ) → Change
  freed : (d : ℕ) → Change

-- when d was last taken and when it was last freed, where the first change is at 1; 0 if it never was
unfoldable pub taken_at : List Change → (d : ℕ) → ℕ
taken_at [] d = 0
taken_at (taken e v ∷ hs) d = first (eqb d e) (suc (length hs)) (taken_at hs d)
taken_at (freed e ∷ hs) d = taken_at hs d

unfoldable pub freed_at : List Change → (d : ℕ) → ℕ
freed_at [] d = 0
freed_at (taken e v ∷ hs) d = freed_at hs d
freed_at (freed e ∷ hs) d = first (eqb d e) (suc (length hs)) (freed_at hs d)

-- freed, and not taken since
abbrev pub is_free : List Change → (d : ℕ) → Bool
is_free hs d = ltb (taken_at hs d) (freed_at hs d)

abbrev pub is_never_used : List Change → (d : ℕ) → Bool
is_never_used hs d = eqb (taken_at hs d) 0

-- the register that the value of v was put into; 0 if into none
unfoldable pub register_taken_by : List Change → (v : ℕ) → ℕ
register_taken_by [] v = 0
register_taken_by (taken d w ∷ hs) v = first (eqb v w) d (register_taken_by hs v)
register_taken_by (freed d ∷ hs) v = register_taken_by hs v

-- with that register freed, if it is to be
abbrev pub free_if : Bool → (v : ℕ) → List Change → List Change
free_if last v hs = first last (freed (register_taken_by hs v) ∷ hs) hs

-- 02, 2026-05, 5: d is free, and none that is free was freed later.
pub record FreedLast (hs : List Change) (d : ℕ) : Type 0 where
  pub free : is_free hs d ≡ true
  pub last : (e : ℕ) → is_free hs e ≡ true → freed_at hs e ≤ freed_at hs d

-- 02, 2026-05, 6: nothing that was freed is still free, and d is the lowest register that was never taken.
pub record LowestNeverUsed (hs : List Change) (d : ℕ) : Type 0 where
  pub none_free : (e : ℕ) → is_free hs e ≡ false
  pub never-used : is_never_used hs d ≡ true
  pub lowest : (e : ℕ) → e < d → is_never_used hs e ≡ false

-- 02, 2026-05, 5 and 6: d is the register that a new value takes.
abbrev pub Takes : List Change → (d : ℕ) → Type 0
Takes hs d = FreedLast hs d ⊎ LowestNeverUsed hs d
