-- A list that is split in two ways. Assumes nothing.
use mathlib.Core.Path.{◌≡◌, refl, sym, ap₂}
use mathlib.Core.Logic.{◌⊎◌, inl, inr}
use mathlib.Core.List.{List, [], ◌∷◌, ◌++◌, append-eq-nil_iff, append-nil, nil≢cons, cons≢nil, head-eq_of_cons-eq, tail-eq_of_cons-eq}

module _ {A : Type 0} where
  -- an element of two lists, one behind the other, is in the first or in the second
  pub split-append : (xs ys before : List A) (x : A) (behind : List A) → xs ++ ys ≡ before ++ (x ∷ behind)
      → ((mid : List A) × (xs ≡ before ++ (x ∷ mid)) × (behind ≡ mid ++ ys)) ⊎ ((mid : List A) × (before ≡ xs ++ mid) × (ys ≡ mid ++ (x ∷ behind)))
  split-append [] ys before x behind e = inr (before, refl, e)
  split-append (z ∷ xs) ys [] x behind e = inl (xs, ap₂ ◌∷◌ (head-eq_of_cons-eq e) refl, sym (tail-eq_of_cons-eq e))
  split-append (z ∷ xs) ys (y ∷ before) x behind e = go (split-append xs ys before x behind (tail-eq_of_cons-eq e))
    where
      go : ((mid : List A) × (xs ≡ before ++ (x ∷ mid)) × (behind ≡ mid ++ ys)) ⊎ ((mid : List A) × (before ≡ xs ++ mid) × (ys ≡ mid ++ (x ∷ behind)))
          → ((mid : List A) × (z ∷ xs ≡ y ∷ before ++ (x ∷ mid)) × (behind ≡ mid ++ ys))
          ⊎ ((mid : List A) × (y ∷ before ≡ z ∷ xs ++ mid) × (ys ≡ mid ++ (x ∷ behind)))
      go (inl (mid, p, q)) = inl (mid, ap₂ ◌∷◌ (head-eq_of_cons-eq e) p, q)
      go (inr (mid, p, q)) = inr (mid, ap₂ ◌∷◌ (sym (head-eq_of_cons-eq e)) p, q)

  -- what holds of each element of two lists, by those before it
  pub each_append : (Q : List A → A → Type 0) (xs ys : List A) → ((before : List A) (x : A) (behind : List A) → xs ≡ before ++ (x ∷ behind) → Q before x)
      → ((mid : List A) (x : A) (behind : List A) → ys ≡ mid ++ (x ∷ behind) → Q (xs ++ mid) x)
      → (before : List A) (x : A) (behind : List A) → xs ++ ys ≡ before ++ (x ∷ behind) → Q before x
  each_append Q xs ys f g before x behind e =
      elim (split-append xs ys before x behind e) [
        | inl (mid, p, q) ↦ f before x mid p
        | inr (mid, p, q) ↦ rw p (g mid x behind q)
      ]

  -- of one element more
  pub each_last : (Q : List A → A → Type 0) (xs : List A) (y : A) → ((before : List A) (x : A) (behind : List A) → xs ≡ before ++ (x ∷ behind) → Q before x)
      → Q xs y → (before : List A) (x : A) (behind : List A) → xs ++ (y ∷ []) ≡ before ++ (x ∷ behind) → Q before x
  each_last Q xs y f h = each_append Q xs (y ∷ []) f last
    where
      last : (mid : List A) (x : A) (behind : List A) → y ∷ [] ≡ mid ++ (x ∷ behind) → Q (xs ++ mid) x
      last [] x behind e = rw (append-nil xs, sym (head-eq_of_cons-eq e)) h
      last (z ∷ []) x behind e = absurd (nil≢cons (tail-eq_of_cons-eq e))
      last (z ∷ w ∷ mid) x behind e = absurd (nil≢cons (tail-eq_of_cons-eq e))

  pub no-element : (before : List A) (x : A) (behind : List A) → [] ≡ before ++ (x ∷ behind) → ⊥
  no-element before x behind e = cons≢nil ((append-eq-nil_iff {p = before}).0 (sym e)).1
