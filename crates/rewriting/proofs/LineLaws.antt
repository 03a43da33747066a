-- The table of the replaced circuit, line by line, and loops that write it. Assumes nothing.
use mathlib.Core.Path.{◌≡◌, refl, sym, ap, ap₂, ◌∙◌}
use mathlib.Core.Bool.{true, false}
use mathlib.Core.List.{List, [], ◌∷◌, ◌++◌, map, append-nil, append_assoc}
use Prim.Native.Nat.{ℕ, zero, suc, ◌+◌, ◌*◌, ◌-◌, ◌/◌, ◌≤◌, ◌<◌}
use native.Mathlib.Omega.{arith}
use lib.ListN.{length, take, drop, get_or, set, length-append, length-map, length-drop, drop_of_length-le}
use lib.Seq.{sets, drop-drop, length-take-le}
use borrow.Author.Tests.{ltb-false}
use Rattle.std.proofs.lemmas.List.{length-take}
use Rattle.lists.proofs.Maps.{map-drop}
use Rattle.lists.proofs.Stores.{sets-append}
use Rattle.lists.proofs.Appended.{Appended, appended-none, appended-more, appended-all}
use Rattle.lines.specs.Calls.{over}
use Rattle.circuit.specs.Circuit.{Gate, first_gate, max_inputs, max_gates, max_references, max_table}
use Rattle.circuit.specs.Table.{inputs, gates, outputs, starts, gates_from, line_at, lines_of, gate_lines, start_line, closing_line}
use Rattle.circuit.specs.Table.{decode, encode_lines, encode}
use Rattle.circuit.specs.Path.{is_gate}
use Rattle.circuit.specs.Refusal.{operands_below}
use Rattle.circuit.specs.Valuation.{Ordered}
use Rattle.circuit.specs.Trim.{rename_gate}
use Rattle.circuit.specs.WellFormed.{Sized, WellFormed}
use Rattle.circuit.proofs.TableLaws.{lines-length, starts-length, output-next, gates-length, outputs-length}
use Rattle.circuit.proofs.GateLaws.{gate-from, gate-to}
use Rattle.circuit.proofs.EncodingLaws.{encode-cons, encode-append, encode-length, encode-lines, lines-encode, encode-lines-length, encode-starts}
use Rattle.circuit.proofs.EachLaws.{all-each}
use Rattle.circuit.proofs.StartLaws.{starts-are-inputs}
use Rattle.circuit.proofs.BufferLaws.{over-behind, copied-counted}
use Rattle.circuit.proofs.ValidLaws.{valid-decode, ordered_of}
use Rattle.rules.specs.Rule.{Rule, max_holes, max_rights}
use Rattle.rules.specs.RuleTable.{holes_at, rights_at, right_from, rule_at}
use Rattle.rules.specs.WellFormed.{WellFormedRule}
use Rattle.rules.proofs.RefusalLaws.{right-references-ok, closing-below}
use Rattle.rewriting.specs.Replacement.{instance_of, renumber, right_renaming, renaming, gates_before, gates_behind, replace}
use Rattle.rewriting.specs.Replacement.{front_lines, rows_of, renamed_lines, renumbered_closings, OperandsBelow}
use Rattle.rewriting.specs.Verdict.{is_too_large}
use Rattle.rewriting.proofs.SpliceLaws.{each_left}
use Rattle.rewriting.proofs.ReplacementLaws.{renumber-low, before-length, behind-length, cut, replace-length}

-- ---- lines stored one after the other, made by f of each x

abbrev pub LinesTo : {A : Type 0} (f : A → Gate) (xs : List A) (d₀ : List ℕ) (from : ℕ) (d : List ℕ) (i : ℕ) → Type 0
LinesTo f xs d₀ from d i = Appended (encode_lines (map f xs)) d₀ from (encode_lines (map f (drop i xs))) d (from + 3 * i)

module _ {A : Type 0} (f : A → Gate) (xs : List A) (d₀ : List ℕ) (from : ℕ) where
  pub lines_none : LinesTo f xs d₀ from d₀ 0
  lines_none = appended-none _ d₀ from _ (from + 3 * 0) refl (omega arith)

  module _ (d : List ℕ) (i : ℕ) (s : LinesTo f xs d₀ from d i) where
    pub lines_more : (x : A) → drop i xs ≡ x ∷ drop (i + 1) xs → (kind left right : ℕ) → kind ≡ (f x).kind → left ≡ (f x).left → right ≡ (f x).right
        → (d' : List ℕ) → d' ≡ sets d (from + 3 * i) (kind ∷ left ∷ right ∷ []) → LinesTo f xs d₀ from d' (i + 1)
    lines_more x e kind left right k l r d' q =
        appended-more _ d₀ from _ d (from + 3 * i) s (kind ∷ left ∷ right ∷ []) _ d' (from + 3 * (i + 1))
        (ap (λ l. encode_lines (map f l)) e ∙ encode-cons (f x) (map f (drop (i + 1) xs))
        ∙ ap₂ (λ a b. a ∷ b ∷ (f x).right ∷ encode_lines (map f (drop (i + 1) xs))) (sym k) (sym l)
        ∙ ap (λ c. kind ∷ left ∷ c ∷ encode_lines (map f (drop (i + 1) xs))) (sym r)) q (omega arith)

    pub lines-all : length xs ≤ i → d ≡ sets d₀ from (encode_lines (map f xs))
    unfolding encode_lines
    lines-all h = (appended-all _ d₀ from _ d (from + 3 * i) s (ap (λ l. encode_lines (map f l)) (drop_of_length-le xs h))).0

-- ---- rows, gone over by threes

rows-chunk : (x rest : List ℕ) → length x ≡ 3 → rows_of (x ++ rest) ≡ line_at x 0 ∷ rows_of rest
unfolding lines_of
rows-chunk [] rest e = let no_way : ⊥ = omega (arith, e) in absurd no_way
rows-chunk (k ∷ []) rest e = let no_way : ⊥ = omega (arith, e) in absurd no_way
rows-chunk (k ∷ l ∷ []) rest e = let no_way : ⊥ = omega (arith, e) in absurd no_way
rows-chunk (k ∷ l ∷ r ∷ []) rest e =
    let more : length (k ∷ l ∷ r ∷ rest) / 3 ≡ suc (length rest / 3) = omega arith in
    ap (λ n. lines_of n (k ∷ l ∷ r ∷ rest)) more
rows-chunk (k ∷ l ∷ r ∷ y ∷ ys) rest e = let no_way : ⊥ = omega (arith, e) in absurd no_way

rows-end : (rest : List ℕ) → length rest < 3 → rows_of rest ≡ []
unfolding lines_of
rows-end rest h = let none : length rest / 3 ≡ 0 = omega arith in ap (λ n. lines_of n rest) none

renamed-length : (ρ : ℕ → ℕ) (gs : List Gate) → length (renamed_lines ρ gs) ≡ 3 * length gs
renamed-length ρ gs = omega (arith, encode-length (map (rename_gate ρ) gs), length-map gs (rename_gate ρ))

-- A turn of the loop that stores them renamed, in d from place `at` on, where x is the next row: its operands are below the limit, there is
-- room for it, and stored it leaves `after` to be stored.
pub record Turn (limit : ℕ) (ρ : ℕ → ℕ) (rows d₀ : List ℕ) (from : ℕ) (x after d : List ℕ) (at : ℕ) : Type 0 where
  pub left-below : get_or x 1 0 < limit
  pub right-below : get_or x 2 0 < limit
  pub rest-below : OperandsBelow limit (rows_of after)
  pub long : length d ≡ length d₀
  pub room : at + 3 ≤ length d
  pub stored : (left right : ℕ) → left ≡ ρ (get_or x 1 0) → right ≡ ρ (get_or x 2 0)
      → (d' : List ℕ) → d' ≡ sets d at (get_or x 0 0 ∷ left ∷ right ∷ [])
      → Appended (renamed_lines ρ (rows_of rows)) d₀ from (renamed_lines ρ (rows_of after)) d' (at + 3)

pub chunk-turn : (before x after : List ℕ) → before ≡ x ++ after → length x ≡ 3
    → (limit : ℕ) (ρ : ℕ → ℕ) (rows d₀ : List ℕ) (from : ℕ) (d : List ℕ) (at : ℕ) → OperandsBelow limit (rows_of before)
    → Appended (renamed_lines ρ (rows_of rows)) d₀ from (renamed_lines ρ (rows_of before)) d at → from + 3 * length (rows_of rows) ≤ length d₀
    → Turn limit ρ rows d₀ from x after d at
chunk-turn before x after e three limit ρ rows d₀ from d at h s room =
    let below : ((get_or x 1 0 < limit) × (get_or x 2 0 < limit)) × OperandsBelow limit (rows_of after) = rw (e, rows-chunk x after three) at h in
    let rest : renamed_lines ρ (rows_of before) ≡ get_or x 0 0 ∷ ρ (get_or x 1 0) ∷ ρ (get_or x 2 0) ∷ renamed_lines ρ (rows_of after) =
    ap (λ t. renamed_lines ρ (rows_of t)) e ∙ ap (renamed_lines ρ) (rows-chunk x after three)
    ∙ encode-cons (rename_gate ρ (line_at x 0)) (map (rename_gate ρ) (rows_of after)) in
    record {
      left-below = below.0.0;
      right-below = below.0.1;
      rest-below = below.1;
      long = s.long;
      room = omega (arith, room, s.place, s.long, ap length rest, renamed-length ρ (rows_of rows));
      stored = λ left right l r d' q.
          appended-more _ d₀ from _ d at s (get_or x 0 0 ∷ left ∷ right ∷ []) _ d' (at + 3)
          (rest ∙ ap₂ (λ a b. get_or x 0 0 ∷ a ∷ b ∷ renamed_lines ρ (rows_of after)) (sym l) (sym r)) q refl;
    }

-- less than a row is left
pub chunk-all : (ρ : ℕ → ℕ) (rows d₀ : List ℕ) (from : ℕ) (before d : List ℕ) (at : ℕ)
    → Appended (renamed_lines ρ (rows_of rows)) d₀ from (renamed_lines ρ (rows_of before)) d at → length before < 3
    → (d ≡ sets d₀ from (renamed_lines ρ (rows_of rows))) × (at ≡ from + 3 * length (rows_of rows))
unfolding encode_lines
chunk-all ρ rows d₀ from before d at s h =
    let all = appended-all _ d₀ from _ d at s (ap (renamed_lines ρ) (rows-end before h)) in
    (all.0, omega (arith, all.1, renamed-length ρ (rows_of rows)))

-- ---- parts of a table as rows

lines-front : (k : ℕ) (xs : List ℕ) → 3 * k ≤ length xs → lines_of k (take (3 * k) xs) ≡ lines_of k xs
lines-front k xs h =
    let gs = lines_of k xs in
    ap₂ lines_of (sym (lines-length k xs)) (sym (append-nil (encode_lines gs) ∙ encode-lines k xs h))
    ∙ lines-encode gs []

-- the first k lines of xs
pub rows-taken : (n k : ℕ) (xs : List ℕ) → n ≡ 3 * k → n ≤ length xs → rows_of (take n xs) ≡ lines_of k xs
rows-taken n k xs e h =
    let whole : length (take n xs) / 3 ≡ k = omega (arith, length-take-le n xs h, e) in
    ap₂ lines_of whole (ap (λ m. take m xs) e) ∙ lines-front k xs (omega arith)

lines-take : (j n : ℕ) (xs : List ℕ) → j ≤ n → take j (lines_of n xs) ≡ lines_of j xs
unfolding lines_of
lines-take zero n xs h = refl
lines-take (suc j) zero xs h = let no_way : ⊥ = omega arith in absurd no_way
lines-take (suc j) (suc n) xs h = ap (λ gs. line_at xs 0 ∷ gs) (lines-take j n (drop 3 xs) (omega arith))

lines-drop : (j m n : ℕ) (xs : List ℕ) → n ≡ j + m → drop j (lines_of n xs) ≡ lines_of m (drop (3 * j) xs)
unfolding lines_of
lines-drop zero m n xs e = let same : n ≡ m = omega (arith, e) in ap (λ k. lines_of k xs) same
lines-drop (suc j) m zero xs e = let no_way : ⊥ = omega arith in absurd no_way
lines-drop (suc j) m (suc n) xs e =
    let next : 3 + 3 * j ≡ 3 * suc j = omega arith in
    lines-drop j m n (drop 3 xs) (omega arith) ∙ ap (lines_of m) (drop-drop (3 * j) 3 xs ∙ ap (λ k. drop k xs) next)

below-take : (limit j : ℕ) (gs : List Gate) → OperandsBelow limit gs → OperandsBelow limit (take j gs)
below-take limit zero gs a = tt
below-take limit (suc j) [] a = tt
below-take limit (suc j) (g ∷ gs) a = (a.0, below-take limit j gs a.1)

below-drop : (limit j : ℕ) (gs : List Gate) → OperandsBelow limit gs → OperandsBelow limit (drop j gs)
below-drop limit zero gs a = a
below-drop limit (suc j) [] a = tt
below-drop limit (suc j) (g ∷ gs) a = below-drop limit j gs a.1

ordered-below : (limit n : ℕ) (gs : List Gate) → Ordered n gs → n + length gs ≤ limit → OperandsBelow limit gs
ordered-below limit n [] a h = tt
ordered-below limit n (g ∷ gs) a h = ((omega (arith, a.0.0), omega (arith, a.0.1)), ordered-below limit (suc n) gs a.1 (omega arith))

pub renamed-output-step : (ρ : ℕ → ℕ) (t : List ℕ) (i : ℕ) → i < outputs t
    → drop i (map ρ (decode t).outputs) ≡ ρ (get_or (decode t).outputs i 0) ∷ drop (i + 1) (map ρ (decode t).outputs)
renamed-output-step ρ t i h =
    let os = (decode t).outputs in
    map-drop ρ i os ∙ ap (map ρ) (output-next t i h) ∙ ap (λ l. ρ (get_or os i 0) ∷ l) (sym (map-drop ρ (i + 1) os))

-- ---- the lines of the replaced circuit's table

-- gates whose operands ρ leaves as they are
rename-same : (ρ : ℕ → ℕ) (n : ℕ) (gs : List Gate) → Ordered n gs → ((v : ℕ) → v < n + length gs → ρ v ≡ v) → map (rename_gate ρ) gs ≡ gs
rename-same ρ n [] ok e = refl
rename-same ρ n (g ∷ gs) ok e =
    ap₂ ◌∷◌ (ap₂ (λ l r. record { kind = g.kind; left = l; right = r }) (e g.left (omega (arith, ok.0))) (e g.right (omega (arith, ok.0))))
    (rename-same ρ (suc n) gs ok.1 (λ v h. e v (omega arith)))

-- another table's front, copied, and a number of gates written over its own
pub front-stores : (t : List ℕ) (count : ℕ) (front d d₁ d₂ : List ℕ) → front ≡ take (gates_from t) t → length front ≡ gates_from t
    → gates_from t ≤ length d → d₁ ≡ over front d → d₂ ≡ set d₁ 1 count → d₂ ≡ over (front_lines (decode t) count) d
front-stores t count front d d₁ d₂ same whole room e₁ e₂ =
    copied-counted t d (gates_from t) (3 * starts t) refl (omega (arith, length-take (gates_from t) t, ap length same, whole)) [] (omega arith)
    d₁ d₁ d₂ count (e₁ ∙ ap (λ l. over l d) same) refl e₂
    ∙ ap₂ (λ o l. over (inputs t ∷ count ∷ o ∷ l) d) (sym (outputs-length t)) (append-nil (take (3 * starts t) (drop 3 t)) ∙ sym (encode-starts t))

-- what replacement writes: a list over the front of d, and then four more, one behind the other
four-behind : (front v₁ v₂ v₃ v₄ d d₁ d₂ d₃ d₄ d₅ : List ℕ) (n p q r : ℕ)
    → length front ≡ n → p ≡ n + length v₁ → q ≡ p + length v₂ → r ≡ q + length v₃
    → length (front ++ (v₁ ++ (v₂ ++ (v₃ ++ v₄)))) ≤ length d
    → d₁ ≡ over front d → d₂ ≡ sets d₁ n v₁ → d₃ ≡ sets d₂ p v₂ → d₄ ≡ sets d₃ q v₃ → d₅ ≡ sets d₄ r v₄
    → d₅ ≡ over (front ++ (v₁ ++ (v₂ ++ (v₃ ++ v₄)))) d
four-behind front v₁ v₂ v₃ v₄ d d₁ d₂ d₃ d₄ d₅ n p q r e hp hq hr room e₁ e₂ e₃ e₄ e₅ =
    e₅ ∙ ap₂ (λ x k. sets x k v₄) e₄ hr ∙ sets-append v₃ v₄ d₃ q (length v₃) refl
    ∙ ap₂ (λ x k. sets x k (v₃ ++ v₄)) e₃ hq ∙ sets-append v₂ (v₃ ++ v₄) d₂ p (length v₂) refl
    ∙ ap₂ (λ x k. sets x k (v₂ ++ (v₃ ++ v₄))) e₂ hp ∙ sets-append v₁ (v₂ ++ (v₃ ++ v₄)) d₁ n (length v₁) refl
    ∙ over-behind front (v₁ ++ (v₂ ++ (v₃ ++ v₄))) d n e (omega (arith, room, length-append front (v₁ ++ (v₂ ++ (v₃ ++ v₄))))) d₁ _ e₁ refl

module _ (t : List ℕ) (gate : ℕ) (g : is_gate (decode t) gate ≡ true) where
  lo : first_gate (inputs t) ≤ gate
  lo = gate-from (decode t) gate g

  hi : gate < first_gate (inputs t) + length (gate_lines t)
  hi = gate-to (decode t) gate g

module _ (t : List ℕ) (u : Rule) (gate : ℕ) (b : List ℕ) (g : is_gate (decode t) gate ≡ true) where
  abbrev before : List Gate
  before = gates_before (decode t) gate

  abbrev behind : List Gate
  behind = map (rename_gate (renaming u gate b)) (gates_behind (decode t) gate)

  abbrev rights : List Gate
  rights = map (rename_gate (right_renaming u gate b)) u.rights

  -- the gates before the site's are the first part of the table's, and are copied: renumbering leaves them as they are
  before-part : Ordered (first_gate (inputs t)) (gate_lines t) → map (rename_gate (renaming u gate b)) before ≡ before
  before-part ok =
      let from = lo t gate g in
      let to = hi t gate g in
      rename-same (renaming u gate b) (first_gate (inputs t)) before
      (each_left _ (first_gate (inputs t)) before _ (rw (cut (decode t) gate from to) at ok))
      (λ v h. renumber-low gate (right_renaming u gate b u.closing) (length u.rights) v (omega (arith, before-length (decode t) gate from to)))

  abbrev front : List ℕ
  front = front_lines (decode t) (gates t - 1 + length u.rights)

  front_length : length front ≡ gates_from t
  front_length = omega (arith, encode-length (map start_line (decode t).starts), length-map (decode t).starts start_line, starts-length t)

  abbrev closings : List ℕ
  closings = encode_lines (map closing_line (map (renaming u gate b) (decode t).outputs))

  replace-lines : encode (replace (decode t) u gate b) ≡ front ++ (encode_lines before ++ (encode_lines rights ++ (encode_lines behind ++ closings)))
  unfolding encode replace
  replace-lines =
      let n : length (replace (decode t) u gate b).gates ≡ gates t - 1 + length u.rights =
      omega (arith, replace-length (decode t) gate (lo t gate g) (hi t gate g) u b, gates-length t, lo t gate g, hi t gate g) in
      let o : length (map (renaming u gate b) (decode t).outputs) ≡ length (decode t).outputs = length-map (decode t).outputs (renaming u gate b) in
      let ss = encode_lines (map start_line (decode t).starts) in
      let gs = encode_lines before in
      let rs = encode_lines rights in
      let hs = encode_lines behind in
      let l : encode_lines (before ++ (rights ++ behind)) ++ closings ≡ gs ++ (rs ++ (hs ++ closings)) =
      ap (λ x. x ++ closings) (encode-append before (rights ++ behind) ∙ ap (λ x. gs ++ x) (encode-append rights behind))
      ∙ append_assoc gs (rs ++ hs) closings ∙ ap (λ x. gs ++ x) (append_assoc rs hs closings) in
      ap₂ (λ x y. inputs t ∷ x ∷ y ∷ (ss ++ (encode_lines (before ++ (rights ++ behind)) ++ closings))) n o ∙ ap (λ x. front ++ x) l

-- ---- the parts of a replacement, as the code has them

-- The gate is one, and the replaced circuit is within the limits. Its gates are xs, those before the site's, from place n of the table on; ys,
-- the rule's right gates, `count` of them, the first of reference `base`; and zs, the gates behind the site's.
pub record Parts (t : List ℕ) (u : Rule) (gate base count n : ℕ) (xs ys zs : List Gate) : Type 0 where
  pub sized : Sized t
  pub starts-limit : starts t ≤ max_inputs
  pub gate-lowest : first_gate (inputs t) ≤ gate
  pub gate-limit : gate < first_gate (inputs t) + gates t
  pub gates-limit : gates t + count ≤ max_gates + 1
  pub base-limit : base ≤ first_gate max_holes
  pub count-limit : count ≤ max_rights
  pub closing-limit : u.closing < base + max_rights
  pub place : n ≡ gates_from t
  pub base-is : base ≡ first_gate u.holes
  pub before : xs ≡ gates_before (decode t) gate
  pub right : ys ≡ u.rights
  pub behind : zs ≡ gates_behind (decode t) gate
  pub before-long : first_gate (inputs t) + length xs ≡ gate
  pub right-long : length ys ≡ count
  pub behind-long : suc gate + length zs ≡ first_gate (inputs t) + gates t
  pub before-below : OperandsBelow max_references xs
  pub right-below : OperandsBelow (base + max_rights) ys
  pub behind-below : OperandsBelow max_references zs

-- the first and the last of them as rows of a well-formed table
module _ (t : List ℕ) (w : WellFormed t) (gate : ℕ) (g : is_gate (decode t) gate ≡ true) (n : ℕ) (hn : n ≡ gates_from t) where
  within : (first_gate (inputs t) ≤ gate) × (gate < first_gate (inputs t) + gates t)
  within = (lo t gate g, omega (arith, hi t gate g, gates-length t))

  rows-before : (k : ℕ) → k ≡ 3 * (gate - first_gate (inputs t)) → rows_of (take k (drop n t)) ≡ gates_before (decode t) gate
  rows-before k hk =
      let i = gate - first_gate (inputs t) in
      let room : k ≤ length (drop n t) = omega (arith, length-drop n t, hn, hk, w.sized, within) in
      rows-taken k i (drop n t) hk room ∙ ap (λ m. lines_of i (drop m t)) hn
      ∙ sym (lines-take i (gates t) (drop (gates_from t) t) (omega (arith, within)))

  rows-behind : (k q : ℕ) → q ≡ n + 3 * (gate - first_gate (inputs t)) + 3 → k ≡ n + 3 * gates t - q
      → rows_of (take k (drop q t)) ≡ gates_behind (decode t) gate
  rows-behind k q hq hk =
      let i = gate - first_gate (inputs t) + 1 in
      let m = gates t - i in
      let at : gates_from t + 3 * i ≡ q = omega (arith, hn, hq) in
      rows-taken k m (drop q t) (omega (arith, hn, hk, at, within)) (omega (arith, hn, hk, length-drop q t, w.sized))
      ∙ ap (lines_of m) (ap (λ j. drop j t) (sym at) ∙ sym (drop-drop (3 * i) (gates_from t) t))
      ∙ sym (lines-drop i m (gates t) (drop (gates_from t) t) (omega (arith, within)))

  all-below : OperandsBelow max_references (gate_lines t)
  all-below = ordered-below max_references (first_gate (inputs t)) (gate_lines t) (valid-decode t w).ordered (omega (arith, gates-length t, w.sized))

-- the right gates as rows of the rules' table, the rule being at place p
module _ (rules : List ℕ) (p : ℕ) (r : WellFormedRule rules p) where
  abbrev right_gates : List Gate
  right_gates = (rule_at rules p).rights

  rows-right : (from k : ℕ) → from ≡ right_from rules p → k ≡ 3 * rights_at rules p → rows_of (take k (drop from rules)) ≡ right_gates
  rows-right from k h hk =
      rows-taken k (rights_at rules p) (drop from rules) hk (omega (arith, hk, length-drop from rules, h, r.sized))
      ∙ ap (λ j. lines_of (rights_at rules p) (drop j rules)) h

  right-length : length right_gates ≡ rights_at rules p
  right-length = lines-length (rights_at rules p) (drop (right_from rules p) rules)

  right-below : OperandsBelow (first_gate (holes_at rules p) + max_rights) right_gates
  right-below =
      let base = first_gate (holes_at rules p) in
      ordered-below (base + max_rights) base right_gates
      (ordered_of base right_gates (all-each operands_below base right_gates (right-references-ok rules p r))) (omega (arith, right-length, r.sized))

-- The code's three slices are the parts, where it read the other numbers of circuit and rule.
pub parts-read : (t : List ℕ) → WellFormed t → (gate : ℕ) → is_gate (decode t) gate ≡ true
    → (rules : List ℕ) (p : ℕ) → WellFormedRule rules p → is_too_large (decode t) (rule_at rules p) ≡ false
    → (table : List ℕ) (n m first from count base : ℕ) → table ≡ t → n ≡ gates_from t → m ≡ gates t → first ≡ first_gate (inputs t)
    → from ≡ right_from rules p → count ≡ rights_at rules p → base ≡ first_gate (holes_at rules p)
    → Parts t (rule_at rules p) gate base count n
    (rows_of (take (n + 3 * (gate - first) - n) (drop n table)))
    (rows_of (take (from + 3 * count - from) (drop from rules)))
    (rows_of (take (n + 3 * m - (n + 3 * (gate - first) + 3)) (drop (n + 3 * (gate - first) + 3) table)))
parts-read t w gate g rules p r small table n m first from count base et hn hm hf hr hc hb =
    let from-gate = lo t gate g in
    let to-gate = hi t gate g in
    let before : rows_of (take (n + 3 * (gate - first) - n) (drop n t)) ≡ gates_before (decode t) gate =
    rows-before t w gate g n hn _ (omega (arith, hf)) in
    let right : rows_of (take (from + 3 * count - from) (drop from rules)) ≡ (rule_at rules p).rights =
    rows-right rules p r from _ hr (omega (arith, hc)) in
    let behind : rows_of (take (n + 3 * m - (n + 3 * (gate - first) + 3)) (drop (n + 3 * (gate - first) + 3) t)) ≡ gates_behind (decode t) gate =
    rows-behind t w gate g n hn _ _ (omega (arith, hf)) (omega (arith, hm)) in
    let all = all-below t w gate g n hn in
    rw et (record {
      sized = w.sized;
      starts-limit = omega (arith, starts-are-inputs t w, w.sized);
      gate-lowest = from-gate;
      gate-limit = omega (arith, to-gate, gates-length t);
      gates-limit = omega (
        arith,
        ltb-false (max_gates + 1) (length (gate_lines t) + length (rule_at rules p).rights) small,
        gates-length t,
        right-length rules p r,
        hc,
      );
      base-limit = omega (arith, r.sized, hb);
      count-limit = omega (arith, r.sized, hc);
      closing-limit = omega (arith, closing-below rules p r, r.sized, hb);
      place = hn;
      base-is = hb;
      before = before;
      right = right;
      behind = behind;
      before-long = omega (arith, ap length before, before-length (decode t) gate from-gate to-gate);
      right-long = omega (arith, ap length right, right-length rules p r, hc);
      behind-long = omega (arith, ap length behind, behind-length (decode t) gate from-gate to-gate, gates-length t);
      before-below = rw before (below-take max_references (gate - first_gate (inputs t)) (gate_lines t) all);
      right-below = rw (right, hb) (right-below rules p r);
      behind-below = rw behind (below-drop max_references (gate - first_gate (inputs t) + 1) (gate_lines t) all);
    })

module _ (t : List ℕ) (w : WellFormed t) (u : Rule) (gate : ℕ) (g : is_gate (decode t) gate ≡ true) (base count n : ℕ) (xs ys zs : List Gate)
    (k : Parts t u gate base count n xs ys zs) (b : List ℕ) where
  count_is : count ≡ length u.rights
  count_is = sym k.right-long ∙ ap length k.right

  pub replace-room : length (encode (replace (decode t) u gate b)) ≤ max_table
  unfolding replace
  replace-room =
      omega (
        arith,
        encode-lines-length (replace (decode t) u gate b),
        starts-length t,
        replace-length (decode t) gate (lo t gate g) (hi t gate g) u b,
        gates-length t,
        count_is,
        length-map (decode t).outputs (renaming u gate b),
        outputs-length t,
        k,
      )

  -- Five stores in a row make d begin with the replaced circuit's table: the head and the starting lines, the gates before the site's, the right
  -- gates, the gates behind it, and the closing lines. The last four begin at n, p, q and r.
  pub replace-stores : (m closing s : ℕ) → m ≡ gates t → closing ≡ u.closing → s ≡ instance_of base gate b closing
      → (d d₁ d₂ d₃ d₄ d₅ : List ℕ) (p q r : ℕ) → max_table ≤ length d
      → d₁ ≡ over (front_lines (decode t) (m - 1 + count)) d
      → d₂ ≡ sets d₁ n (renamed_lines (renumber gate s count) xs) → p ≡ n + 3 * length xs
      → d₃ ≡ sets d₂ p (renamed_lines (instance_of base gate b) ys) → q ≡ p + 3 * length ys
      → d₄ ≡ sets d₃ q (renamed_lines (renumber gate s count) zs) → r ≡ q + 3 * length zs
      → d₅ ≡ sets d₄ r (renumbered_closings gate s count (decode t).outputs)
      → d₅ ≡ over (encode (replace (decode t) u gate b)) d
  replace-stores m closing s hm hu x d d₁ d₂ d₃ d₄ d₅ p q r room e₁ e₂ hp e₃ hq e₄ hr e₅ =
      let fs = front t u gate b g in
      let gs = encode_lines (before t u gate b g) in
      let rs = encode_lines (rights t u gate b g) in
      let hs = encode_lines (behind t u gate b g) in
      let os = closings t u gate b g in
      let z : s ≡ right_renaming u gate b u.closing = x ∙ ap₂ (λ i j. instance_of i gate b j) k.base-is hu in
      let f : front_lines (decode t) (m - 1 + count) ≡ fs = ap₂ (λ i j. front_lines (decode t) (i - 1 + j)) hm count_is in
      let v₁ : renamed_lines (renumber gate s count) xs ≡ gs =
      ap₂ (λ i j. renamed_lines (renumber gate i j) xs) z count_is ∙ ap (renamed_lines (renaming u gate b)) k.before
      ∙ ap encode_lines (before-part t u gate b g (valid-decode t w).ordered) in
      let v₂ : renamed_lines (instance_of base gate b) ys ≡ rs =
      ap₂ (λ i l. renamed_lines (instance_of i gate b) l) k.base-is k.right in
      let v₃ : renamed_lines (renumber gate s count) zs ≡ hs =
      ap₂ (λ i j. renamed_lines (renumber gate i j) zs) z count_is ∙ ap (renamed_lines (renaming u gate b)) k.behind in
      let v₄ : renumbered_closings gate s count (decode t).outputs ≡ os =
      ap₂ (λ i j. renumbered_closings gate i j (decode t).outputs) z count_is in
      let all = replace-lines t u gate b g in
      four-behind fs gs rs hs os d d₁ d₂ d₃ d₄ d₅ n p q r (front_length t u gate b g ∙ sym k.place)
      (omega (arith, hp, ap length v₁, renamed-length (renumber gate s count) xs))
      (omega (arith, hq, ap length v₂, renamed-length (instance_of base gate b) ys))
      (omega (arith, hr, ap length v₃, renamed-length (renumber gate s count) zs))
      (omega (arith, room, ap length all, replace-room))
      (e₁ ∙ ap (λ l. over l d) f) (e₂ ∙ ap (sets d₁ n) v₁) (e₃ ∙ ap (sets d₂ p) v₂) (e₄ ∙ ap (sets d₃ q) v₃) (e₅ ∙ ap (sets d₄ r) v₄)
      ∙ ap (λ l. over l d) (sym all)

  -- where the last of them ends, the replaced table ends
  pub replace-end : (p q r : ℕ) → p ≡ n + 3 * length xs → q ≡ p + 3 * length ys → r ≡ q + 3 * length zs
      → r + 3 * outputs t ≡ length (encode (replace (decode t) u gate b))
  unfolding replace
  replace-end p q r hp hq hr =
      omega (
        arith,
        encode-lines-length (replace (decode t) u gate b),
        starts-length t,
        replace-length (decode t) gate (lo t gate g) (hi t gate g) u b,
        gates-length t,
        count_is,
        length-map (decode t).outputs (renaming u gate b),
        outputs-length t,
        k,
      )
