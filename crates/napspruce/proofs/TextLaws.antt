-- Texts: their refusals, and the table that is read of a text's first lines. Assumes nothing.
use mathlib.Core.Path.{◌≡◌, refl, sym, ap, ap₂, ◌∙◌}
use mathlib.Core.Bool.{true, not}
use mathlib.Core.List.{List, [], ◌∷◌, ◌++◌, append_assoc}
use Prim.Native.Nat.{ℕ, min, ◌+◌, ◌-◌, ◌*◌, ◌/◌, ◌≤◌, ◌<◌}
use native.Mathlib.Decide.{dec_lt}
use native.Mathlib.Omega.{arith}
use lib.Dec.{ltb}
use lib.ListN.{length, take, drop, length-append, length-drop}
use lib.Seq.{take_all, take_at, length-take-le}
use borrow.Author.Tests.{lt-ltb, le-ltb}
use Rattle.std.specs.Prelude.{Option, Result as Returned, Ok, Err, IsErrAnd, MatchResult}
use Rattle.std.proofs.lemmas.Result.{err_from_is_err_and}
use Rattle.lists.specs.First.{first}
use Rattle.lists.specs.Records.{map_records, all_records}
use Rattle.lines.specs.Number.{read_number, is_number}
use Rattle.lines.specs.Line.{is_line, read_line}
use Rattle.lines.specs.Text.{read_text}
use Rattle.lines.specs.declared.refusing.Refusal.{Refusal as GivenRefusal}
use Rattle.lines.specs.declared.refusing.Table.{Table}
use Rattle.lines.specs.Refusal.{refused, gives, reason_number, table_number, found_by, paper_values}
use Rattle.lines.specs.Checks.{found, first_found}
use Rattle.lines.specs.Calls.{over, line_checks, validation, validating}
use Rattle.lines.proofs.CheckLaws.{check-passes, found_here, found-later, found_none, passed, none_found, reason-some, answer-given, answer-turned}
use Rattle.lines.proofs.CallLaws.{Valid, valid-passed}
use Rattle.lines.proofs.TextLaws.{front-valid, front_reads, behind-right, behind-numbers, first-right, first-number, numbers-length}
use Rattle.circuit.specs.Circuit.{max_inputs, start_kind}
use Rattle.circuit.specs.Table.{start_run, starts, gates_from}
use Rattle.circuit.proofs.StartRunLaws.{run_step, run-stop, run_end, run_fits}
use Rattle.circuit.proofs.BufferLaws.{over-take}
use Rattle.napspruce.specs.ListingCall.{text_refusal}
use Rattle.napspruce.specs.Front.{front, cut, starts_read, rest_read, shortened}

-- ---- refusals

module _ (text : List ℕ) where
  pub accepted-text : text_refusal text ≡ 0 → Valid 19 is_line text (length text / 19)
  unfolding text_refusal
  accepted-text h = valid-passed 19 is_line text (passed (line_checks 19 is_line text) h)

  pub valid-text : (n : ℕ) → Valid 19 is_line text n → text_refusal text ≡ 0
  unfolding text_refusal
  valid-text n v =
      let right : all_records is_line 19 (length text / 19) text ≡ true = rw (← v.whole.count) v.right in
      none_found (line_checks 19 is_line text) (check-passes _ 1 _ v.not-partial, (check-passes _ 3 _ (ap not right), tt))

  pub text-valid : (n : ℕ) → validating text ≡ gives (n ∷ []) → 0 ≡ text_refusal text
  unfolding text_refusal validation
  text-valid n e = sym (none_found (line_checks 19 is_line text) (answer-given (line_checks 19 is_line text) _ _ e).0)

  pub text-refused : (k t : ℕ) → validating text ≡ refused k t → k ≡ text_refusal text
  unfolding text_refusal validation
  text-refused k t e = ap (λ r. r.number) (answer-turned (line_checks 19 is_line text) _ k t e).0

  -- Its own refusal is that of the table that is to be read of it, which `map_err` names.
  pub text-checked : (w r : Returned ℕ GivenRefusal) (table : Option Table)
      → MatchResult w (λ n. r ≡ Ok n) (λ e. IsErrAnd r (λ d. d ≡ record { reason = e.reason; table = table }))
      → paper_values w ≡ validating text → found_by r ≡ first_found (found (text_refusal text) (table_number table) ∷ [])
  text-checked (Ok n) r table made told = found-later _ _ [] _ 0 (text-valid n (sym told)) refl (ap found_by made ∙ found_none)
  text-checked (Err e) r table made told =
      let p = err_from_is_err_and r made in
      found_here _ _ [] _ (reason_number e.reason) (text-refused _ _ (sym told)) (reason-some e.reason) (ap found_by (p.1 ∙ ap Err p.2))

-- ---- a text that is cut

module _ (most : ℕ) (text : List ℕ) (h : text_refusal text ≡ 0) where
  valid-whole : Valid 19 is_line text (length text / 19)
  valid-whole = accepted-text text h

  uncut : length text / 19 < most + 1 → cut most text ≡ text
  uncut l = take_all (19 * (most + 1)) text (omega (arith, valid-whole.whole.long))

  pub cut-accepted : text_refusal (cut most text) ≡ 0
  cut-accepted =
      elim (dec_lt (length text / 19) (most + 1)) [
        | yes l ↦ ap text_refusal (uncut l) ∙ h
        | no l ↦ valid-text (cut most text) (most + 1) (front-valid text _ valid-whole (most + 1) (omega arith) (omega arith))
      ]

  pub cut-read : read_text (cut most text) ≡ front most (read_text text)
  cut-read =
      elim (dec_lt (length text / 19) (most + 1)) [
        | yes l ↦ ap read_text (uncut l) ∙ sym (take_all (3 * (most + 1)) (read_text text) (omega (arith, numbers-length text _ valid-whole)))
        | no l ↦ front_reads text _ valid-whole (most + 1) (omega arith) (omega arith)
      ]

-- ---- a circuit's text

min-first : (a b : ℕ) → min a b ≡ first (ltb a b) a b
min-first a b =
    elim (dec_lt a b) [
      | yes l ↦ rw (lt-ltb a b l) (omega arith)
      | no l ↦ rw (le-ltb a b (omega arith)) (omega arith)
    ]

-- its starting lines are counted, and line i is next
abbrev pub StartsTo : (text : List ℕ) (i : ℕ) → Type 0
StartsTo text i = (1 ≤ i) × (i ≤ length text / 19) × (i + start_run (drop (3 * i) (read_text text)) ≡ 1 + starts (read_text text))

module _ (text : List ℕ) (h : text_refusal text ≡ 0) where
  abbrev lines : ℕ
  lines = length text / 19

  abbrev t : List ℕ
  t = read_text text

  valid-lines : Valid 19 is_line text lines
  valid-lines = accepted-text text h

  pub numbers-long : length t ≡ 3 * lines
  numbers-long = numbers-length text lines valid-lines

  pub starts_none : StartsTo text 1
  starts_none = (omega arith, valid-lines.whole.some, refl)

  module _ (i : ℕ) (s : StartsTo text i) where
    pub line-there : i < lines → (19 * i + 6 ≤ length text) × (is_number (drop (19 * i) text) ≡ true)
    line-there l = (omega (arith, valid-lines.whole.long), first-right text lines valid-lines i l)

    pub starts_more : i < lines → read_number (drop (19 * i) text) ≡ start_kind → StartsTo text (i + 1)
    starts_more l e =
        let n = run_step t (3 * i) (omega (arith, numbers-long)) (first-number text lines valid-lines i l ∙ e) in
        let p : 3 * i + 3 ≡ 3 * (i + 1) = omega arith in
        (omega (arith, s.0), omega arith, omega (arith, s.2, n, ap (λ k. start_run (drop k t)) p))

    pub starts-stop : i < lines → (read_number (drop (19 * i) text) ≡ start_kind → ⊥) → i - 1 ≡ starts t
    starts-stop l e = omega (arith, s.0, s.2, run-stop t (3 * i) (omega (arith, numbers-long)) (λ q. e (sym (first-number text lines valid-lines i l) ∙ q)))

    pub starts-end : lines ≤ i → i - 1 ≡ starts t
    starts-end l = omega (arith, s.0, s.2, run_end t (3 * i) (omega (arith, numbers-long)))

  -- lines from line k on, of which at most `most` are read
  module _ (k most count : ℕ) (there : 3 * k ≤ length t) (c : count ≡ min most (lines - k)) where
    some-lines : (count ≤ most) × (k + count ≤ lines)
    some-lines = (omega (arith, c), omega (arith, c, there, numbers-long))

    pub behind-lines : (count ≤ most) × (19 * k ≤ length text) × (19 * count ≤ length (drop (19 * k) text)) × (all_records is_line 19 count (drop (19 * k) text) ≡ true)
    behind-lines = (
      some-lines.0,
      omega (arith, some-lines, valid-lines.whole.long),
      omega (arith, some-lines, valid-lines.whole.long, length-drop (19 * k) text),
      behind-right text lines valid-lines k count some-lines.1,
    )

    behind-same : take (3 * count) (drop (3 * k) t) ≡ take (3 * most) (drop (3 * k) t)
    behind-same =
        elim (dec_lt (lines - k) most) [
          | yes l ↦
              let n : length (drop (3 * k) t) ≡ 3 * (lines - k) = length-drop (3 * k) t ∙ omega (arith, numbers-long) in
              take_all (3 * count) (drop (3 * k) t) (omega (arith, c)) ∙ sym (take_all (3 * most) (drop (3 * k) t) (omega arith))
          | no l ↦ let e : count ≡ most = omega (arith, c) in ap (λ j. take (3 * j) (drop (3 * k) t)) e
        ]

    pub behind-count : 3 * count ≡ length (take (3 * most) (drop (3 * k) t))
    behind-count =
        sym (ap length (sym behind-same) ∙ length-take-le (3 * count) (drop (3 * k) t) (omega (arith, some-lines, numbers-long, length-drop (3 * k) t)))

    -- the text behind its first k lines, as code lends it
    pub behind-lent : take (length text - 19 * k) (drop (19 * k) text) ≡ drop (19 * k) text
    behind-lent = take_all (length text - 19 * k) (drop (19 * k) text) (omega (arith, length-drop (19 * k) text))

    -- what `read_lines` leaves of it
    pub behind-read : (table after : List ℕ)
        → after ≡ map_records read_line 19 count (take (length text - 19 * k) (drop (19 * k) text)) ++ drop (3 * count) table
        → after ≡ over (take (3 * most) (drop (3 * k) t)) table
    behind-read table after e =
        e ∙ ap₂ (λ y j. map_records read_line 19 count y ++ drop j table) behind-lent behind-count
        ∙ ap (λ x. x ++ drop (length (take (3 * most) (drop (3 * k) t))) table) (behind-numbers text lines valid-lines k count some-lines.1 ∙ behind-same)

  -- the two parts together: n starting lines, of which k are read
  module _ (n k : ℕ) (e : n ≡ starts t) (f : k ≡ min n (max_inputs + 1)) where
    pub starts_fit : 3 * (1 + n) ≤ length t
    starts_fit = omega (arith, e, run_fits (drop 3 t), length-drop 3 t, numbers-long, valid-lines.whole.some)

    parts : take (3 * (1 + k)) t ++ take (3 * rest_read) (drop (3 * (1 + n)) t) ≡ shortened t
    parts =
        let p : 3 * (1 + n) ≡ gates_from t = omega (arith, e) in
        ap₂ (λ i j. take (3 * (1 + i)) t ++ take (3 * rest_read) (drop j t)) (f ∙ min-first n (max_inputs + 1) ∙ ap starts_read e) p

    -- the first with the second put behind it
    pub parts-put : (d table part room behind : List ℕ) (end count : ℕ) → end ≡ length (take (3 * (1 + k)) t) → d ≡ over (take (3 * (1 + k)) t) table
        → count ≡ length (take (3 * rest_read) (drop (3 * (1 + n)) t)) → part ≡ over (take (3 * rest_read) (drop (3 * (1 + n)) t)) room
        → take (end + count) (take end d ++ (part ++ behind)) ≡ shortened t
    parts-put d table part room behind end count l e₁ m e₂ =
        let x = take (3 * (1 + k)) t in
        let y = take (3 * rest_read) (drop (3 * (1 + n)) t) in
        let r = drop (length y) room in
        ap₂ (λ u v. take (end + count) (u ++ (v ++ behind))) (ap (take end) e₁ ∙ over-take x table end (sym l)) e₂
        ∙ ap (take (end + count)) (ap (λ u. x ++ u) (append_assoc y r behind) ∙ sym (append_assoc x y (r ++ behind)))
        ∙ take_at (x ++ y) (r ++ behind) (end + count) (length-append x y ∙ sym (ap₂ ◌+◌ l m)) ∙ parts
