-- Rules tables and the rules that they say, there and back. Assumes nothing.
use mathlib.Core.Path.{◌≡◌, refl, sym, ap, ap₂, ◌∙◌}
use mathlib.Core.Bool.{true}
use mathlib.Core.List.{List, [], ◌∷◌, ◌++◌, append_assoc}
use Prim.Native.Nat.{ℕ, zero, suc, ◌+◌, ◌*◌, ◌-◌, ◌≤◌, ◌<◌}
use native.Mathlib.Nat.{add-zero, not-suc-le-zero, le_of_suc-le-suc}
use native.Mathlib.Omega.{arith}
use lib.Dec.{eqb}
use lib.ListN.{length, drop, get_or, length-drop, take-append-drop, drop_of_length-le}
use lib.Seq.{drop_at, drop-drop, get_or-drop}
use borrow.Author.Tests.{eqb-true}
use Rattle.lists.proofs.Tests.{left-of, right_of}
use Rattle.circuit.specs.Circuit.{Gate, closing_kind}
use Rattle.circuit.specs.Table.{line_at, lines_of, closing_line, encode_lines}
use Rattle.circuit.specs.Each.{all_gates}
use Rattle.circuit.specs.Refusal.{has_gate_kind, is_closing}
use Rattle.circuit.proofs.TableLaws.{headed, line-drop, lines-length}
use Rattle.circuit.proofs.EncodingLaws.{encode-append, encode-length, lines-encode, encode-lines}
use Rattle.rules.specs.Rule.{Rule}
use Rattle.rules.specs.RuleTable.{rule_count, rules_from, holes_at, lefts_at, rights_at, left_from, right_from, closing_from, next_rule, rule_at, place_from, rules_at, head_line, rule_lines, rules_lines, encode_rules}
use Rattle.rules.specs.RuleRefusal.{walk, rule_kinds_ok, all_rules}
use Rattle.rules.specs.WellFormed.{RuleSized}
use Rattle.rules.specs.Theorems.{DecodeAfterEncodeRules, EncodeAfterDecodeRules}
use Rattle.rules.proofs.WalkLaws.{walk_here, walk_end, place-front}

-- ---- the list of rules

pub rules-length : (t : List ℕ) (n p : ℕ) → length (rules_at t n p) ≡ n
unfolding rules_at
rules-length t zero p = refl
rules-length t (suc n) p = ap suc (rules-length t n (next_rule t p))

pub rules-element : (t : List ℕ) (n p k : ℕ) (z : Rule) → k < n → get_or (rules_at t n p) k z ≡ rule_at t (place_from t p k)
unfolding rules_at place_from
rules-element t zero p k z h = absurd (not-suc-le-zero h)
rules-element t (suc n) p zero z h = refl
rules-element t (suc n) p (suc k) z h = rules-element t n (next_rule t p) k z (le_of_suc-le-suc h) ∙ ap (rule_at t) (sym (place-front t p k))

-- ---- rules to lines and back

module _ (t : List ℕ) where
  -- what stands behind lines
  behind : (q : ℕ) (xs : List Gate) (rest : List ℕ) → drop q t ≡ encode_lines xs ++ rest → drop (q + 3 * length xs) t ≡ rest
  behind q xs rest e =
      sym (drop-drop (3 * length xs) q t) ∙ ap (drop (3 * length xs)) e ∙ drop_at (encode_lines xs) rest (3 * length xs) (encode-length xs)

  lines-here : (q : ℕ) (xs : List Gate) (rest : List ℕ) → drop q t ≡ encode_lines xs ++ rest → lines_of (length xs) (drop q t) ≡ xs
  lines-here q xs rest e = ap (lines_of (length xs)) e ∙ lines-encode xs rest

  number-here : (q i : ℕ) (xs : List ℕ) → drop q t ≡ xs → get_or t (q + i) 0 ≡ get_or xs i 0
  number-here q i xs e = sym (get_or-drop q t i 0) ∙ ap (λ l. get_or l i 0) e

  parts : (u : Rule) (rest : List ℕ)
      → encode_lines (rule_lines u) ++ rest
      ≡ encode_lines (head_line u ∷ []) ++ (encode_lines u.lefts ++ (encode_lines u.rights ++ (encode_lines (closing_line u.closing ∷ []) ++ rest)))
  unfolding encode_lines
  parts u rest =
      ap (λ l. u.holes ∷ length u.lefts ∷ length u.rights ∷ (l ++ rest))
      (encode-append u.lefts (u.rights ++ (closing_line u.closing ∷ [])) ∙ ap (λ l. encode_lines u.lefts ++ l) (encode-append u.rights (closing_line u.closing ∷ [])))
      ∙ ap (λ l. u.holes ∷ length u.lefts ∷ length u.rights ∷ l) (simp append_assoc)

  rule-read : (u : Rule) (p : ℕ) (rest : List ℕ) → drop p t ≡ encode_lines (rule_lines u) ++ rest → (rule_at t p ≡ u) × (drop (next_rule t p) t ≡ rest)
  unfolding encode_lines
  rule-read u p rest e =
      let d0 = e ∙ parts u rest in
      let d1 = behind p (head_line u ∷ []) _ d0 in
      let d2 = behind (p + 3) u.lefts _ d1 in
      let d3 = behind (p + 3 + 3 * length u.lefts) u.rights _ d2 in
      let d4 = behind (p + 3 + 3 * length u.lefts + 3 * length u.rights) (closing_line u.closing ∷ []) _ d3 in
      let h : holes_at t p ≡ u.holes = ap (λ k. get_or t k 0) (sym (add-zero p)) ∙ number-here p 0 _ d0 in
      let a : lefts_at t p ≡ length u.lefts = number-here p 1 _ d0 in
      let b : rights_at t p ≡ length u.rights = number-here p 2 _ d0 in
      let c : get_or t (p + 3 + 3 * length u.lefts + 3 * length u.rights + 1) 0 ≡ u.closing = number-here _ 1 _ d3 in (
        ap₂ (λ x y. rule (holes_at t p) x y) a b ∙ ap (λ k. rule k (length u.lefts) (length u.rights)) h
            ∙ ap₂ (λ ls rs. record { holes = u.holes; lefts = ls; rights = rs; closing = get_or t (p + 3 + 3 * length u.lefts + 3 * length u.rights + 1) 0 })
            (lines-here (p + 3) u.lefts _ d1) (lines-here (p + 3 + 3 * length u.lefts) u.rights _ d2)
            ∙ ap (λ k. record { holes = u.holes; lefts = u.lefts; rights = u.rights; closing = k }) c,
        ap₂ (λ x y. drop (p + 3 + 3 * x + 3 * y + 3) t) a b ∙ d4,
      )
    where
      rule : (holes lefts rights : ℕ) → Rule
      rule k x y =
          record {
            holes = k;
            lefts = lines_of x (drop (p + 3) t);
            rights = lines_of y (drop (p + 3 + 3 * x) t);
            closing = get_or t (p + 3 + 3 * x + 3 * y + 1) 0;
          }

  rules-read : (us : List Rule) (p : ℕ) → drop p t ≡ encode_lines (rules_lines us) → rules_at t (length us) p ≡ us
  unfolding rules_at rules_lines
  rules-read [] p e = refl
  rules-read (u ∷ us) p e =
      let r = rule-read u p (encode_lines (rules_lines us)) (e ∙ encode-append (rule_lines u) (rules_lines us)) in
      ap₂ ◌∷◌ r.0 (rules-read us (next_rule t p) r.1)

pub decode-after-encode-rules : DecodeAfterEncodeRules
unfolding encode_rules
decode-after-encode-rules us = rules-read (encode_rules us) us 3 refl

-- ---- lines to rules and back

module _ (t : List ℕ) where
  lines-back : (n q : ℕ) → q + 3 * n ≤ length t → encode_lines (lines_of n (drop q t)) ++ drop (q + 3 * n) t ≡ drop q t
  lines-back n q h =
      ap₂ ◌++◌ (encode-lines n (drop q t) (omega (arith, length-drop q t))) (sym (drop-drop (3 * n) q t)) ∙ take-append-drop (3 * n) (drop q t)

  line-back : (q : ℕ) → q + 3 ≤ length t → encode_lines (line_at t q ∷ []) ++ drop (q + 3) t ≡ drop q t
  unfolding lines_of
  line-back q h =
      ap (λ g. encode_lines (g ∷ []) ++ drop (q + 3) t) (ap (line_at t) (sym (add-zero q)) ∙ sym (line-drop q 0 t)) ∙ lines-back 1 q h

  rule-back : (p : ℕ) → RuleSized t p → is_closing 0 (line_at t (closing_from t p)) ≡ true → encode_lines (rule_lines (rule_at t p)) ++ drop (next_rule t p) t ≡ drop p t
  rule-back p s c =
      let u = rule_at t p in
      let q = closing_from t p in
      let k3 : get_or t q 0 ≡ closing_kind = eqb-true _ _ (left-of (eqb (get_or t q 0) closing_kind) (eqb (get_or t (q + 2) 0) 0) c) in
      let k0 : get_or t (q + 2) 0 ≡ 0 = eqb-true _ _ (right_of (eqb (get_or t q 0) closing_kind) (eqb (get_or t (q + 2) 0) 0) c) in
      let head : head_line u ≡ line_at t p =
      ap₂ (λ x y. record { kind = holes_at t p; left = x; right = y }) (lines-length (lefts_at t p) (drop (left_from t p) t)) (lines-length (rights_at t p) (drop (right_from t p) t)) in
      let last : closing_line u.closing ≡ line_at t q = ap₂ (λ x y. record { kind = x; left = get_or t (q + 1) 0; right = y }) (sym k3) (sym k0) in
      parts t u (drop (next_rule t p) t)
      ∙ ap₂ (λ x y. encode_lines (x ∷ []) ++ (encode_lines u.lefts ++ (encode_lines u.rights ++ (encode_lines (y ∷ []) ++ drop (next_rule t p) t)))) head last
      ∙ ap (λ l. encode_lines (line_at t p ∷ []) ++ (encode_lines u.lefts ++ (encode_lines u.rights ++ l))) (line-back q s.long)
      ∙ ap (λ l. encode_lines (line_at t p ∷ []) ++ (encode_lines u.lefts ++ l)) (lines-back (rights_at t p) (right_from t p) (omega (arith, s.long)))
      ∙ ap (λ l. encode_lines (line_at t p ∷ []) ++ l) (lines-back (lefts_at t p) (left_from t p) (omega (arith, s.long)))
      ∙ line-back p (omega (arith, s.long))

  rules-back : (n p : ℕ) → walk t n p ≡ 0 → all_rules (rule_kinds_ok t) t n p ≡ true → encode_lines (rules_lines (rules_at t n p)) ≡ drop p t
  unfolding rules_at rules_lines all_rules encode_lines place_from
  rules-back zero p w k = let e : p ≡ length t = walk_end t 0 p w in sym (drop_of_length-le t {i = p} (omega arith))
  rules-back (suc n) p w k =
      let (s, v) = walk_here t (suc n) p (omega arith) w in
      let e : suc n - 1 ≡ n = omega arith in
      let f = left-of (rule_kinds_ok t p) (all_rules (rule_kinds_ok t) t n (next_rule t p)) k in
      let g = right_of (rule_kinds_ok t p) (all_rules (rule_kinds_ok t) t n (next_rule t p)) k in
      let ks = right_of (all_gates has_gate_kind 0 (rule_at t p).lefts) _ f in
      encode-append (rule_lines (rule_at t p)) (rules_lines (rules_at t n (next_rule t p)))
      ∙ ap (λ l. encode_lines (rule_lines (rule_at t p)) ++ l) (rules-back n (next_rule t p) (rw e at v) g)
      ∙ rule-back p s (right_of (all_gates has_gate_kind 0 (rule_at t p).rights) _ ks)

pub encode-after-decode-rules : EncodeAfterDecodeRules
unfolding encode_rules
encode-after-decode-rules t w =
    let s = w.sized in
    ap₂ (λ n l. n ∷ 0 ∷ 0 ∷ l) (rules-length t (rule_count t) (rules_from t)) (rules-back t (rule_count t) (rules_from t) s.walked w.kinds)
    ∙ ap₂ (λ x y. get_or t 0 0 ∷ x ∷ y ∷ drop 3 t) (sym s.second-zero) (sym s.third-zero)
    ∙ headed t s.head-there
