-- A rules table is well formed exactly if it is not refused; and what a reader of a well-formed table knows of each rule and each
-- of its lines. Assumes nothing.
use mathlib.Core.Path.{◌≡◌, refl, sym, ap, ◌∙◌}
use mathlib.Core.Bool.{Bool, true, false, not, ◌&&◌, ◌||◌}
use mathlib.Core.List.{List}
use Prim.Native.Nat.{ℕ, zero, suc, ◌+◌, ◌*◌, ◌-◌, ◌%◌, ◌≤◌, ◌<◌}
use native.Mathlib.Omega.{arith}
use lib.Dec.{eqb, ltb}
use lib.ListN.{length, drop, get_or}
use borrow.Author.Tests.{eq-eqb, ne_eqb, eqb-true, eqb-false, ltb-true, not-false}
use Rattle.lists.specs.First.{first}
use Rattle.lists.proofs.First.{first-true}
use Rattle.lists.proofs.Tests.{left-of, right_of}
use Rattle.lines.specs.Text.{is_partial}
use Rattle.circuit.specs.Circuit.{first_gate}
use Rattle.circuit.specs.Table.{line_at}
use Rattle.circuit.specs.Each.{all_gates}
use Rattle.circuit.specs.Refusal.{has_gate_kind, is_closing, operands_below}
use Rattle.circuit.proofs.TableLaws.{lines-length}
use Rattle.circuit.proofs.EachLaws.{all-each}
use Rattle.circuit.proofs.ValidLaws.{ordered_of}
use Rattle.circuit.proofs.RefusalLaws.{passed}
use Rattle.rules.specs.RuleTable.{rule_count, rules_from, holes_at, lefts_at, rights_at, left_from, right_from, closing_from, next_rule, rule_at, place_from, place_of}
use Rattle.rules.specs.RuleRefusal.{rules_head_in_limits, rule_in_limits, walk, walk_from_top, all_rules, rule_kinds_ok, references_ok, uses_ok, rules_kinds_ok, rules_references_ok, rules_uses_ok, rules_refusal}
use Rattle.rules.specs.WellFormed.{RulesSized, WellFormedRule, ValidRule, WellFormedRules}
use Rattle.rules.specs.Rule.{max_left_references}
use Rattle.rules.specs.Verdict.{has_rule}
use Rattle.rules.specs.Theorems.{AcceptedRulesAreWellFormed, EachRuleIsWellFormed}
use Rattle.rules.proofs.WalkLaws.{walk-pass, walk-all, walk_end, walk_top, rules-more, rules-none, rules-sized-of, walk-sized, walk_at, rules-at, rule-from, rule-to}
use Rattle.rules.proofs.LineLaws.{operands-at, each_from}

-- ---- whole lines

-- what refusal 1 leaves
pub whole-lines : (t : List ℕ) → is_partial 3 t ≡ false → (3 ≤ length t) × (length t % 3 ≡ 0)
unfolding is_partial
whole-lines t h = go (eqb (length t) 0) (eqb (length t % 3) 0) refl refl h
  where
    three : (n : ℕ) → n % 3 ≡ 0 → (n ≡ 0 → ⊥) → 3 ≤ n
    three zero m n = absurd (n refl)
    three (suc k) m n = omega arith

    go : (a b : Bool) → eqb (length t) 0 ≡ a → eqb (length t % 3) 0 ≡ b → (a || not b) ≡ false → (3 ≤ length t) × (length t % 3 ≡ 0)
    go true b e f h = let z : ◌≡◌ {A = ℕ} 0 1 = cc in absurd (omega arith)
    go false true e f h =
        let m : length t % 3 ≡ 0 = eqb-true _ _ f in
        (three (length t) m (eqb-false (length t) 0 e), m)
    go false false e f h = let z : ◌≡◌ {A = ℕ} 0 1 = cc in absurd (omega arith)

-- and a table of whole lines, at least one, passes it
pub whole-passes : (t : List ℕ) → 1 ≤ length t → length t % 3 ≡ 0 → is_partial 3 t ≡ false
unfolding is_partial
whole-passes t h e =
    let a : eqb (length t) 0 ≡ false = ne_eqb (length t) 0 (λ z. omega arith) in
    let b : eqb (length t % 3) 0 ≡ true = eq-eqb (length t % 3) 0 e in
    rw (a, b)

module _ (t : List ℕ) where
  -- rules begin at lines
  place-line : (p k : ℕ) → p % 3 ≡ 0 → place_from t p k % 3 ≡ 0
  unfolding place_from
  place-line p zero h = h
  place-line p (suc k) h = let ih = place-line p k h in omega arith

  pub rules-whole : RulesSized t → is_partial 3 t ≡ false
  rules-whole s =
      let e = walk_end t (rule_count t) (rules_from t) s.walked in
      whole-passes t (omega (arith, s.head-there)) (ap (λ n. n % 3) (sym e) ∙ place-line (rules_from t) (rule_count t) refl)

  -- ---- not refused

  walked : (w y : ℕ) → first (not (eqb w 0)) w y ≡ 0 → (w ≡ 0) × (y ≡ 0)
  walked zero y e = (refl, e)
  walked (suc w) y e =
      let f : eqb (suc w) 0 ≡ false = ne_eqb (suc w) 0 (λ q. omega arith) in
      let z : suc w ≡ 0 = rw f at e in
      absurd (omega arith)

  accepted : rules_refusal t ≡ 0 → WellFormedRules t
  unfolding rules_refusal
  accepted h =
      let a = passed (is_partial 3 t) 0 _ h in
      let b = walked (walk_from_top t) _ a.1 in
      let c = passed (not (rules_kinds_ok t)) 5 _ b.1 in
      let d = passed (not (rules_references_ok t)) 6 _ c.1 in
      let e = passed (not (rules_uses_ok t)) 7 _ d.1 in
      record {
        sized = rules-sized-of t (whole-lines t a.0).0 b.0;
        kinds = not-false (rules_kinds_ok t) c.0;
        references = not-false (rules_references_ok t) d.0;
        uses = not-false (rules_uses_ok t) e.0;
      }

  pub well-formed-rules-accepted : WellFormedRules t → rules_refusal t ≡ 0
  unfolding rules_refusal
  well-formed-rules-accepted w = rw (rules-whole w.sized, walk-sized t w.sized, w.kinds, w.references, w.uses)

  -- ---- the refusal, as one walk finds it

  pub rules-walk : is_partial 3 t ≡ false → (walk_from_top t ≡ 0 → ⊥) → walk_from_top t ≡ rules_refusal t
  unfolding rules_refusal
  rules-walk w n = rw (w, ne_eqb (walk_from_top t) 0 n)

  -- With n rules left and the first at p: what the walk finds, else the lowest of 6, 7 and 8, where `kinds`, `references` and `uses` are how
  -- the rules before p have fared.
  unfoldable pub tested_from : (n p : ℕ) (kinds references uses : Bool) → ℕ
  tested_from n p kinds references uses =
      first (not (eqb (walk t n p) 0)) (walk t n p)
      (first (not (kinds && all_rules (rule_kinds_ok t) t n p)) 6
      (first (not (references && all_rules (λ p. references_ok (rule_at t p)) t n p)) 7
      (first (not (uses && all_rules (λ p. uses_ok (rule_at t p)) t n p)) 8
      0)))

  pub tested-top : is_partial 3 t ≡ false → rules_head_in_limits t ≡ true → tested_from (rule_count t) (rules_from t) true true true ≡ rules_refusal t
  unfolding rules_refusal tested_from
  tested-top w h = rw (w, walk_top t h)

  module _ (n p : ℕ) (k r u : Bool) where
    pub tested-found : (x : ℕ) → 0 < x → walk t n p ≡ x → x ≡ tested_from n p k r u
    unfolding tested_from
    tested-found x h e = sym (first-true _ _ (ap not (ne_eqb (walk t n p) 0 (λ z. omega arith))) ∙ e)

    pub tested-more : 0 < n → rule_in_limits t p ≡ true → next_rule t p ≤ length t → (q : ℕ) → q ≡ next_rule t p
        → (k' r' u' : Bool) → k' ≡ (k && rule_kinds_ok t p) → r' ≡ (r && references_ok (rule_at t p)) → u' ≡ (u && uses_ok (rule_at t p))
        → tested_from (n - 1) q k' r' u' ≡ tested_from n p k r u
    unfolding tested_from
    tested-more h w l q e k' r' u' ek er eu =
        rw (
          e,
          ek,
          er,
          eu,
          walk-pass t n p h (omega arith) w l,
          rules-more (rule_kinds_ok t) t k n p h,
          rules-more (λ p. references_ok (rule_at t p)) t r n p h,
          rules-more (λ p. uses_ok (rule_at t p)) t u n p h,
        )

    pub tested-end : n ≡ 0 → p ≡ length t → first (not k) 6 (first (not r) 7 (first (not u) 8 0)) ≡ tested_from n p k r u
    unfolding tested_from
    tested-end h e =
        rw (
          walk-all t n p h e,
          rules-none (rule_kinds_ok t) t k n p h,
          rules-none (λ p. references_ok (rule_at t p)) t r n p h,
          rules-none (λ p. uses_ok (rule_at t p)) t u n p h,
        )

  -- ---- one rule

  module _ (p : ℕ) (w : WellFormedRule t p) where
    -- the tests 6 and 7 of each side, and of the closing line
    pub left-references-ok : all_gates operands_below (first_gate (holes_at t p)) (rule_at t p).lefts ≡ true
    left-references-ok = left-of (all_gates operands_below (first_gate (holes_at t p)) (rule_at t p).lefts) _ w.references

    closing-references : (all_gates operands_below (first_gate (holes_at t p)) (rule_at t p).rights && ltb (rule_at t p).closing (first_gate (holes_at t p) + length (rule_at t p).rights)) ≡ true
    closing-references = right_of (all_gates operands_below (first_gate (holes_at t p)) (rule_at t p).lefts) _ w.references

    pub right-references-ok : all_gates operands_below (first_gate (holes_at t p)) (rule_at t p).rights ≡ true
    right-references-ok = left-of (all_gates operands_below (first_gate (holes_at t p)) (rule_at t p).rights) _ closing-references

    pub left-kinds-ok : all_gates has_gate_kind 0 (rule_at t p).lefts ≡ true
    left-kinds-ok = left-of (all_gates has_gate_kind 0 (rule_at t p).lefts) _ w.kinds

    closing-kinds : (all_gates has_gate_kind 0 (rule_at t p).rights && is_closing 0 (line_at t (closing_from t p))) ≡ true
    closing-kinds = right_of (all_gates has_gate_kind 0 (rule_at t p).lefts) _ w.kinds

    pub right-kinds-ok : all_gates has_gate_kind 0 (rule_at t p).rights ≡ true
    right-kinds-ok = left-of (all_gates has_gate_kind 0 (rule_at t p).rights) _ closing-kinds

    -- each line, at the places that loops read
    module _ (i : ℕ) where
      pub left-operands : i < lefts_at t p
          → (get_or t (left_from t p + 3 * i + 1) 0 < first_gate (holes_at t p) + i) × (get_or t (left_from t p + 3 * i + 2) 0 < first_gate (holes_at t p) + i)
      left-operands h = operands-at (lefts_at t p) (left_from t p) t (first_gate (holes_at t p)) left-references-ok i h

      -- where they are found to begin at q
      pub left-operands-small : i < lefts_at t p → (q : ℕ) → q ≡ left_from t p → (get_or t (q + 3 * i + 1) 0 < max_left_references) × (get_or t (q + 3 * i + 2) 0 < max_left_references)
      left-operands-small h q e =
          let o = left-operands h in
          rw e (omega (arith, o, w.sized), omega (arith, o, w.sized))

    pub closing-below : get_or t (closing_from t p + 1) 0 < first_gate (holes_at t p) + rights_at t p
    closing-below =
        let h : (rule_at t p).closing < first_gate (holes_at t p) + length (rule_at t p).rights =
        ltb-true _ _ (right_of (all_gates operands_below (first_gate (holes_at t p)) (rule_at t p).rights) _ closing-references) in
        rw (lines-length (rights_at t p) (drop (right_from t p) t)) at h

    pub valid-rule : ValidRule (rule_at t p)
    valid-rule =
        let n = first_gate (holes_at t p) in
        let ll = lines-length (lefts_at t p) (drop (left_from t p) t) in
        let lr = lines-length (rights_at t p) (drop (right_from t p) t) in
        record {
          holes-limit = w.sized.holes-limit;
          lefts-some = rw ll w.sized.lefts-some;
          lefts-limit = rw ll w.sized.lefts-limit;
          rights-limit = rw lr w.sized.rights-limit;
          lefts-ordered = ordered_of n (rule_at t p).lefts (all-each operands_below n (rule_at t p).lefts left-references-ok);
          rights-ordered = ordered_of n (rule_at t p).rights (all-each operands_below n (rule_at t p).rights right-references-ok);
          lefts-kinds = each_from (λ g. has_gate_kind 0 g ≡ true) 0 n (rule_at t p).lefts (all-each has_gate_kind 0 (rule_at t p).lefts left-kinds-ok);
          rights-kinds = each_from (λ g. has_gate_kind 0 g ≡ true) 0 n (rule_at t p).rights (all-each has_gate_kind 0 (rule_at t p).rights right-kinds-ok);
          closing-below = rw lr closing-below;
          uses = w.uses;
        }

  -- the rule that has k before it
  pub place-well-formed : WellFormedRules t → (k : ℕ) → k < rule_count t → WellFormedRule t (place_from t (rules_from t) k)
  place-well-formed w k h =
      record {
        sized = walk_at t (rule_count t) (rules_from t) k h w.sized.walked;
        kinds = rules-at (rule_kinds_ok t) t (rule_count t) (rules_from t) k h w.kinds;
        references = rules-at (λ p. references_ok (rule_at t p)) t (rule_count t) (rules_from t) k h w.references;
        uses = rules-at (λ p. uses_ok (rule_at t p)) t (rule_count t) (rules_from t) k h w.uses;
      }

pub accepted-rules-are-well-formed : AcceptedRulesAreWellFormed
accepted-rules-are-well-formed t = (accepted t, well-formed-rules-accepted t)

pub each-rule-is-well-formed : EachRuleIsWellFormed
each-rule-is-well-formed t w rule h =
    let r = place-well-formed t w (rule - 1) (omega (arith, rule-from t rule h, rule-to t rule h)) in
    (r, valid-rule t (place_of t rule) r)

-- the same at the place that was found
pub rule-at-place : (t : List ℕ) → WellFormedRules t → (rule : ℕ) → has_rule t rule ≡ true → (p : ℕ) → p ≡ place_of t rule → WellFormedRule t p
rule-at-place t w rule h p e = rw e (each-rule-is-well-formed t w rule h).0
