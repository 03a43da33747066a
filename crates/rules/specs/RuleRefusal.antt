-- The refusals 1 and 4 to 8 of a rules table.
use Rattle.std.specs.Prelude.{ℕ, zero, suc, ◌+◌, ◌-◌, Bool, true, not, ◌&&◌, List, eqb, leb, ltb, length, get_or}
use Rattle.lists.specs.First.{first}
use Rattle.lists.specs.Below.{all_below}
use Rattle.lines.specs.Text.{is_partial}
use Rattle.circuit.specs.Circuit.{first_gate}
use Rattle.circuit.specs.Table.{line_at}
use Rattle.circuit.specs.Each.{all_gates}
use Rattle.circuit.specs.Path.{is_used}
use Rattle.circuit.specs.Refusal.{has_gate_kind, is_closing, operands_below}
use Rattle.rules.specs.Rule.{Rule, max_rules, max_holes, max_lefts, max_rights, hole}
use Rattle.rules.specs.RuleTable.{rule_count, rules_from, holes_at, lefts_at, rights_at, closing_from, next_rule, rule_at}

-- ---- 4 and 5

-- 01, refusal 4, does not apply to the table's head: the number of rules is within its limit, and the zeros are zeros.
abbrev pub rules_head_in_limits : List ℕ → Bool
rules_head_in_limits t = leb (rule_count t) max_rules && (eqb (get_or t 1 0) 0 && eqb (get_or t 2 0) 0)

-- nor to the head line of the rule at number p
abbrev pub rule_in_limits : List ℕ → (p : ℕ) → Bool
rule_in_limits t p =
    leb (holes_at t p) max_holes && (leb 1 (lefts_at t p) && (leb (lefts_at t p) max_lefts && leb (rights_at t p) max_rights))

-- 01, refusals 4 and 5, tested in one walk, where n rules are left and the first begins at number p. Of each rule: its head line is
-- missing; it is out of limits; some of its other lines are missing. Behind the last rule: lines are left over.
unfoldable pub walk : List ℕ → (n p : ℕ) → ℕ
walk t zero p = first (not (eqb p (length t))) 5 0
walk t (suc n) p =
    first (ltb (length t) (p + 3)) 5
    (first (not (rule_in_limits t p)) 4
    (first (ltb (length t) (next_rule t p)) 5
    (walk t n (next_rule t p))))

-- from the top
unfoldable pub walk_from_top : List ℕ → ℕ
walk_from_top t = first (not (rules_head_in_limits t)) 4 (walk t (rule_count t) (rules_from t))

-- ---- 6, 7 and 8, of one rule

-- 01, refusal 6, does not apply to the rule at number p: each gate is of a known kind, and the closing line is 3, some reference, 0.
abbrev pub rule_kinds_ok : List ℕ → (p : ℕ) → Bool
rule_kinds_ok t p =
    all_gates has_gate_kind 0 (rule_at t p).lefts
    && (all_gates has_gate_kind 0 (rule_at t p).rights && is_closing 0 (line_at t (closing_from t p)))

-- 01, refusal 7, does not apply: operands are below their gate, and the closing reference is within the right side.
abbrev pub references_ok : Rule → Bool
references_ok u =
    all_gates operands_below (first_gate u.holes) u.lefts
    && (all_gates operands_below (first_gate u.holes) u.rights && ltb u.closing (first_gate u.holes + length u.rights))

-- hole j, left gate i, is an operand of a left gate
abbrev pub hole_used : Rule → (j : ℕ) → Bool
hole_used u j = is_used (hole j) u.lefts

abbrev pub left_used : Rule → (i : ℕ) → Bool
left_used u i = is_used (first_gate u.holes + i) u.lefts

-- 01, refusal 8, does not apply: each hole and each left gate but the last is an operand of a left gate. A left gate's user is a later one
-- wherever 7 does not apply (`UseIsLater` in Theorems.antt).
abbrev pub uses_ok : Rule → Bool
uses_ok u = all_below (hole_used u) u.holes && all_below (left_used u) (length u.lefts - 1)

-- ---- all rules

-- whether `test` holds at the place of each of n rules, the first at p
unfoldable pub all_rules : (test : ℕ → Bool) → List ℕ → (n p : ℕ) → Bool
all_rules test t zero p = true
all_rules test t (suc n) p = test p && all_rules test t n (next_rule t p)

abbrev pub rules_kinds_ok : List ℕ → Bool
rules_kinds_ok t = all_rules (rule_kinds_ok t) t (rule_count t) (rules_from t)

abbrev pub rules_references_ok : List ℕ → Bool
rules_references_ok t = all_rules (λ p. references_ok (rule_at t p)) t (rule_count t) (rules_from t)

abbrev pub rules_uses_ok : List ℕ → Bool
rules_uses_ok t = all_rules (λ p. uses_ok (rule_at t p)) t (rule_count t) (rules_from t)

-- 01, Refusals, 1: the table that a refusal names
abbrev pub rules_table : ℕ
rules_table = 2

-- 01, Refusals, 2: 1; then what the walk finds; then all 6s before any 7, and all 7s before any 8; 0 if none applies.
unfoldable pub rules_refusal : List ℕ → ℕ
rules_refusal t =
    first (is_partial 3 t) 1
    (first (not (eqb (walk_from_top t) 0)) (walk_from_top t)
    (first (not (rules_kinds_ok t)) 6
    (first (not (rules_references_ok t)) 7
    (first (not (rules_uses_ok t)) 8
    0))))
