-- 01, Rules, 1 and 2: a rules table, which is the head, then the rules one after the other, three numbers a line. As in a circuit's
-- table, numbers that are missing count as 0, and tables with too few or too many lines are refused.
use Rattle.std.specs.Prelude.{ℕ, zero, suc, ◌+◌, ◌*◌, ◌-◌, List, [], ◌∷◌, ◌++◌, length, drop, get_or}
use Rattle.circuit.specs.Circuit.{Gate}
use Rattle.circuit.specs.Table.{line_at, lines_of, reference, closing_line, encode_lines}
use Rattle.rules.specs.Rule.{Rule}

-- 01, Rules, 1: the head
abbrev pub rule_count : List ℕ → ℕ
rule_count t = get_or t 0 0

-- where the first rule begins
abbrev pub rules_from : List ℕ → ℕ
rules_from t = 3

-- 01, Rules, 2: the head line of a rule that begins at number p of the table
abbrev pub holes_at : List ℕ → (p : ℕ) → ℕ
holes_at t p = get_or t p 0

abbrev pub lefts_at : List ℕ → (p : ℕ) → ℕ
lefts_at t p = get_or t (p + 1) 0

abbrev pub rights_at : List ℕ → (p : ℕ) → ℕ
rights_at t p = get_or t (p + 2) 0

-- where its left gate lines, its right gate lines, its closing line and the rule behind it begin
abbrev pub left_from : List ℕ → (p : ℕ) → ℕ
left_from t p = p + 3

abbrev pub right_from : List ℕ → (p : ℕ) → ℕ
right_from t p = left_from t p + 3 * lefts_at t p

abbrev pub closing_from : List ℕ → (p : ℕ) → ℕ
closing_from t p = right_from t p + 3 * rights_at t p

abbrev pub next_rule : List ℕ → (p : ℕ) → ℕ
next_rule t p = closing_from t p + 3

-- what the table says from number p on
abbrev pub rule_at : List ℕ → (p : ℕ) → Rule
rule_at t p =
    record {
      holes = holes_at t p;
      lefts = lines_of (lefts_at t p) (drop (left_from t p) t);
      rights = lines_of (rights_at t p) (drop (right_from t p) t);
      closing = reference (line_at t (closing_from t p));
    }

-- where the rule begins that has k rules before it, the first of them at p
unfoldable pub place_from : List ℕ → (p k : ℕ) → ℕ
place_from t p zero = p
place_from t p (suc k) = next_rule t (place_from t p k)

-- 01, Sites, 2: rules are numbered from 1.
abbrev pub place_of : List ℕ → (rule : ℕ) → ℕ
place_of t rule = place_from t (rules_from t) (rule - 1)

abbrev pub rule_of : List ℕ → (rule : ℕ) → Rule
rule_of t rule = rule_at t (place_of t rule)

-- n rules, the first at p; all rules that a table says
unfoldable pub rules_at : List ℕ → (n p : ℕ) → List Rule
rules_at t zero p = []
rules_at t (suc n) p = rule_at t p ∷ rules_at t n (next_rule t p)

abbrev pub decode_rules : List ℕ → List Rule
decode_rules t = rules_at t (rule_count t) (rules_from t)

-- a rule as lines
abbrev pub head_line : Rule → Gate
head_line u = record { kind = u.holes; left = length u.lefts; right = length u.rights }

abbrev pub rule_lines : Rule → List Gate
rule_lines u = head_line u ∷ (u.lefts ++ (u.rights ++ (closing_line u.closing ∷ [])))

unfoldable pub rules_lines : List Rule → List Gate
rules_lines [] = []
rules_lines (u ∷ us) = rule_lines u ++ rules_lines us

-- the table that says rules
unfoldable pub encode_rules : List Rule → List ℕ
encode_rules us = length us ∷ 0 ∷ 0 ∷ encode_lines (rules_lines us)
