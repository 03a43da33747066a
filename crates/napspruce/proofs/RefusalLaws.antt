-- No refusal has a number or a table beyond 01's. Assumes nothing.
use mathlib.Core.Path.{◌≡◌, refl}
use mathlib.Core.Bool.{Bool, true, false, not, ◌&&◌}
use mathlib.Core.List.{List, [], ◌∷◌}
use Prim.Native.Nat.{ℕ, zero, suc, ◌+◌, ◌/◌, ◌≤◌}
use native.Mathlib.Omega.{arith}
use lib.Dec.{eqb, ltb}
use lib.ListN.{length}
use Rattle.lists.specs.Records.{all_records}
use Rattle.lists.proofs.First.{first_either}
use Rattle.lines.specs.Text.{is_partial}
use Rattle.lines.specs.Line.{is_line}
use Rattle.lines.specs.Refusal.{refused, no_table}
use Rattle.lines.specs.Checks.{check, first_found}
use Rattle.lines.proofs.CheckLaws.{EachFound}
use Rattle.circuit.specs.Refusal.{head_in_limits, lines_as_head_says, starts_ok, gate_kinds_ok, closing_kinds_ok, operands_ok, closing_references_ok, refusal, circuit_table}
use Rattle.rules.specs.RuleTable.{rule_count, rules_from, next_rule}
use Rattle.rules.specs.RuleRefusal.{rules_head_in_limits, rule_in_limits, walk, walk_from_top, rules_kinds_ok, rules_references_ok, rules_uses_ok, rules_refusal, rules_table}
use Rattle.rules.specs.SiteTable.{sites_head_in_limits, sites_as_head_says, sites_refusal, sites_table}
use Rattle.rewriting.specs.RewriteCall.{table_checks}
use Rattle.napspruce.specs.ListingCall.{text_refusal}
use Rattle.napspruce.specs.Limits.{last_refusal, last_table, Within}

-- ---- the numbers of refusals

abbrev Known : ℕ → Type 0
Known n = n ≤ last_refusal

line_known : (partial wrong : Bool) → Known (first_found (check partial 1 no_table ∷ check wrong 3 no_table ∷ [])).number
unfolding first_found check
line_known true wrong = omega arith
line_known false true = omega arith
line_known false false = omega arith

text-known : (text : List ℕ) → Known (text_refusal text)
unfolding text_refusal
text-known text = line_known (is_partial 19 text) (not (all_records is_line 19 (length text / 19) text))

circuit-known : (t : List ℕ) → Known (refusal t)
unfolding refusal
circuit-known t =
    first_either Known (is_partial 3 t) (omega arith)
    (first_either Known (not (head_in_limits t)) (omega arith)
    (first_either Known (not (lines_as_head_says t)) (omega arith)
    (first_either Known (not (starts_ok t)) (omega arith)
    (first_either Known (not (gate_kinds_ok t && closing_kinds_ok t)) (omega arith)
    (first_either Known (not (operands_ok t && closing_references_ok t)) (omega arith) (omega arith))))))

walk-known : (t : List ℕ) (n p : ℕ) → Known (walk t n p)
unfolding walk
walk-known t zero p = first_either Known (not (eqb p (length t))) (omega arith) (omega arith)
walk-known t (suc n) p =
    first_either Known (ltb (length t) (p + 3)) (omega arith)
    (first_either Known (not (rule_in_limits t p)) (omega arith)
    (first_either Known (ltb (length t) (next_rule t p)) (omega arith) (walk-known t n (next_rule t p))))

walk-top-known : (t : List ℕ) → Known (walk_from_top t)
unfolding walk_from_top
walk-top-known t = first_either Known (not (rules_head_in_limits t)) (omega arith) (walk-known t (rule_count t) (rules_from t))

rules-known : (t : List ℕ) → Known (rules_refusal t)
unfolding rules_refusal
rules-known t =
    first_either Known (is_partial 3 t) (omega arith)
    (first_either Known (not (eqb (walk_from_top t) 0)) (walk-top-known t)
    (first_either Known (not (rules_kinds_ok t)) (omega arith)
    (first_either Known (not (rules_references_ok t)) (omega arith)
    (first_either Known (not (rules_uses_ok t)) (omega arith) (omega arith)))))

sites-known : (t : List ℕ) → Known (sites_refusal t)
unfolding sites_refusal
sites-known t =
    first_either Known (is_partial 3 t) (omega arith)
    (first_either Known (not (sites_head_in_limits t)) (omega arith)
    (first_either Known (not (sites_as_head_says t)) (omega arith) (omega arith)))

-- ---- what a check finds is within, whatever the limits of a success are

module _ (table : ℕ) (l : table ≤ last_table) where
  found_within : (n : ℕ) → Known n → (n ≡ 0 → ⊥) → Within [] (refused n table)
  found_within n h some = (omega arith, h, l)

  pub check-within : (b : Bool) (n : ℕ) → n ≤ last_refusal → ((check b n table).number ≡ 0 → ⊥) → Within [] (refused (check b n table).number (check b n table).table)
  unfolding check
  check-within true n h some = found_within n h some
  check-within false n h some = absurd (some refl)

  pub text-within : (text : List ℕ) → (text_refusal text ≡ 0 → ⊥) → Within [] (refused (text_refusal text) table)
  text-within text = found_within (text_refusal text) (text-known text)

pub circuit-within : (t : List ℕ) → (refusal t ≡ 0 → ⊥) → Within [] (refused (refusal t) circuit_table)
circuit-within t = found_within circuit_table (omega arith) (refusal t) (circuit-known t)

pub rules-within : (t : List ℕ) → (rules_refusal t ≡ 0 → ⊥) → Within [] (refused (rules_refusal t) rules_table)
rules-within t = found_within rules_table (omega arith) (rules_refusal t) (rules-known t)

pub tables-within : (circuit rules sites : List ℕ) → EachFound (Within []) (table_checks circuit rules sites)
tables-within circuit rules sites =
    (circuit-within circuit, (rules-within rules, (found_within sites_table (omega arith) (sites_refusal sites) (sites-known sites), tt)))
