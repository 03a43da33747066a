-- The call `rewrite`: what it gives back, and what each lent buffer then holds, for every input.
use Rattle.std.specs.Prelude.{ℕ, Bool, ◌||◌, List, [], ◌∷◌, ltb, length, Result as Returned}
use Rattle.std.proofs.Math.Option.{Option, none, some}
use Rattle.lines.specs.Text.{is_partial}
use Rattle.lines.specs.declared.refusing.Refusal.{Refusal as GivenRefusal}
use Rattle.lines.specs.Refusal.{Refusal, Result, no_table, answer_of, Outcome}
use Rattle.lines.specs.Checks.{found, check, answering, afterwards}
use Rattle.lines.specs.Calls.{over}
use Rattle.circuit.specs.Circuit.{max_table, line_count}
use Rattle.circuit.specs.Table.{decode, encode}
use Rattle.circuit.specs.Refusal.{refusal, circuit_table}
use Rattle.circuit.specs.Depth.{circuit_depth}
use Rattle.circuit.specs.Critical.{critical_count}
use Rattle.rules.specs.RuleRefusal.{rules_refusal, rules_table}
use Rattle.rules.specs.SiteTable.{max_sites, sites_refusal, sites_table}
use Rattle.rewriting.specs.declared.Rewriting.{Rewriting}
use Rattle.rewriting.specs.Run.{final_state, handed_back, all_verdicts}

-- the numbers of a success: the lines of the circuit handed back, the old pair, the new pair and the number of sites kept
abbrev pub values_of : Rewriting → List ℕ
values_of r = r.lines ∷ r.old.depth ∷ r.old.critical ∷ r.new.depth ∷ r.new.critical ∷ r.kept ∷ []

-- the answer
abbrev pub paper_values : Returned Rewriting GivenRefusal → Result
paper_values = answer_of values_of

-- What the lent buffers hold; `work` is none where nothing is asked of it.
pub record Lent : Type 0 where
  pub result : List ℕ
  pub work : Option (List ℕ)
  pub verdicts : List ℕ

abbrev pub lent : (result : List ℕ) (work : Option (List ℕ)) (verdicts : List ℕ) → Lent
lent result work verdicts = record { result = result; work = work; verdicts = verdicts }

-- An answer and the buffers, as the contract compares them with `rewriting`. 01, Sites, 19: after a success the working table is free,
-- so what it then holds is left out.
abbrev pub outcome_of : Result → (result work verdicts : List ℕ) → Outcome Lent
outcome_of answer result work verdicts = afterwards answer (lent result (some work) verdicts) (lent result none verdicts)

-- 01, refusal 2: a lent buffer is shorter than needed, whatever the tables say.
abbrev pub are_short : (result work verdicts : List ℕ) → Bool
are_short result work verdicts =
    ltb (length result) max_table || (ltb (length work) max_table || ltb (length verdicts) max_sites)

-- 01, Sites, 18: the old pair is that of the circuit first read, the new pair that of the circuit handed back.
unfoldable pub done_values : (circuit rules sites : List ℕ) → List ℕ
done_values circuit rules sites =
    line_count (handed_back circuit rules sites)
    ∷ circuit_depth (decode circuit) ∷ critical_count (decode circuit)
    ∷ circuit_depth (handed_back circuit rules sites) ∷ critical_count (handed_back circuit rules sites)
    ∷ (final_state circuit rules sites).kept ∷ []

-- 01, Refusals, 2, and 02, 2026-01: of tables of whole lines, 4, 5, 11, 6, 7 of the circuit; 4 to 8 of the rules; 4 and 5 of the sites.
abbrev pub table_checks : (circuit rules sites : List ℕ) → List Refusal
table_checks circuit rules sites =
    found (refusal circuit) circuit_table
    ∷ found (rules_refusal rules) rules_table
    ∷ found (sites_refusal sites) sites_table ∷ []

-- 1 for each table; 2; and then those.
abbrev pub rewrite_checks : (circuit rules sites result work verdicts : List ℕ) → List Refusal
rewrite_checks circuit rules sites result work verdicts =
    check (is_partial 3 circuit) 1 circuit_table
    ∷ check (is_partial 3 rules) 1 rules_table
    ∷ check (is_partial 3 sites) 1 sites_table
    ∷ check (are_short result work verdicts) 2 no_table
    ∷ table_checks circuit rules sites

-- where none applies: the table of the circuit handed back is in `result`, and a byte a site in `verdicts`
abbrev pub lent_after : (circuit rules sites result verdicts : List ℕ) → Lent
lent_after circuit rules sites result verdicts =
    lent (over (encode (handed_back circuit rules sites)) result) none (over (all_verdicts circuit rules sites) verdicts)

unfoldable pub rewriting : (circuit rules sites result work verdicts : List ℕ) → Outcome Lent
rewriting circuit rules sites result work verdicts =
    afterwards (answering (rewrite_checks circuit rules sites result work verdicts) (done_values circuit rules sites))
    (lent result (some work) verdicts) (lent_after circuit rules sites result verdicts)
