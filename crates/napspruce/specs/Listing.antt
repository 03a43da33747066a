-- 01, Marked examples, 1: the listing of what rewriting hands back, first as numbers, three a line, then as bytes.
use Rattle.std.specs.Prelude.{ℕ, suc, List, [], ◌∷◌, ◌++◌}
use Rattle.lines.specs.Text.{write_table}
use Rattle.circuit.specs.Critical.{pair_of}
use Rattle.circuit.specs.Table.{decode, encode}
use Rattle.rules.specs.SiteTable.{site_count}
use Rattle.rewriting.specs.Run.{final_state, all_verdicts}
use Rattle.napspruce.specs.declared.numbers.Summary.{Summary}

-- what a line behind the circuit's begins with, as a gate's line does with its kind
abbrev pub old_pair_kind : ℕ
old_pair_kind = 5

abbrev pub new_pair_kind : ℕ
new_pair_kind = 6

abbrev pub counts_kind : ℕ
counts_kind = 7

abbrev pub verdict_kind : ℕ
verdict_kind = 8

-- three lines: old D and N; new D and N; how many sites there are, and how many were kept
unfoldable pub summary : Summary → List ℕ
summary s =
    old_pair_kind ∷ s.old.depth ∷ s.old.critical
    ∷ new_pair_kind ∷ s.new.depth ∷ s.new.critical
    ∷ counts_kind ∷ s.sites ∷ s.kept ∷ []

-- a line a site, with its number and its verdict, where the first of the verdicts is that of site n
unfoldable pub verdict_lines : (n : ℕ) (verdicts : List ℕ) → List ℕ
verdict_lines n [] = []
verdict_lines n (v ∷ vs) = verdict_kind ∷ n ∷ v ∷ verdict_lines (suc n) vs

-- a circuit's lines; the pairs and counts; the verdicts, those of the sites from 1 on
abbrev pub listing_lines : (circuit_lines : List ℕ) → Summary → (verdicts : List ℕ) → List ℕ
listing_lines circuit_lines s verdicts = circuit_lines ++ (summary s ++ verdict_lines 1 verdicts)

-- 01, Sites, 18: the old pair is that of the circuit first read, the new pair that of the circuit handed back.
abbrev pub summary_of : (circuit rules sites : List ℕ) → Summary
summary_of circuit rules sites =
    record {
      old = pair_of (decode circuit);
      new = pair_of (final_state circuit rules sites).circuit;
      sites = site_count sites;
      kept = (final_state circuit rules sites).kept;
    }

unfoldable pub listing_table : (circuit rules sites : List ℕ) → List ℕ
listing_table circuit rules sites =
    listing_lines (encode (final_state circuit rules sites).circuit) (summary_of circuit rules sites) (all_verdicts circuit rules sites)

abbrev pub listing_text : (circuit rules sites : List ℕ) → List ℕ
listing_text circuit rules sites = write_table (listing_table circuit rules sites)
