-- 01, Sites, 16: what demand 3 says of the rewriter, of a whole list of sites, kept or not, however its rules and sites were come by.
use Rattle.std.specs.Prelude.{ℕ, ◌+◌, ◌≤◌, ◌<◌, ◌≡◌, true, List, length, get_or}
use Rattle.circuit.specs.Critical.{pair_of}
use Rattle.circuit.specs.Table.{inputs, outputs, decode, encode}
use Rattle.circuit.specs.WellFormed.{WellFormed}
use Rattle.circuit.specs.Evaluation.{evaluate}
use Rattle.circuit.specs.Trim.{trim, trim_of}
use Rattle.rules.specs.SiteTable.{site_count, site_at}
use Rattle.rules.specs.Verdict.{passes}
use Rattle.rewriting.specs.Pair.{is_lower, weight}
use Rattle.rewriting.specs.Verdict.{not_lower, verdict_of}
use Rattle.rewriting.specs.Run.{start_state, step, zeros, state_at, final_state, handed_back, all_verdicts}

pub record SafeRun (circuit rules sites : List ℕ) : Type 0 where
  -- the first site gets the circuit first read, trimmed, and each later one what the one before it left
  pub first-gets-trimmed : state_at circuit rules sites 0 ≡ start_state (decode circuit)
  pub next-gets-left : (i : ℕ) → state_at circuit rules sites (i + 1) ≡ (step rules (state_at circuit rules sites i) (site_at sites i)).next
  -- each verdict is that of the site for the circuit that it gets; there is one a site, and none is above 6
  pub verdict-defined : (i : ℕ) → i < site_count sites
      → get_or (all_verdicts circuit rules sites) i 0 ≡ verdict_of (state_at circuit rules sites i).circuit rules (site_at sites i)
  pub verdict-each : length (all_verdicts circuit rules sites) ≡ site_count sites
  pub verdict-limit : (i : ℕ) → get_or (all_verdicts circuit rules sites) i 0 ≤ not_lower
  -- a kept site leaves a lower pair than it was given, any other what it was given
  pub kept-lowers : (i : ℕ) → i < site_count sites → get_or (all_verdicts circuit rules sites) i 0 ≡ passes
      → is_lower (pair_of (state_at circuit rules sites (i + 1)).circuit) (pair_of (state_at circuit rules sites i).circuit) ≡ true
  pub other-leaves : (i : ℕ) → i < site_count sites → (get_or (all_verdicts circuit rules sites) i 0 ≡ passes → ⊥)
      → state_at circuit rules sites (i + 1) ≡ state_at circuit rules sites i
  -- the circuit handed back gives the same outputs, in the same order, as the circuit first read
  pub same-outputs : (bytes : List ℕ) → length bytes ≡ inputs circuit
      → evaluate (handed_back circuit rules sites) bytes ≡ evaluate (decode circuit) bytes
  -- it is trimmed and its table well formed, with as many inputs and outputs, and with the starting lines of the circuit first read
  pub trimmed : trim_of (encode (handed_back circuit rules sites)) ≡ encode (handed_back circuit rules sites)
  pub well-formed : WellFormed (encode (handed_back circuit rules sites))
  pub same_inputs : (handed_back circuit rules sites).inputs ≡ inputs circuit
  pub same-starts : (handed_back circuit rules sites).starts ≡ (decode circuit).starts
  pub output-count : length (handed_back circuit rules sites).outputs ≡ outputs circuit
  -- kept is the number of zero verdicts, and each of them is paid for by the pair: kept + 2,049 × new D + new N is at most 2,049 × old D + old N
  pub kept-counts : (final_state circuit rules sites).kept ≡ zeros (all_verdicts circuit rules sites)
  pub kept-bound : (final_state circuit rules sites).kept + weight (pair_of (handed_back circuit rules sites)) ≤ weight (pair_of (decode circuit))
  -- 01, Sites, 17: an empty list hands back the trimmed circuit
  pub empty-trims : site_count sites ≡ 0 → handed_back circuit rules sites ≡ trim (decode circuit)
