-- 01, Sites, 3 and 14 to 18: the run over a list of sites, whose state is handed on from site to site.
use Rattle.std.specs.Prelude.{ℕ, zero, suc, ◌+◌, List, [], ◌∷◌, eqb}
use Rattle.lists.specs.First.{first}
use Rattle.lists.specs.Below.{map_below}
use Rattle.circuit.specs.Circuit.{Circuit}
use Rattle.circuit.specs.Table.{decode}
use Rattle.circuit.specs.Trim.{trim}
use Rattle.rules.specs.SiteTable.{Site, site_count, site_at}
use Rattle.rules.specs.Verdict.{passes}
use Rattle.rewriting.specs.Verdict.{rewritten, verdict_of}

-- the circuit as it then is, and how many sites were kept
pub record State : Type 0 where
  pub circuit : Circuit
  pub kept : ℕ

-- what a site leaves, and its verdict
pub record Step : Type 0 where
  pub next : State
  pub verdict : ℕ

-- the state after a site that is kept
abbrev pub keeping : (rules : List ℕ) → State → Site → State
keeping rules s site = record { circuit = rewritten s.circuit rules site; kept = s.kept + 1 }

-- 01, Sites, 14: unless a site is kept, the circuit stays.
unfoldable pub step : (rules : List ℕ) → State → Site → Step
step rules s site =
    record {
      next = first (eqb (verdict_of s.circuit rules site) passes) (keeping rules s site) s;
      verdict = verdict_of s.circuit rules site;
    }

-- 01, Sites, 3: the circuit is trimmed first.
abbrev pub start_state : Circuit → State
start_state c = record { circuit = trim c; kept = 0 }

-- 01, Sites, 15 and 16: the state after the first i sites. Each site gets what the one before it left.
unfoldable pub after_sites : (rules sites : List ℕ) (start : State) → (i : ℕ) → State
after_sites rules sites start zero = start
after_sites rules sites start (suc i) = (step rules (after_sites rules sites start i) (site_at sites i)).next

-- the verdict of site i, the first being 0, and those of the first n sites
abbrev pub verdict_at : (rules sites : List ℕ) (start : State) → (i : ℕ) → ℕ
verdict_at rules sites start i = (step rules (after_sites rules sites start i) (site_at sites i)).verdict

abbrev pub verdicts_of : (rules sites : List ℕ) (start : State) → (n : ℕ) → List ℕ
verdicts_of rules sites start = map_below (verdict_at rules sites start)

-- the state after the whole list, and the verdicts of its sites
abbrev pub after_all : (rules sites : List ℕ) (start : State) → State
after_all rules sites start = after_sites rules sites start (site_count sites)

abbrev pub verdicts_on : (rules sites : List ℕ) (start : State) → List ℕ
verdicts_on rules sites start = verdicts_of rules sites start (site_count sites)

-- how many of some verdicts are 0
unfoldable pub zeros : (verdicts : List ℕ) → ℕ
zeros [] = 0
zeros (v ∷ vs) = first (eqb v passes) (1 + zeros vs) (zeros vs)

-- of the tables: the state that site i gets, the first being 0, and so what the sites before it left
abbrev pub state_at : (circuit rules sites : List ℕ) → (i : ℕ) → State
state_at circuit rules sites = after_sites rules sites (start_state (decode circuit))

-- 01, Sites, 18: what the whole list leaves, the circuit handed back, and a verdict a site
abbrev pub final_state : (circuit rules sites : List ℕ) → State
final_state circuit rules sites = after_all rules sites (start_state (decode circuit))

abbrev pub handed_back : (circuit rules sites : List ℕ) → Circuit
handed_back circuit rules sites = (final_state circuit rules sites).circuit

abbrev pub all_verdicts : (circuit rules sites : List ℕ) → List ℕ
all_verdicts circuit rules sites = verdicts_on rules sites (start_state (decode circuit))
