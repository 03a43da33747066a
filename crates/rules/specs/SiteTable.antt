-- 01, Sites, 1 and 2: sites, the table that they are written in, and its refusals 1, 4 and 5.
use Rattle.std.specs.Prelude.{ℕ, ◌+◌, ◌*◌, Bool, not, ◌&&◌, List, eqb, leb, length, get_or}
use Rattle.lists.specs.First.{first}
use Rattle.lines.specs.Text.{is_partial}
use Rattle.circuit.specs.Circuit.{Gate}
use Rattle.circuit.specs.Table.{line_at}

-- 01, Sites, 2: which rule is tried, at which gate of the circuit that earlier sites have left, and which left gates have their operands
-- crossed
pub record Site : Type 0 where
  pub rule : ℕ
  pub gate : ℕ
  pub mask : ℕ

-- 01, Sites, 1: the head, and its limit
abbrev pub site_count : List ℕ → ℕ
site_count t = get_or t 0 0

abbrev pub max_sites : ℕ
max_sites = 512

-- where the sites begin, and where the table ends
abbrev pub sites_from : List ℕ → ℕ
sites_from t = 3

abbrev pub sites_end : List ℕ → ℕ
sites_end t = sites_from t + 3 * site_count t

-- a site by its three numbers, which are one line
abbrev pub site : (rule gate mask : ℕ) → Site
site rule gate mask = record { rule = rule; gate = gate; mask = mask }

abbrev pub site_of : Gate → Site
site_of line = site line.kind line.left line.right

-- site i, the first being 0
abbrev pub site_at : List ℕ → (i : ℕ) → Site
site_at t i = site_of (line_at t (sites_from t + 3 * i))

-- 01, refusal 4, does not apply: the number of sites is within its limit, and the zeros are zeros.
abbrev pub sites_head_in_limits : List ℕ → Bool
sites_head_in_limits t = leb (site_count t) max_sites && (eqb (get_or t 1 0) 0 && eqb (get_or t 2 0) 0)

-- 01, refusal 5, does not apply: there are as many lines as the head says.
abbrev pub sites_as_head_says : List ℕ → Bool
sites_as_head_says t = eqb (length t) (sites_end t)

-- 01, Refusals, 1: the table that a refusal names
abbrev pub sites_table : ℕ
sites_table = 3

-- 01, Refusals, 2: the lowest number that applies; 0 if none does. Whatever a site's own numbers are, they are answered by a verdict.
unfoldable pub sites_refusal : List ℕ → ℕ
sites_refusal t =
    first (is_partial 3 t) 1
    (first (not (sites_head_in_limits t)) 4
    (first (not (sites_as_head_says t)) 5
    0))
