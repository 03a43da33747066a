-- 02, 2026-02: the search for the mask by which a rule matches at a gate, as the list of all that happens in it, without any limit and without
-- its end at a match. What a search finds, and in how many ways, is read off this list.
use Rattle.std.specs.Prelude.{ℕ, zero, suc, ◌+◌, ◌^◌, Bool, true, false, List, [], ◌∷◌, ◌++◌, map, eqb, ltb, length}
use Rattle.std.specs.Prelude.{Option as Optional, Some, None, is_some}
use Rattle.std.proofs.Math.Option.{Option, none, some}
use Rattle.lists.specs.First.{first}
use Rattle.circuit.specs.Circuit.{Circuit}
use Rattle.rules.specs.Rule.{Rule}
use Rattle.rules.specs.Match.{match_left, start_bindings}
use Rattle.finder.specs.declared.search.Searched.{Searched as FoundMask}

-- A trial is one way. A match is of the mask whose bits are the trials that led to it: 0 as written, 1 crosswise.
pub data Event : Type 0 where
  trial : Event
  matched : (mask : ℕ) → Event

-- the event, where a gate whose bit is worth h was crossed before
abbrev pub crossed : (h : ℕ) → Event → Event
crossed h trial = trial
crossed h (matched mask) = matched (h + mask)

-- What happens after a trial, which has left bindings or failed, with i left gates to go. A failed trial is not followed. With no gate
-- to go there is a match. Else the last of the gates is tried as written, then crosswise, and the rest of the rule from there.
unfoldable pub events : Circuit → Rule → (i : ℕ) (bindings : Option (List ℕ)) → List Event
events c u zero none = []
events c u zero (some b) = matched 0 ∷ []
events c u (suc i) none = []
events c u (suc i) (some b) =
    (trial ∷ events c u i (match_left c u i false b))
    ++ (trial ∷ map (crossed (2 ^ i)) (events c u i (match_left c u i true b)))

-- the bindings that a trial of the code left, if it held
abbrev pub left_by : Optional (List ℕ) → Option (List ℕ)
left_by None = none
left_by (Some b) = some b

-- the whole search at a gate: all left gates to go, the last one bound to the gate
abbrev pub whole_search : Circuit → Rule → (gate : ℕ) → List Event
whole_search c u gate = events c u (length u.lefts) (some (start_bindings u gate))

-- whether mask m is among the matches
unfoldable pub has : (m : ℕ) → List Event → Bool
has m [] = false
has m (trial ∷ es) = has m es
has m (matched k ∷ es) = first (eqb m k) true (has m es)

-- ---- what is found: whether there is a match, its mask, else 0, and the ways

pub record Searched : Type 0 where
  pub matched : Bool
  pub mask : ℕ
  pub ways : ℕ

-- of what the code has found
abbrev pub mask_or_zero : Optional ℕ → ℕ
mask_or_zero None = 0
mask_or_zero (Some m) = m

abbrev pub searched_of : FoundMask → Searched
searched_of s = record { matched = is_some s.mask; mask = mask_or_zero s.mask; ways = s.ways }

abbrev pub nothing : Searched
nothing = record { matched = false; mask = 0; ways = 0 }

-- what is found after so many ways more
abbrev pub after : (ways : ℕ) → Searched → Searched
after n s = record { matched = s.matched; mask = s.mask; ways = n + s.ways }

-- The same behind the trial crosswise of a gate whose bit is worth h. It serves contracts of private functions alone; what the call answers does
-- not rest on it.
abbrev pub raised : (h : ℕ) → Searched → Searched
raised h s = record { matched = s.matched; mask = first s.matched (h + s.mask) 0; ways = s.ways }

-- The search ends at its first match, or when no trial is left. That the first match is of the smallest mask, and is missing exactly if no mask
-- matches: `FirstIsSmallest`, `NoFirstMeansNone` in Theorems.antt.
unfoldable pub first_match : List Event → Searched
first_match [] = nothing
first_match (trial ∷ es) = after 1 (first_match es)
first_match (matched m ∷ es) = record { matched = true; mask = m; ways = 0 }

-- ---- the limit

-- the largest limit of ways
abbrev pub max_ways : ℕ
max_ways = 65535

-- What the code's search finds, which stops at the limit; what the call answers does not rest on it. Where the search goes over the limit: no
-- match, and one way more than the limit.
abbrev pub over_limit : (limit : ℕ) → Searched
over_limit limit = record { matched = false; mask = 0; ways = limit + 1 }

-- And in any case: a compare of the search's ways with the limit.
abbrev pub within : (limit : ℕ) → Searched → Searched
within limit s = first (ltb limit s.ways) (over_limit limit) s
