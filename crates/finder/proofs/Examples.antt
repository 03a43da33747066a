-- Small searches, computed.
use mathlib.Core.Path.{◌≡◌, refl}
use mathlib.Core.Bool.{true}
use mathlib.Core.List.{[], ◌∷◌}
use mathlib.Core.Option.{bind}
use Rattle.circuit.specs.Circuit.{Circuit}
use Rattle.rules.specs.Rule.{Rule}
use Rattle.rules.specs.Match.{bind_reference, bind_operands, match_gate}
use Rattle.finder.specs.Search.{trial, matched, events, whole_search, first_match}

-- v . 1 to v at the sole gate 1 . input (01, case (g)): as written it does not match, crosswise it does.
abbrev constant_right : Rule
constant_right = record { holes = 1; lefts = record { kind = 2; left = 2; right = 1 } ∷ []; rights = []; closing = 2 }

abbrev constant_left : Circuit
constant_left = record { inputs = 1; starts = []; gates = record { kind = 2; left = 1; right = 2 } ∷ []; outputs = 3 ∷ [] }

pub constant-events : whole_search constant_left constant_right 3 ≡ trial ∷ trial ∷ matched 1 ∷ []
unfolding events match_gate bind_operands bind_reference bind
constant-events = refl

-- (v . w) . y at (2 . 3) . 4, the gates 5 and 6: gate 1 as written, then gate 0 as written matches, and crosswise too; gate 1 crosswise
-- asks for a gate at 4, an input, so that both trials of gate 0 fail.
abbrev chain : Rule
chain =
    record { holes = 3; lefts = record { kind = 2; left = 2; right = 3 } ∷ record { kind = 2; left = 5; right = 4 } ∷ []; rights = []; closing = 2 }

abbrev chained : Circuit
chained = record { inputs = 3; starts = []; gates = record { kind = 2; left = 2; right = 3 } ∷ record { kind = 2; left = 5; right = 4 } ∷ []; outputs = 6 ∷ [] }

pub chain-events : whole_search chained chain 6 ≡ trial ∷ trial ∷ matched 0 ∷ trial ∷ matched 1 ∷ trial ∷ trial ∷ trial ∷ []
unfolding events match_gate bind_operands bind_reference bind
chain-events = refl

pub chain_first : first_match (whole_search chained chain 6) ≡ record { matched = true; mask = 0; ways = 2 }
unfolding events match_gate bind_operands bind_reference bind first_match
chain_first = refl
