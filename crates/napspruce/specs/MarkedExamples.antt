-- 01, Marked examples, 3 and 4: the cases (a) to (h). What is computed is by the definitions that the contracts cite; beside it is what 01
-- states, and of (g) what 02, 2026-06, makes of that. That the two are equal in every case is the one statement at the end, proved under its name in proofs/.
use Rattle.std.specs.Prelude.{ℕ, ◌≡◌, List, [], ◌∷◌, ◌++◌, map, take, replicate}
use Prim.Native.Char.{code}
use Prim.Native.String.{String, [] as nil, ◌∷◌ as cons}
use Rattle.lines.specs.Text.{read_text}
use Rattle.lines.specs.Refusal.{Result, refused, gives, no_table, Outcome}
use Rattle.circuit.specs.Circuit.{max_table}
use Rattle.circuit.specs.MeasureCall.{measuring}
use Rattle.rules.specs.SiteTable.{site_count, max_sites}
use Rattle.rules.specs.JudgeCall.{judging}
use Rattle.rules.specs.MatchCall.{matching}
use Rattle.rewriting.specs.RewriteCall.{Lent, rewriting}
use Rattle.translator.specs.TranslateCall.{program_numbers, translating}
use Rattle.napspruce.specs.ListingCall.{max_listing, listing_outcome}
use Rattle.napspruce.specs.Printed.{printed}

-- ---- texts, shown by their lines

-- a character's code is its byte, as all of them are ASCII
abbrev pub bytes : String → List ℕ
bytes nil = []
bytes (cons c s) = code c ∷ bytes s

-- byte 10 ends a line
abbrev pub text : (lines : List String) → List ℕ
text [] = []
text (line ∷ lines) = bytes line ++ (10 ∷ text lines)

-- what a call on tables is given
abbrev pub table : (lines : List String) → List ℕ
table lines = read_text (text lines)

-- ---- circuits

-- ((2·3)·4)·5
abbrev pub chain : List String
chain =
    "     4     3     1"
    ∷ "     2     2     3"
    ∷ "     2     6     4"
    ∷ "     2     7     5"
    ∷ "     3     8     0" ∷ []

-- (2·3)·(4·5)
abbrev pub balanced_tree : List String
balanced_tree =
    "     4     3     1"
    ∷ "     2     2     3"
    ∷ "     2     4     5"
    ∷ "     2     6     7"
    ∷ "     3     8     0" ∷ []

-- 2·3
abbrev pub sole_gate : List String
sole_gate =
    "     2     1     1"
    ∷ "     2     2     3"
    ∷ "     3     4     0" ∷ []

-- 1·2, where 2 is the input
abbrev pub one_and_input : List String
one_and_input =
    "     1     1     1"
    ∷ "     2     1     2"
    ∷ "     3     3     0" ∷ []

-- the constant 1, without inputs and gates
abbrev pub constant_one : List String
constant_one =
    "     0     0     1"
    ∷ "     3     1     0" ∷ []

-- ---- rules, one in each text

-- ((v·w)·y)·z to (v·w)·(y·z)
abbrev pub associativity : List String
associativity =
    "     1     0     0"
    ∷ "     4     3     3"
    ∷ "     2     2     3"
    ∷ "     2     6     4"
    ∷ "     2     7     5"
    ∷ "     2     2     3"
    ∷ "     2     4     5"
    ∷ "     2     6     7"
    ∷ "     3     8     0" ∷ []

-- v·v to v
abbrev pub idempotence : List String
idempotence =
    "     1     0     0"
    ∷ "     1     1     0"
    ∷ "     2     2     2"
    ∷ "     3     2     0" ∷ []

-- v·w to v
abbrev pub dropped_operand : List String
dropped_operand =
    "     1     0     0"
    ∷ "     2     1     0"
    ∷ "     2     2     3"
    ∷ "     3     2     0" ∷ []

-- ((v·w)·y)·z to ((v·w)·z)·((w⊕z)⊕y)
abbrev pub xor_operand : List String
xor_operand =
    "     1     0     0"
    ∷ "     4     3     5"
    ∷ "     2     2     3"
    ∷ "     2     6     4"
    ∷ "     2     7     5"
    ∷ "     2     2     3"
    ∷ "     2     6     5"
    ∷ "     1     3     5"
    ∷ "     1     8     4"
    ∷ "     2     7     9"
    ∷ "     3    10     0" ∷ []

-- v·w to w·v
abbrev pub commutativity : List String
commutativity =
    "     1     0     0"
    ∷ "     2     1     1"
    ∷ "     2     2     3"
    ∷ "     2     3     2"
    ∷ "     3     4     0" ∷ []

-- v·1 to v
abbrev pub identity : List String
identity =
    "     1     0     0"
    ∷ "     1     1     0"
    ∷ "     2     2     1"
    ∷ "     3     2     0" ∷ []

-- ---- sites

abbrev pub chain_site : List String
chain_site =
    "     1     0     0"
    ∷ "     1     8     0" ∷ []

abbrev pub sole_gate_site : List String
sole_gate_site =
    "     1     0     0"
    ∷ "     1     4     0" ∷ []

abbrev pub missing_gate_site : List String
missing_gate_site =
    "     1     0     0"
    ∷ "     1     5     0" ∷ []

-- mask 0, then mask 1
abbrev pub straight_then_swapped : List String
straight_then_swapped =
    "     2     0     0"
    ∷ "     1     3     0"
    ∷ "     1     3     1" ∷ []

-- ---- the listing of (a)

abbrev pub chain_listing : List String
chain_listing =
    balanced_tree
    ++ ("     5     3     3"
    ∷ "     6     2     3"
    ∷ "     7     1     1"
    ∷ "     8     1     0" ∷ [])

-- ---- the calls with lent buffers, each just long enough

abbrev pub buffer : (size : ℕ) → List ℕ
buffer size = replicate size 0

abbrev pub listing_of : (circuit rules sites : List String) → Outcome (List ℕ)
listing_of circuit rules sites = listing_outcome (text circuit) (text rules) (text sites) (buffer max_listing)

-- its answer is how many lines the circuit has, old D and N, new D and N, kept
abbrev pub rewriting_of : (circuit rules sites : List String) → Outcome Lent
rewriting_of circuit rules sites =
    rewriting (table circuit) (table rules) (table sites) (buffer max_table) (buffer max_table) (buffer max_sites)

-- its verdicts, one a site
abbrev pub verdicts_of : (circuit rules sites : List String) → Result
verdicts_of circuit rules sites = gives (take (site_count (table sites)) (rewriting_of circuit rules sites).buffers.verdicts)

abbrev pub translation_of : (circuit : List String) (limit : ℕ) → Result
translation_of circuit limit = (translating (table circuit) limit (buffer program_numbers)).answer

-- ---- the cases

pub record Example : Type 0 where
  pub computed : Result
  pub stated : Result

-- tighter than _∷_, so that cases are listed without parentheses
infix 70 ◌is◌
abbrev pub ◌is◌ : (computed stated : Result) → Example
◌is◌ x y = record { computed = x; stated = y }

abbrev pub marked_examples : List Example
marked_examples =
    -- (a) this rewriting: what the program prints; the service's result, which is the length, and as many bytes of its buffer
    gives (printed (text chain) (text associativity) (text chain_site)) is gives (text chain_listing)
    ∷ (listing_of chain associativity chain_site).answer is gives (171 ∷ [])
    ∷ gives (take 171 (listing_of chain associativity chain_site).buffers) is gives (text chain_listing)
    -- (b) The need is 2 before it and 3 after it, where limit 2 gives 10. Four loads, three operations and an emit are 8 instructions.
    ∷ translation_of chain 2 is gives (8 ∷ 2 ∷ [])
    ∷ translation_of balanced_tree 3 is gives (8 ∷ 3 ∷ [])
    ∷ translation_of balanced_tree 2 is refused 10 no_table
    -- (c) v·v to v is sound
    ∷ judging (table idempotence) 1 is gives (0 ∷ [])
    -- (d) v·w to v is not, verdict 2 even at a missing gate, of the match and of the site
    ∷ judging (table dropped_operand) 1 is gives (2 ∷ [])
    ∷ matching (table sole_gate) (table dropped_operand) 1 5 0 is gives (2 ∷ [])
    ∷ verdicts_of sole_gate dropped_operand missing_gate_site is gives (2 ∷ [])
    -- (e) ((v·w)·y)·z to ((v·w)·z)·((w⊕z)⊕y) is sound
    ∷ judging (table xor_operand) 1 is gives (0 ∷ [])
    -- (f) v·w to w·v gets 6 at the sole gate 2·3, the output: nothing is kept, and both pairs are 1, 1
    ∷ verdicts_of sole_gate commutativity sole_gate_site is gives (6 ∷ [])
    ∷ (rewriting_of sole_gate commutativity sole_gate_site).answer is gives (3 ∷ 1 ∷ 1 ∷ 1 ∷ 1 ∷ 0 ∷ [])
    -- (g) v·1 to v at the sole gate 1·input, the output, gets 4 with mask 0, then 6 with mask 1 (02, 2026-06): D is 0 already
    ∷ verdicts_of one_and_input identity straight_then_swapped is gives (4 ∷ 6 ∷ [])
    ∷ (rewriting_of one_and_input identity straight_then_swapped).answer is gives (3 ∷ 0 ∷ 0 ∷ 0 ∷ 0 ∷ 0 ∷ [])
    -- (h) a circuit whose only output is constant 1 has D and N 0, need 1, by a load and an emit
    ∷ measuring (table constant_one) is gives (0 ∷ 0 ∷ [])
    ∷ translation_of constant_one 1 is gives (2 ∷ 1 ∷ [])
    ∷ []

-- 01, Marked examples, 4: one fact over the list
abbrev pub MarkedExamplesHold : Type 0
MarkedExamplesHold = map (λ e. e.computed) marked_examples ≡ map (λ e. e.stated) marked_examples
