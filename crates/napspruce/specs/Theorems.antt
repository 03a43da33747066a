-- The theorems about the listing, what the program prints, and the C exports, as statements; each is proved under its name in proofs/.
use Rattle.std.specs.Prelude.{ℕ, ◌/◌, ◌≤◌, ◌≡◌, true, false, List, [], ◌∷◌, length}
use Rattle.lines.specs.Text.{is_partial, is_text, read_text, write_table}
use Rattle.lines.specs.Refusal.{refused, gives}
use Rattle.lines.specs.Calls.{over, reading, writing}
use Rattle.circuit.specs.WellFormed.{WellFormed}
use Rattle.circuit.specs.EvaluateCall.{evaluating}
use Rattle.circuit.specs.MeasureCall.{measuring}
use Rattle.rules.specs.WellFormed.{WellFormedRules, WellFormedSites}
use Rattle.rules.specs.JudgeCall.{judging}
use Rattle.rules.specs.MatchCall.{matching}
use Rattle.finder.specs.FindCall.{finding}
use Rattle.rewriting.specs.SafeRun.{SafeRun}
use Rattle.rewriting.specs.RewriteCall.{rewriting}
use Rattle.translator.specs.TranslateCall.{translating}
use Rattle.napspruce.specs.Listing.{listing_table, listing_text}
use Rattle.napspruce.specs.ListingCall.{max_listing, text_refusal, list_tables, list_texts, listing_outcome}
use Rattle.napspruce.specs.Printed.{refusal_kind, printed}
use Rattle.napspruce.specs.Front.{max_rules_lines, max_sites_lines, front, cut, shortened}
use Rattle.napspruce.specs.Packing.{pack, unpack, pack_lines, unpack_lines, pack_one, unpack_one, pack_pair, unpack_pair, pack_finding, unpack_finding, pack_translation, unpack_translation, pack_rewriting, unpack_rewriting}
use Rattle.napspruce.specs.Limits.{Within, evaluate_limits, measure_limits, judge_limits, match_limits, find_limits, rewrite_limits, translate_limits, listing_limits}

-- ---- the listing

-- The fronts of three tables of whole lines, that of the circuit being what is read of it, are listed as the tables are, refusals included.
abbrev pub FrontIsListedAlike : Type 0
FrontIsListedAlike =
    (circuit rules sites : List ℕ) → is_partial 3 circuit ≡ false → is_partial 3 rules ≡ false → is_partial 3 sites ≡ false
    → list_tables (shortened circuit) (front max_rules_lines rules) (front max_sites_lines sites) ≡ list_tables circuit rules sites

-- So three texts of any length in which every line is well written may be cut there: they are listed, or refused, as before. Of the circuit's
-- text the lines are left out that are not read of its table.
abbrev pub CutIsListedAlike : Type 0
CutIsListedAlike =
    (circuit rules sites : List ℕ) (room : ℕ) → text_refusal circuit ≡ 0 → text_refusal rules ≡ 0 → text_refusal sites ≡ 0
    → (cut_circuit : List ℕ) → text_refusal cut_circuit ≡ 0 → read_text cut_circuit ≡ shortened (read_text circuit)
    → list_texts cut_circuit (cut max_rules_lines rules) (cut max_sites_lines sites) room ≡ list_texts circuit rules sites room

-- What is listed comes of tables that are not refused, and of a safe run over them.
abbrev pub ListedIsSafe : Type 0
ListedIsSafe =
    (circuit rules sites bytes : List ℕ) → list_tables circuit rules sites ≡ gives bytes
    → WellFormed circuit × WellFormedRules rules × WellFormedSites sites × (bytes ≡ listing_text circuit rules sites) × SafeRun circuit rules sites

-- It is a well-written text, from which the listing's numbers are read again, and is at most 63,308 bytes long.
abbrev pub ListedIsText : Type 0
ListedIsText =
    (circuit rules sites bytes : List ℕ) → list_tables circuit rules sites ≡ gives bytes
    → (is_text bytes ≡ true) × (read_text bytes ≡ listing_table circuit rules sites) × (length bytes ≤ max_listing)

-- 01, Refusals, 1: a refusal leaves the buffer as it was.
abbrev pub RefusalKeepsBuffer : Type 0
RefusalKeepsBuffer =
    (circuit rules sites buffer : List ℕ) (number table : ℕ) → (listing_outcome circuit rules sites buffer).answer ≡ refused number table
    → (listing_outcome circuit rules sites buffer).buffers ≡ buffer

-- ---- the program

-- What the program prints is what the call lists in a buffer that has room, or else the line of its refusal.
abbrev pub ListingIsPrinted : Type 0
ListingIsPrinted =
    (circuit rules sites buffer : List ℕ) (n : ℕ) → (listing_outcome circuit rules sites buffer).answer ≡ gives (n ∷ [])
    → (n ≡ length (printed circuit rules sites)) × ((listing_outcome circuit rules sites buffer).buffers ≡ over (printed circuit rules sites) buffer)

abbrev pub RefusalIsPrinted : Type 0
RefusalIsPrinted =
    (circuit rules sites buffer : List ℕ) (number table : ℕ) → max_listing ≤ length buffer
    → (listing_outcome circuit rules sites buffer).answer ≡ refused number table
    → printed circuit rules sites ≡ write_table (refusal_kind ∷ number ∷ table ∷ [])

-- It has at least one line, and 63,308 bytes at most.
abbrev pub PrintedFits : Type 0
PrintedFits = (circuit rules sites : List ℕ) → (19 ≤ length (printed circuit rules sites)) × (length (printed circuit rules sites) ≤ max_listing)

-- ---- the exports: what the calls give is within its limits

abbrev pub ReadIsWithin : Type 0
ReadIsWithin = (text table : List ℕ) → Within (length text / 19 ∷ []) (reading text table).answer

abbrev pub WriteIsWithin : Type 0
WriteIsWithin = (table text : List ℕ) → Within (length table / 3 ∷ []) (writing table text).answer

abbrev pub EvaluateIsWithin : Type 0
EvaluateIsWithin = (circuit input_bytes output_bytes : List ℕ) → Within evaluate_limits (evaluating circuit input_bytes output_bytes).answer

abbrev pub MeasureIsWithin : Type 0
MeasureIsWithin = (circuit : List ℕ) → Within measure_limits (measuring circuit)

abbrev pub JudgeIsWithin : Type 0
JudgeIsWithin = (rules : List ℕ) (rule : ℕ) → Within judge_limits (judging rules rule)

abbrev pub MatchIsWithin : Type 0
MatchIsWithin = (circuit rules : List ℕ) (rule gate mask : ℕ) → Within match_limits (matching circuit rules rule gate mask)

abbrev pub FindIsWithin : Type 0
FindIsWithin = (circuit rules : List ℕ) (rule gate limit : ℕ) → Within find_limits (finding circuit rules rule gate limit)

abbrev pub RewriteIsWithin : Type 0
RewriteIsWithin =
    (circuit rules sites result work verdicts : List ℕ) → Within rewrite_limits (rewriting circuit rules sites result work verdicts).answer

abbrev pub TranslateIsWithin : Type 0
TranslateIsWithin = (circuit : List ℕ) (limit : ℕ) (program : List ℕ) → Within translate_limits (translating circuit limit program).answer

abbrev pub ListingIsWithin : Type 0
ListingIsWithin = (circuit rules sites listing : List ℕ) → Within listing_limits (listing_outcome circuit rules sites listing).answer

-- ---- so its packing loses nothing, and a success meets no refusal: the answer can be taken out of the number

abbrev pub ReadUnpacks : Type 0
ReadUnpacks =
    (text table : List ℕ) → unpack (unpack_lines 19 text) (pack pack_lines (reading text table).answer) ≡ (reading text table).answer

abbrev pub WriteUnpacks : Type 0
WriteUnpacks =
    (table text : List ℕ) → unpack (unpack_lines 3 table) (pack pack_lines (writing table text).answer) ≡ (writing table text).answer

abbrev pub EvaluateUnpacks : Type 0
EvaluateUnpacks =
    (circuit input_bytes output_bytes : List ℕ)
    → unpack unpack_one (pack pack_one (evaluating circuit input_bytes output_bytes).answer) ≡ (evaluating circuit input_bytes output_bytes).answer

abbrev pub MeasureUnpacks : Type 0
MeasureUnpacks = (circuit : List ℕ) → unpack unpack_pair (pack pack_pair (measuring circuit)) ≡ measuring circuit

abbrev pub JudgeUnpacks : Type 0
JudgeUnpacks = (rules : List ℕ) (rule : ℕ) → unpack unpack_one (pack pack_one (judging rules rule)) ≡ judging rules rule

abbrev pub MatchUnpacks : Type 0
MatchUnpacks =
    (circuit rules : List ℕ) (rule gate mask : ℕ)
    → unpack unpack_one (pack pack_one (matching circuit rules rule gate mask)) ≡ matching circuit rules rule gate mask

abbrev pub FindUnpacks : Type 0
FindUnpacks =
    (circuit rules : List ℕ) (rule gate limit : ℕ)
    → unpack unpack_finding (pack pack_finding (finding circuit rules rule gate limit)) ≡ finding circuit rules rule gate limit

-- with the lines, which are those of the circuit that the result table says
abbrev pub RewriteUnpacks : Type 0
RewriteUnpacks =
    (circuit rules sites result work verdicts : List ℕ)
    → unpack (unpack_rewriting (rewriting circuit rules sites result work verdicts).buffers.result)
    (pack pack_rewriting (rewriting circuit rules sites result work verdicts).answer)
    ≡ (rewriting circuit rules sites result work verdicts).answer

abbrev pub TranslateUnpacks : Type 0
TranslateUnpacks =
    (circuit : List ℕ) (limit : ℕ) (program : List ℕ)
    → unpack unpack_translation (pack pack_translation (translating circuit limit program).answer) ≡ (translating circuit limit program).answer

abbrev pub ListingUnpacks : Type 0
ListingUnpacks =
    (circuit rules sites listing : List ℕ)
    → unpack unpack_one (pack pack_one (listing_outcome circuit rules sites listing).answer) ≡ (listing_outcome circuit rules sites listing).answer
