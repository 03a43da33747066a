-- What a listing or a refusal can be: how long the one is, and which numbers the other has. Assumes nothing.
use mathlib.Core.Path.{◌≡◌}
use mathlib.Core.List.{List, [], ◌∷◌}
use Prim.Native.Nat.{ℕ, ◌≤◌}
use native.Mathlib.Omega.{arith}
use lib.Dec.{ltb}
use lib.ListN.{length}
use borrow.Author.Tests.{ltb-false, le-ltb}
use Rattle.lines.specs.Text.{read_text}
use Rattle.lines.specs.Refusal.{Result, refused, gives, no_table}
use Rattle.lines.specs.Checks.{answering}
use Rattle.lines.proofs.CheckLaws.{check-passed, Passed, EachFound, answer-given, answer-either}
use Rattle.lines.proofs.TextLaws.{bytes-length}
use Rattle.circuit.specs.Refusal.{refusal, circuit_table}
use Rattle.circuit.specs.WellFormed.{WellFormed}
use Rattle.circuit.proofs.RefusalLaws.{accepted-is-well-formed}
use Rattle.rules.specs.RuleRefusal.{rules_refusal, rules_table}
use Rattle.rules.specs.SiteTable.{sites_refusal, sites_table}
use Rattle.rules.specs.WellFormed.{WellFormedRules, WellFormedSites}
use Rattle.rules.proofs.RefusalLaws.{accepted-rules-are-well-formed}
use Rattle.rules.proofs.SiteLaws.{accepted-sites-are-well-formed}
use Rattle.rewriting.specs.RewriteCall.{table_checks}
use Rattle.rewriting.specs.SafeRun.{SafeRun}
use Rattle.rewriting.proofs.Theorems.{run-is-safe}
use Rattle.napspruce.specs.Listing.{listing_table, listing_text}
use Rattle.napspruce.specs.ListingCall.{max_listing, list_checks, list_tables, list_texts}
use Rattle.napspruce.specs.Limits.{Within, listing_limits}
use Rattle.napspruce.proofs.ListingLaws.{listing-length, listing-limit, listing-valid}
use Rattle.napspruce.proofs.RefusalLaws.{check-within, text-within, tables-within}

-- ---- what is given or refused

-- a refusal's number and table, or how many bytes are given
abbrev pub Known : Result → Type 0
Known (refused number table) = Within [] (refused number table)
Known (gives bytes) = (19 ≤ length bytes) × (length bytes ≤ max_listing)

-- tables that no refusal applies to
pub record Accepted (circuit rules sites : List ℕ) : Type 0 where
  pub of-circuit : WellFormed circuit
  pub of-rules : WellFormedRules rules
  pub of-sites : WellFormedSites sites
  pub safe : SafeRun circuit rules sites

accepted-of : (circuit rules sites : List ℕ) → refusal circuit ≡ 0 → rules_refusal rules ≡ 0 → sites_refusal sites ≡ 0 → Accepted circuit rules sites
accepted-of circuit rules sites a b c =
    let w = (accepted-is-well-formed circuit).0 a in
    let r = (accepted-rules-are-well-formed rules).0 b in
    record { of-circuit = w; of-rules = r; of-sites = (accepted-sites-are-well-formed sites).0 c; safe = run-is-safe circuit rules sites w r }

known-listing : (circuit rules sites : List ℕ) → Accepted circuit rules sites → Known (gives (listing_text circuit rules sites))
known-listing circuit rules sites k =
    let v = listing-valid circuit rules sites k.safe k.of-circuit k.of-sites in
    let l = bytes-length (listing_table circuit rules sites) _ (listing-length circuit rules sites k.safe) in
    (omega (arith, l), omega (arith, l, listing-limit circuit rules sites k.safe k.of-circuit k.of-sites))

tables-accepted : (circuit rules sites : List ℕ) → Passed (table_checks circuit rules sites) → Accepted circuit rules sites
tables-accepted circuit rules sites p = accepted-of circuit rules sites p.0 p.1.0 p.1.1.0

pub known-tables : (circuit rules sites : List ℕ) → Known (list_tables circuit rules sites)
unfolding list_tables
known-tables circuit rules sites =
    answer-either (table_checks circuit rules sites) _ Known (tables-within circuit rules sites)
    (λ p. known-listing circuit rules sites (tables-accepted circuit rules sites p))

module _ (circuit rules sites : List ℕ) (room : ℕ) where
  texts-within : EachFound (Within []) (list_checks circuit rules sites room)
  texts-within = (
    text-within circuit_table (omega arith) circuit,
    (
      text-within rules_table (omega arith) rules,
      (
        text-within sites_table (omega arith) sites,
        (check-within no_table (omega arith) (ltb room max_listing) 2 (omega arith), tables-within (read_text circuit) (read_text rules) (read_text sites)),
      ),
    ),
  )

  texts-accepted : Passed (list_checks circuit rules sites room) → Accepted (read_text circuit) (read_text rules) (read_text sites)
  texts-accepted p = tables-accepted (read_text circuit) (read_text rules) (read_text sites) p.1.1.1.1

  pub known-texts : Known (list_texts circuit rules sites room)
  unfolding list_texts
  known-texts =
      answer-either (list_checks circuit rules sites room) _ Known texts-within (λ p. known-listing (read_text circuit) (read_text rules) (read_text sites) (texts-accepted p))

  -- the same of the call, whose answer is the listing's length
  pub length-within : Within listing_limits (answering (list_checks circuit rules sites room) (length (listing_text (read_text circuit) (read_text rules) (read_text sites)) ∷ []))
  length-within =
      answer-either (list_checks circuit rules sites room) _ (Within listing_limits) texts-within
      (λ p. ((known-listing (read_text circuit) (read_text rules) (read_text sites) (texts-accepted p)).1, tt))

  -- there was room
  pub room-passed : Passed (list_checks circuit rules sites room) → max_listing ≤ room
  room-passed p = ltb-false room max_listing (check-passed _ 1 no_table p.1.1.1.0)

  -- more room than any listing needs makes no difference
  pub texts-room : max_listing ≤ room → list_texts circuit rules sites room ≡ list_texts circuit rules sites max_listing
  unfolding list_texts
  texts-room h = rw (le-ltb room max_listing h)

-- ---- what a success says

pub tables-given : (circuit rules sites bytes : List ℕ) → list_tables circuit rules sites ≡ gives bytes
    → Accepted circuit rules sites × (bytes ≡ listing_text circuit rules sites)
unfolding list_tables
tables-given circuit rules sites bytes e =
    let (p, b) = answer-given (table_checks circuit rules sites) _ bytes e in
    (tables-accepted circuit rules sites p, b)
