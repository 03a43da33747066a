-- The theorems on the listing and on what the program prints. Assumes nothing.
use mathlib.Core.Path.{◌≡◌, sym, ap, ap₂, ◌∙◌}
use mathlib.Core.List.{List, [], ◌∷◌}
use Prim.Native.Nat.{ℕ, ◌≤◌}
use native.Mathlib.Omega.{arith}
use lib.ListN.{length, get_or}
use Rattle.lines.specs.Refusal.{Result, refused, gives, leaving}
use Rattle.lines.specs.Text.{read_text, write_table}
use Rattle.lines.specs.Checks.{found, buffers_after}
use Rattle.lines.specs.Calls.{over}
use Rattle.lines.proofs.CheckLaws.{answer-refused, answer-gives, answer-given, answer-turned}
use Rattle.lines.proofs.Theorems.{read-after-write}
use Rattle.napspruce.specs.Listing.{listing_table, listing_text}
use Rattle.napspruce.specs.ListingCall.{max_listing, list_checks, list_texts, listing_outcome}
use Rattle.napspruce.specs.Printed.{refusal_kind, printed_of, printed}
use Rattle.napspruce.specs.Theorems.{ListedIsSafe, ListedIsText, RefusalKeepsBuffer, ListingIsPrinted, RefusalIsPrinted, PrintedFits}
use Rattle.napspruce.proofs.ListingLaws.{listing-valid}
use Rattle.lines.proofs.TextLaws.{valid-table}
use Rattle.napspruce.proofs.WriteLaws.{refusal-length}
use Rattle.napspruce.proofs.KnownLaws.{Known, known-tables, known-texts, tables-given, room-passed, texts-room}

-- ---- the listing

pub listed-is-safe : ListedIsSafe
listed-is-safe circuit rules sites bytes e =
    let (k, b) = tables-given circuit rules sites bytes e in
    (k.of-circuit, k.of-rules, k.of-sites, b, k.safe)

pub listed-is-text : ListedIsText
listed-is-text circuit rules sites bytes e =
    let (k, b) = tables-given circuit rules sites bytes e in
    let ok = valid-table (listing_table circuit rules sites) _ (listing-valid circuit rules sites k.safe k.of-circuit k.of-sites) in
    let (back, text) = read-after-write (listing_table circuit rules sites) ok in
    let limit : Known (gives bytes) = rw e at (known-tables circuit rules sites) in
    (rw b text, rw b back, limit.1)

-- ---- the call

abbrev text : (circuit rules sites : List ℕ) → List ℕ
text circuit rules sites = listing_text (read_text circuit) (read_text rules) (read_text sites)

pub refusal-keeps-buffer : RefusalKeepsBuffer
unfolding listing_outcome
refusal-keeps-buffer circuit rules sites buffer number table e = ap (λ r. buffers_after r buffer (over (text circuit rules sites) buffer)) e

-- ---- the program

pub listing-is-printed : ListingIsPrinted
unfolding listing_outcome list_texts printed
listing-is-printed circuit rules sites buffer n e =
    let (p, v) = answer-given (list_checks circuit rules sites (length buffer)) _ _ e in
    let same : printed circuit rules sites ≡ text circuit rules sites =
    ap printed_of (sym (texts-room circuit rules sites (length buffer) (room-passed circuit rules sites (length buffer) p)) ∙ answer-gives (list_checks circuit rules sites (length buffer)) _ p) in
    (ap (λ l. get_or l 0 0) v ∙ ap length (sym same), ap (λ r. buffers_after r buffer (over (text circuit rules sites) buffer)) e ∙ ap (λ y. over y buffer) (sym same))

pub refusal-is-printed : RefusalIsPrinted
unfolding listing_outcome list_texts printed
refusal-is-printed circuit rules sites buffer number table h e =
    let (q, some) = answer-turned (list_checks circuit rules sites (length buffer)) _ number table e in
    ap printed_of (sym (texts-room circuit rules sites (length buffer) h) ∙ answer-refused (list_checks circuit rules sites (length buffer)) _ (found number table) q some)

fits-known : (x : Result) → Known x → (19 ≤ length (printed_of x)) × (length (printed_of x) ≤ max_listing)
fits-known (refused number table) k = let l = refusal-length number table in (omega (arith, l), omega (arith, l))
fits-known (gives bytes) k = k

pub printed-fits : PrintedFits
unfolding printed
printed-fits circuit rules sites = fits-known (list_texts circuit rules sites max_listing) (known-texts circuit rules sites max_listing)

-- ---- for the functions, whose answer x and buffer are those of the call

module _ (circuit rules sites buffer : List ℕ) where
  pub printed-listing : (n : ℕ) (after : List ℕ) → leaving (gives (n ∷ [])) after ≡ listing_outcome circuit rules sites buffer
      → (n ≡ length (printed circuit rules sites)) × (after ≡ over (printed circuit rules sites) buffer)
  printed-listing n after q =
      let (l, b) = listing-is-printed circuit rules sites buffer n (ap (λ o. o.answer) (sym q)) in
      (l, ap (λ o. o.buffers) q ∙ b)

  pub printed-refusal : (number table : ℕ) (after : List ℕ) → leaving (refused number table) after ≡ listing_outcome circuit rules sites buffer
      → max_listing ≤ length buffer → (n : ℕ) (out : List ℕ) → n ≡ length (write_table (refusal_kind ∷ number ∷ table ∷ []))
      → out ≡ over (write_table (refusal_kind ∷ number ∷ table ∷ [])) after
      → (n ≡ length (printed circuit rules sites)) × (out ≡ over (printed circuit rules sites) buffer)
  printed-refusal number table after q room n out l e =
      let r : (listing_outcome circuit rules sites buffer).answer ≡ refused number table = ap (λ o. o.answer) (sym q) in
      let p = sym (refusal-is-printed circuit rules sites buffer number table room r) in
      let kept : after ≡ buffer = ap (λ o. o.buffers) q ∙ refusal-keeps-buffer circuit rules sites buffer number table r in
      (l ∙ ap length p, e ∙ ap₂ (λ x y. over x y) p kept)
