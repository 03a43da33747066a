-- The listing of tables, of their fronts, and of texts. Assumes nothing.
use mathlib.Core.Path.{◌≡◌, sym, ap, ap₂, ◌∙◌}
use mathlib.Core.Logic.{⊎_elim}
use mathlib.Core.Bool.{false}
use mathlib.Core.List.{List, [], ◌∷◌}
use Prim.Native.Nat.{ℕ, ◌+◌, ◌*◌, ◌/◌, ◌≤◌}
use native.Mathlib.Decide.{dec_lt}
use native.Mathlib.Omega.{arith}
use lib.Dec.{ltb}
use lib.ListN.{length, take, get_or, replicate, length-replicate}
use lib.Seq.{length-take-le, take_all}
use borrow.Author.Tests.{le-ltb}
use Rattle.lines.specs.Text.{is_partial, read_text, write_table}
use Rattle.lines.specs.Refusal.{refused, gives, no_table, leaving}
use Rattle.lines.specs.Checks.{found, check, answering, afterwards}
use Rattle.lines.specs.Calls.{over}
use Rattle.lines.proofs.CheckLaws.{check-passes, Passed, answer-turned, answer-same, outcome-refused, outcome-gives, outcome-same, found-behind, answer-behind}
use Rattle.lines.proofs.TextLaws.{whole-passes, numbers-length}
use Rattle.circuit.specs.Circuit.{max_table, line_count, max_lines}
use Rattle.circuit.specs.Table.{encode}
use Rattle.circuit.specs.Refusal.{refusal, circuit_table}
use Rattle.circuit.proofs.BufferLaws.{over-take}
use Rattle.circuit.proofs.EncodingLaws.{encode-lines-length}
use Rattle.rules.specs.RuleRefusal.{rules_refusal, rules_table}
use Rattle.rules.specs.SiteTable.{site_count, max_sites, sites_refusal, sites_table}
use Rattle.rewriting.specs.Run.{final_state, all_verdicts}
use Rattle.rewriting.specs.declared.Rewriting.{Rewriting}
use Rattle.rewriting.specs.RewriteCall.{Lent, values_of, outcome_of, are_short, done_values, table_checks, rewrite_checks, rewriting}
use Rattle.rewriting.proofs.CallLaws.{rewriting-given}
use Rattle.rewriting.proofs.Theorems.{success-is-safe}
use Rattle.napspruce.specs.declared.numbers.Summary.{Summary}
use Rattle.napspruce.specs.Listing.{listing_lines, summary_of, listing_table, listing_text}
use Rattle.napspruce.specs.ListingCall.{max_listing, text_refusal, text_checks, list_tables, list_texts, putting, tables_outcome, listing_outcome}
use Rattle.napspruce.specs.Front.{max_rules_lines, max_sites_lines, front, shortened}
use Rattle.napspruce.specs.Theorems.{FrontIsListedAlike, CutIsListedAlike}
use Rattle.napspruce.proofs.TextLaws.{accepted-text, cut-accepted, cut-read}
use Rattle.napspruce.proofs.FrontLaws.{Alike, alike-number, rules-alike, sites-alike}
use Rattle.napspruce.proofs.ShortenedLaws.{circuit-alike}
use Rattle.napspruce.proofs.ListingLaws.{lines-limit}

-- ---- of tables

alike_same : (refusal : List ℕ → ℕ) (f t : List ℕ) → Alike refusal f t → refusal t ≡ 0 → f ≡ t
alike_same refusal f t a z = ⊎_elim (λ e. e) (λ w. absurd (w.1 z)) a

-- the fronts of tables: their checks, and the listing where none applies
module _ (c r s : List ℕ) (pc : is_partial 3 c ≡ false) (pr : is_partial 3 r ≡ false) (ps : is_partial 3 s ≡ false) where
  abbrev c' : List ℕ
  c' = shortened c

  abbrev r' : List ℕ
  r' = front max_rules_lines r

  abbrev s' : List ℕ
  s' = front max_sites_lines s

  front-checks : table_checks c' r' s' ≡ table_checks c r s
  front-checks =
      ap (λ k. found k circuit_table ∷ found (rules_refusal r') rules_table ∷ found (sites_refusal s') sites_table ∷ [])
      (alike-number refusal c' c (circuit-alike c pc))
      ∙ ap₂ (λ j k. found (refusal c) circuit_table ∷ found j rules_table ∷ found k sites_table ∷ [])
      (alike-number rules_refusal r' r (rules-alike r pr)) (alike-number sites_refusal s' s (sites-alike s ps))

  front-text : Passed (table_checks c r s) → listing_text c' r' s' ≡ listing_text c r s
  front-text p =
      ap₂ (λ j k. listing_text j k s') (alike_same refusal c' c (circuit-alike c pc) p.0) (alike_same rules_refusal r' r (rules-alike r pr) p.1.0)
      ∙ ap (λ k. listing_text c r k) (alike_same sites_refusal s' s (sites-alike s ps) p.1.1.0)

pub front-is-listed-alike : FrontIsListedAlike
unfolding list_tables
front-is-listed-alike c r s pc pr ps =
    ap (λ ks. answering ks (listing_text (shortened c) (front max_rules_lines r) (front max_sites_lines s))) (front-checks c r s pc pr ps)
    ∙ answer-same (table_checks c r s) _ _ (front-text c r s pc pr ps)

-- ---- by the call `rewrite`, on tables of whole lines and buffers with room

pub listed-refused : (circuit rules sites result work verdicts : List ℕ)
    → is_partial 3 circuit ≡ false → is_partial 3 rules ≡ false → is_partial 3 sites ≡ false
    → are_short result work verdicts ≡ false → (number table : ℕ) → (rewriting circuit rules sites result work verdicts).answer ≡ refused number table
    → (buffer : List ℕ) → leaving (refused number table) buffer ≡ tables_outcome circuit rules sites buffer
unfolding rewriting
listed-refused circuit rules sites result work verdicts pc pr ps room number table e buffer =
    let ks = rewrite_checks circuit rules sites result work verdicts in
    let (q, some) = answer-turned ks _ number table e in
    let p : Passed (take 4 ks) = (check-passes _ 1 _ pc, (check-passes _ 1 _ pr, (check-passes _ 1 _ ps, (check-passes _ 2 _ room, tt)))) in
    outcome-refused (table_checks circuit rules sites) _ buffer _ (found number table)
    (q ∙ found-behind (table_checks circuit rules sites) (take 4 ks) p) some

-- what a success leaves: the listing's numbers, in parts
pub record Rewrote (circuit rules sites table verdicts : List ℕ) (lines : ℕ) (s : Summary) : Type 0 where
  pub accepted : Passed (table_checks circuit rules sites)
  pub numbers : listing_lines (take (3 * lines) table) s (take s.sites verdicts) ≡ listing_table circuit rules sites
  pub line-limit : lines ≤ max_lines
  pub site-limit : s.sites ≤ max_sites
  -- each site has its verdict in a buffer for the most that there can be
  pub there : s.sites ≤ length verdicts
  pub each : length (take s.sites verdicts) ≡ s.sites

-- the summary's numbers among those of a success
abbrev summary_by : (count : ℕ) (values : List ℕ) → Summary
summary_by count values =
    record {
      old = record { depth = get_or values 1 0; critical = get_or values 2 0 };
      new = record { depth = get_or values 3 0; critical = get_or values 4 0 };
      sites = count;
      kept = get_or values 5 0;
    }

pub rewrote : (circuit rules sites result work verdicts table rest given : List ℕ) (done : Rewriting) → length given ≡ max_sites
    → outcome_of (gives (values_of done)) table rest given ≡ rewriting circuit rules sites result work verdicts
    → Rewrote circuit rules sites table given done.lines
    (record { old = done.old; new = done.new; sites = site_count sites; kept = done.kept })
unfolding done_values listing_table
rewrote circuit rules sites result work verdicts table rest given done room q =
    let e = ap (λ x. x.answer) (sym q) in
    let (a, b, c, values, o) = rewriting-given circuit rules sites result work verdicts _ e in
    let (w, wr, ws, v', safe) = success-is-safe circuit rules sites result work verdicts _ e in
    let final = (final_state circuit rules sites).circuit in
    let l : done.lines ≡ line_count final = ap (λ x. get_or x 0 0) values in
    let left = ap (λ x. x.buffers) q ∙ o in
    let t : table ≡ _ = ap (λ (x : Lent). x.result) left in
    let g : given ≡ _ = ap (λ (x : Lent). x.verdicts) left in
    let circuit_lines : take (3 * done.lines) table ≡ encode final =
    ap (take (3 * done.lines)) t ∙ over-take (encode final) result (3 * done.lines) (encode-lines-length final ∙ ap (λ k. 3 * k) (sym l)) in
    let verdict_bytes : take (site_count sites) given ≡ all_verdicts circuit rules sites =
    ap (take (site_count sites)) g ∙ over-take (all_verdicts circuit rules sites) verdicts (site_count sites) safe.verdict-each in
    let s : record { old = done.old; new = done.new; sites = site_count sites; kept = done.kept } ≡ summary_of circuit rules sites =
    ap (summary_by (site_count sites)) values in
    record {
      accepted = (a, (b, (c, tt)));
      numbers =
          ap₂ (λ x y. listing_lines x y (take (site_count sites) given)) circuit_lines s
          ∙ ap (λ x. listing_lines (encode final) (summary_of circuit rules sites) x) verdict_bytes;
      line-limit = omega (arith, l, lines-limit final safe.well-formed);
      site-limit = ws.count-limit;
      there = omega (arith, ws.count-limit, room);
      each = length-take-le (site_count sites) given (omega (arith, ws.count-limit, room));
    }

pub listed-done : (circuit rules sites buffer table verdicts : List ℕ) (lines : ℕ) (s : Summary)
    → Rewrote circuit rules sites table verdicts lines s → (n : ℕ) (after : List ℕ)
    → n ≡ length (write_table (listing_lines (take (3 * lines) table) s (take s.sites verdicts)))
    → after ≡ over (write_table (listing_lines (take (3 * lines) table) s (take s.sites verdicts))) buffer
    → leaving (gives (n ∷ [])) after ≡ tables_outcome circuit rules sites buffer
listed-done circuit rules sites buffer table verdicts lines s w n after l e =
    let t = ap write_table w.numbers in
    outcome-gives (table_checks circuit rules sites) _ buffer _ w.accepted _ _
    (ap (λ k. gives (k ∷ [])) (l ∙ ap length t)) (e ∙ ap (λ x. over x buffer) t)

-- the buffers that are lent to it have room
pub enough-room : (m n k : ℕ) → max_table ≤ m → max_table ≤ n → max_sites ≤ k → are_short (replicate m 0) (replicate n 0) (replicate k 0) ≡ false
enough-room m n k a b c =
    rw (
      length-replicate {A = ℕ} m 0,
      length-replicate {A = ℕ} n 0,
      length-replicate {A = ℕ} k 0,
      le-ltb m max_table a,
      le-ltb n max_table b,
      le-ltb k max_sites c,
    )

-- ---- of texts

-- what is read of a text is whole lines, at least one
pub text-whole : (text : List ℕ) → text_refusal text ≡ 0 → is_partial 3 (read_text text) ≡ false
text-whole text h =
    let v = accepted-text text h in
    whole-passes 3 (length text / 19) (read_text text) (omega arith) (numbers-length text (length text / 19) v) v.whole.some

pub front-whole : (most : ℕ) (text : List ℕ) → text_refusal text ≡ 0 → is_partial 3 (front most (read_text text)) ≡ false
front-whole most text h =
    elim (dec_lt (3 * (most + 1)) (length (read_text text))) [
      | yes l ↦
          whole-passes 3 (most + 1) (front most (read_text text)) (omega arith)
          (length-take-le (3 * (most + 1)) (read_text text) (omega arith)) (omega arith)
      | no l ↦ ap (is_partial 3) (take_all (3 * (most + 1)) (read_text text) (omega arith)) ∙ text-whole text h
    ]

pub fronts-listed : (circuit rules sites buffer : List ℕ) → text_refusal circuit ≡ 0 → text_refusal rules ≡ 0 → text_refusal sites ≡ 0
    → (c r s : List ℕ)
    → c ≡ shortened (read_text circuit) → r ≡ front max_rules_lines (read_text rules) → s ≡ front max_sites_lines (read_text sites)
    → tables_outcome c r s buffer ≡ tables_outcome (read_text circuit) (read_text rules) (read_text sites) buffer
fronts-listed circuit rules sites buffer hc hr hs c r s ec er es =
    let t = read_text circuit in
    let u = read_text rules in
    let v = read_text sites in
    let pc = text-whole circuit hc in
    let pr = text-whole rules hr in
    let ps = text-whole sites hs in
    ap₂ (λ x y. tables_outcome x y s buffer) ec er ∙ ap (λ z. tables_outcome (shortened t) (front max_rules_lines u) z buffer) es
    ∙ ap (λ ks. putting ks (listing_text (shortened t) (front max_rules_lines u) (front max_sites_lines v)) buffer) (front-checks t u v pc pr ps)
    ∙ outcome-same (table_checks t u v) _ _ buffer _ _
    (λ p. let e = front-text t u v pc pr ps p in (ap (λ x. length x ∷ []) e, ap (λ x. over x buffer) e))

pub cut-is-listed-alike : CutIsListedAlike
unfolding list_texts
cut-is-listed-alike circuit rules sites room hc hr hs cut_circuit accepted read =
    let t = read_text circuit in
    let u = read_text rules in
    let v = read_text sites in
    let pc = text-whole circuit hc in
    let pr = text-whole rules hr in
    let ps = text-whole sites hs in
    rw (
      accepted,
      cut-accepted max_rules_lines rules hr,
      cut-accepted max_sites_lines sites hs,
      read,
      cut-read max_rules_lines rules hr,
      cut-read max_sites_lines sites hs,
      hc,
      hr,
      hs,
    )
    (ap (λ ks. answering (found 0 circuit_table ∷ found 0 rules_table ∷ found 0 sites_table ∷ check (ltb room max_listing) 2 no_table ∷ ks)
    (listing_text (shortened t) (front max_rules_lines u) (front max_sites_lines v))) (front-checks t u v pc pr ps)
    ∙ answer-same (found 0 circuit_table ∷ found 0 rules_table ∷ found 0 sites_table ∷ check (ltb room max_listing) 2 no_table ∷ table_checks t u v) _ _
    (λ p. front-text t u v pc pr ps p.1.1.1.1))

-- texts that no check applies to are listed as their tables are
pub listing-accepted : (circuit rules sites buffer : List ℕ) → Passed (text_checks circuit rules sites (length buffer))
    → tables_outcome (read_text circuit) (read_text rules) (read_text sites) buffer ≡ listing_outcome circuit rules sites buffer
unfolding listing_outcome
listing-accepted circuit rules sites buffer p =
    let t = listing_text (read_text circuit) (read_text rules) (read_text sites) in
    ap (λ r. afterwards r buffer (over t buffer))
    (sym (answer-behind (table_checks (read_text circuit) (read_text rules) (read_text sites)) (text_checks circuit rules sites (length buffer)) _ p))
