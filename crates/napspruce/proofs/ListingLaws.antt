-- The listing's numbers: how many there are, and that each can be written. Assumes nothing.
use mathlib.Core.Path.{◌≡◌, refl, sym, ap, ◌∙◌}
use mathlib.Core.Logic.{⊎_elim}
use mathlib.Core.Bool.{true}
use mathlib.Core.List.{List, [], ◌∷◌, ◌++◌, map}
use Prim.Native.Nat.{ℕ, suc, ◌+◌, ◌*◌, ◌/◌, ◌≤◌, ◌<◌}
use native.Mathlib.Nat.{mul-div_right}
use native.Mathlib.Omega.{arith}
use lib.ListN.{length, get_or, length-append}
use Rattle.lines.specs.Line.{is_row}
use Rattle.lines.proofs.CallLaws.{Valid}
use Rattle.lines.proofs.TextLaws.{AllSmall, small-append, small-rows, small_line, whole-passes}
use Rattle.circuit.specs.Circuit.{Gate, Start, Circuit, closing_kind, start_kind, constants, first_gate, no_gate, line_count, max_lines}
use Rattle.circuit.specs.Table.{decode, start_line, closing_line, encode_lines, encode}
use Rattle.circuit.specs.Depth.{circuit_depth}
use Rattle.circuit.specs.Critical.{critical_count}
use Rattle.circuit.specs.Each.{EachGate}
use Rattle.circuit.specs.Path.{is_among}
use Rattle.circuit.specs.Refusal.{starts_ascend, has_gate_kind}
use Rattle.circuit.specs.WellFormed.{WellFormed}
use Rattle.circuit.proofs.BoundLaws.{circuit-depth-le, critical-count-le}
use Rattle.circuit.proofs.EachLaws.{each_at, each_of}
use Rattle.circuit.proofs.EncodingLaws.{encode-lines-length}
use Rattle.circuit.proofs.StartLaws.{right-head, right-tail, right-count}
use Rattle.circuit.proofs.RefusalLaws.{either}
use Rattle.circuit.proofs.ValidLaws.{among-head, among-tail, limited-decode}
use Rattle.rules.specs.SiteTable.{site_count}
use Rattle.rules.specs.WellFormed.{WellFormedSites}
use Rattle.rewriting.specs.Run.{start_state, final_state, all_verdicts}
use Rattle.rewriting.specs.SafeRun.{SafeRun}
use Rattle.rewriting.proofs.RunLaws.{kept-limit}
use Rattle.rewriting.proofs.Theorems.{valid-encoded, limited-encoded}
use Rattle.napspruce.specs.declared.numbers.Summary.{Summary}
use Rattle.napspruce.specs.Listing.{verdict_kind, summary, verdict_lines, summary_of, listing_table}
use Rattle.napspruce.specs.ListingCall.{max_listing}

-- ---- those of a circuit

abbrev SmallLine : ℕ → Gate → Type 0
SmallLine m g = (g.kind ≤ 999999) × (g.left ≤ 999999) × (g.right ≤ 999999)

small-lines : (n : ℕ) (gs : List Gate) → EachGate SmallLine n gs → AllSmall (encode_lines gs)
unfolding encode_lines
small-lines n [] e = tt
small-lines n (g ∷ gs) e = small_line g.kind g.left g.right (encode_lines gs) e.0.0 e.0.1 e.0.2 (small-lines (suc n) gs e.1)

small-closings : (os : List ℕ) → ((o : ℕ) → is_among o os ≡ true → o ≤ 999999) → AllSmall (encode_lines (map closing_line os))
unfolding encode_lines
small-closings [] h = tt
small-closings (o ∷ os) h = small_line closing_kind o 0 (encode_lines (map closing_line os)) (omega arith) (h o (among-head o os)) (omega arith) (small-closings os (λ x e. h x (among-tail x o os e)))

small-starts : (top low : ℕ) → top ≤ 999999 → (ss : List Start) → starts_ascend top low ss ≡ true → AllSmall (encode_lines (map start_line ss))
unfolding encode_lines
small-starts top low h [] e = tt
small-starts top low h (s ∷ ss) e =
    let r = right-head top low s ss e in
    small_line start_kind s.input s.level (encode_lines (map start_line ss)) (omega arith) (omega arith) (omega arith)
    (small-starts top (suc s.input) h ss (right-tail top low s ss e))

small-circuit : (c : Circuit) → WellFormed (encode c) → AllSmall (encode c)
unfolding encode
small-circuit c w =
    let v = valid-encoded c w in
    let l = limited-encoded c w in
    let n = first_gate c.inputs in
    let line : (i : ℕ) → i < length c.gates → SmallLine (n + i) (get_or c.gates i no_gate) =
    λ i h.
    let k : (get_or c.gates i no_gate).kind ≤ 999999 =
    ⊎_elim (λ e. omega arith) (λ e. omega arith) (either (get_or c.gates i no_gate).kind (each_at (λ m g. has_gate_kind m g ≡ true) n c.gates v.kinds i h)) in
    let o = each_at (λ m g. (g.left < m) × (g.right < m)) n c.gates v.ordered i h in
    (k, omega (arith, o, l), omega (arith, o, l)) in
    let ss = encode_lines (map start_line c.starts) in
    let gs = encode_lines c.gates in
    let os = encode_lines (map closing_line c.outputs) in
    small_line c.inputs (length c.gates) (length c.outputs) (ss ++ (gs ++ os)) (omega (arith, l)) (omega (arith, l)) (omega (arith, l))
    (small-append ss (gs ++ os) (small-starts n constants (omega (arith, l)) c.starts v.starts-right)
    (small-append gs os (small-lines n c.gates (each_of SmallLine n c.gates line))
    (small-closings c.outputs (λ o e. omega (arith, v.outputs-below o e, l)))))

-- it has no more lines than the largest table
pub lines-limit : (c : Circuit) → WellFormed (encode c) → line_count c ≤ max_lines
lines-limit c w =
    omega (arith, limited-encoded c w, right-count (first_gate c.inputs) constants c.starts (valid-encoded c w).starts-right (omega arith))

-- ---- the pairs and counts, and the verdicts

pub summary-length : (s : Summary) → length (summary s) ≡ 9
unfolding summary
summary-length s = refl

small-summary : (s : Summary) → s.old.depth ≤ 999999 → s.old.critical ≤ 999999 → s.new.depth ≤ 999999 → s.new.critical ≤ 999999
    → s.sites ≤ 999999 → s.kept ≤ 999999 → AllSmall (summary s)
unfolding summary
small-summary s a b c d e f = (omega arith, (a, (b, (omega arith, (c, (d, (omega arith, (e, (f, tt)))))))))

pub verdicts-length : (n : ℕ) (vs : List ℕ) → length (verdict_lines n vs) ≡ 3 * length vs
unfolding verdict_lines
verdicts-length n [] = refl
verdicts-length n (v ∷ vs) = omega (arith, verdicts-length (suc n) vs)

small-verdicts : (n : ℕ) (vs : List ℕ) → n + length vs ≤ 999999 → ((i : ℕ) → get_or vs i 0 ≤ 6) → AllSmall (verdict_lines n vs)
unfolding verdict_lines
small-verdicts n [] h v = tt
small-verdicts n (x ∷ vs) h v =
    let b : x ≤ 6 = v 0 in
    small_line verdict_kind n x (verdict_lines (suc n) vs) (omega arith) (omega arith) (omega arith) (small-verdicts (suc n) vs (omega arith) (λ i. v (suc i)))

-- ---- the listing

module _ (circuit rules sites : List ℕ) (safe : SafeRun circuit rules sites) where
  abbrev final : Circuit
  final = (final_state circuit rules sites).circuit

  abbrev listed : ℕ
  listed = line_count final + 3 + site_count sites

  pub listing-length : length (listing_table circuit rules sites) ≡ 3 * listed
  unfolding listing_table
  listing-length =
      let s = summary_of circuit rules sites in
      let v = verdict_lines 1 (all_verdicts circuit rules sites) in
      length-append (encode final) (summary s ++ v)
      ∙ omega (arith, encode-lines-length final, length-append (summary s) v, summary-length s, verdicts-length 1 (all_verdicts circuit rules sites), safe.verdict-each)

  module _ (w : WellFormed circuit) (ws : WellFormedSites sites) where
    pub listing-limit : 19 * listed ≤ max_listing
    listing-limit = omega (arith, lines-limit final safe.well-formed, ws.count-limit)

    small-listing : AllSmall (listing_table circuit rules sites)
    unfolding listing_table
    small-listing =
        let old = limited-decode circuit w.sized in
        let new = limited-encoded final safe.well-formed in
        let d₀ : circuit_depth (decode circuit) ≤ 999999 = omega (arith, circuit-depth-le (decode circuit) w.starts-right, old) in
        let n₀ : critical_count (decode circuit) ≤ 999999 = omega (arith, critical-count-le (decode circuit), old) in
        let d₁ : circuit_depth final ≤ 999999 = omega (arith, circuit-depth-le final (valid-encoded final safe.well-formed).starts-right, new) in
        let n₁ : critical_count final ≤ 999999 = omega (arith, critical-count-le final, new) in
        let k : (final_state circuit rules sites).kept ≤ 999999 = omega (arith, kept-limit rules sites (start_state (decode circuit)) (site_count sites), ws.count-limit) in
        let v = verdict_lines 1 (all_verdicts circuit rules sites) in
        small-append (encode final) (summary (summary_of circuit rules sites) ++ v) (small-circuit final safe.well-formed)
        (small-append (summary (summary_of circuit rules sites)) v (small-summary (summary_of circuit rules sites) d₀ n₀ d₁ n₁ (omega (arith, ws.count-limit)) k)
        (small-verdicts 1 (all_verdicts circuit rules sites) (omega (arith, safe.verdict-each, ws.count-limit)) safe.verdict-limit))

    pub listing-valid : Valid 3 is_row (listing_table circuit rules sites) listed
    listing-valid =
        record {
          whole = record {
            count = sym (ap (λ (j : ℕ). j / 3) listing-length ∙ mul-div_right listed (omega arith));
            long = listing-length;
            some = omega arith;
          };
          not-partial = whole-passes 3 listed (listing_table circuit rules sites) (omega arith) listing-length (omega arith);
          right = small-rows listed (listing_table circuit rules sites) small-listing;
        }
