-- What a step makes of the circuit as it then is, and what the loop over the sites makes of the steps. Assumes nothing.
use mathlib.Core.Path.{◌≡◌, refl, sym, ap, ap₂, ◌∙◌}
use mathlib.Core.Bool.{Bool, true, false}
use mathlib.Core.List.{List, []}
use Prim.Native.Nat.{ℕ, zero, suc, ◌+◌, ◌*◌, ◌-◌, ◌/◌, ◌≤◌, ◌<◌}
use native.Mathlib.Nat.{not-suc-le-zero, le_of_suc-le-suc, add-zero}
use native.Mathlib.Omega.{arith}
use lib.ListN.{length, take, drop, get_or, length-drop}
use lib.Seq.{take_all, get_or-take, get_or-drop, drop-drop}
use borrow.Author.Tests.{lt-ltb, le-ltb}
use Rattle.lists.specs.First.{first}
use Rattle.lists.proofs.First.{first-true, first-false}
use Rattle.lists.proofs.Below.{below-element}
use Rattle.lines.specs.Calls.{over}
use Rattle.circuit.specs.Critical.{pair_of}
use Rattle.circuit.specs.Circuit.{Circuit, references, max_gates}
use Rattle.circuit.specs.Depth.{depths}
use Rattle.circuit.specs.Path.{is_gate}
use Rattle.circuit.specs.Table.{gates, decode, encode}
use Rattle.circuit.specs.Trim.{trim, trim_of}
use Rattle.circuit.specs.WellFormed.{WellFormed}
use Rattle.circuit.specs.declared.critical.DepthPair.{DepthPair}
use Rattle.circuit.proofs.TableLaws.{lines-length, gates-length}
use Rattle.circuit.proofs.GateLaws.{gate-from, gate-to}
use Rattle.circuit.proofs.ValidLaws.{Valid, valid-decode, limited-decode, well-formed-encode}
use Rattle.circuit.proofs.EncodingLaws.{decode-after-encode}
use Rattle.circuit.proofs.FrontLaws.{front-is, front_fits}
use Rattle.circuit.proofs.TrimTheorems.{decode-trim, trimmed-is-well-formed}
use Rattle.std.specs.Prelude.{Ok}
use Rattle.std.specs.Simd.{first_chunks}
use Rattle.rules.specs.declared.Verdict.{Verdict}
use Rattle.rules.specs.declared.Verdict.TheVariants.{NoRule, NotSound, NotAGate, NoMatch, TooLarge, NotLower}
use Rattle.rules.specs.Remembered.{judged_rule}
use Rattle.rules.specs.Rule.{Rule}
use Rattle.rules.specs.RuleTable.{rights_at, right_from, rule_at, rule_of}
use Rattle.rules.specs.SiteTable.{Site, site, site_at, site_count}
use Rattle.rules.specs.Verdict.{SiteMatch, passes, failing, verdict_number, match_judged}
use Rattle.rules.specs.WellFormed.{WellFormedRules, WellFormedSites}
use Rattle.rules.proofs.JudgedLaws.{judged-facts, judged-site}
use Rattle.rewriting.specs.Replacement.{replace, BoundBelow}
use Rattle.rewriting.specs.Pair.{is_lower}
use Rattle.rewriting.specs.Verdict.{too_large, not_lower, site_match, is_too_large, replaced}
use Rattle.rewriting.specs.Run.{State, Step, step, after_sites, verdict_at, verdicts_of}
use Rattle.rewriting.specs.RunState.{DepthsOf, Held, SameBelow}
use Rattle.rewriting.specs.StepParts.{stepped, settled}
use Rattle.rewriting.proofs.ReplacementLaws.{bound-below, matched-gate}
use Rattle.rewriting.proofs.DepthLaws.{replaced-place, below_stays}
use Rattle.rewriting.proofs.PairLaws.{trim-pair}
use Rattle.rewriting.proofs.StepLaws.{step-unmatched, step-large, matched, replaced-valid, replaced-limited, step_after}
use Rattle.rewriting.proofs.RunLaws.{after_more}

-- ---- before replacement

-- verdict 5, by the counts in the tables' heads
module _ (d t : List ℕ) (p : ℕ) where
  sizes : length (decode d).gates + length (rule_at t p).rights ≡ gates d + rights_at t p
  sizes = ap₂ ◌+◌ (gates-length d) (lines-length (rights_at t p) (drop (right_from t p) t))

  pub size-beyond : max_gates + 1 < gates d + rights_at t p → too_large ≡ first (is_too_large (decode d) (rule_at t p)) too_large passes
  size-beyond h = sym (first-true too_large passes (lt-ltb (max_gates + 1) (length (decode d).gates + length (rule_at t p).rights) (omega (arith, h, sizes))))

  pub size-within : gates d + rights_at t p ≤ max_gates + 1 → passes ≡ first (is_too_large (decode d) (rule_at t p)) too_large passes
  size-within h = sym (first-false too_large passes (le-ltb (max_gates + 1) (length (decode d).gates + length (rule_at t p).rights) (omega (arith, h, sizes))))

-- a verdict that applies is not 0
verdict-some : (v : Verdict) → verdict_number v ≡ passes → ⊥
verdict-some NoRule e = omega arith
verdict-some NotSound e = omega arith
verdict-some NotAGate e = omega arith
verdict-some NoMatch e = omega arith
verdict-some TooLarge e = omega arith
verdict-some NotLower e = omega arith

-- v is the match's verdict
pub site-refused : (rules : List ℕ) (s : State) (site : Site) (v : Verdict) → failing (verdict_number v) ≡ site_match s.circuit rules site
    → stepped s (verdict_number v) ≡ step rules s site
site-refused rules s site v h =
    let k : verdict_number v ≡ (site_match s.circuit rules site).verdict = ap (λ (m : SiteMatch). m.verdict) h in
    ap (stepped s) k ∙ step-unmatched rules s site (λ z. verdict-some v (k ∙ z))

-- ---- a site of the state s, of whose circuit t is the table

module _ (t rules : List ℕ) (s : State) (e : decode t ≡ s.circuit) (site : Site) where
  abbrev now : State
  now = record { circuit = decode t; kept = s.kept }

  same : now ≡ s
  same = ap {B = State} (λ c. record { circuit = c; kept = s.kept }) e

  stays : (n : ℕ) → stepped now n ≡ step rules now site → stepped s n ≡ step rules s site
  stays n h = ap (λ x. stepped x n) (sym same) ∙ h ∙ ap (λ x. step rules x site) same

  -- the rule is u, and v is the match's verdict
  pub site-failing : (u : Rule) → Ok u ≡ judged_rule rules site.rule → (v : Verdict)
      → failing (verdict_number v) ≡ match_judged (decode t) u passes site.gate site.mask → stepped s (verdict_number v) ≡ step rules s site
  site-failing u k v h = stays (verdict_number v) (site-refused rules now site v (h ∙ judged-site rules site.rule u k (decode t) site.gate site.mask))

  -- it matches by the bindings b
  module _ (u : Rule) (k : Ok u ≡ judged_rule rules site.rule)
      (b : List ℕ) (f : record { verdict = passes; bindings = b } ≡ match_judged (decode t) u passes site.gate site.mask) where
    rule : u ≡ rule_of rules site.rule
    rule = (judged-facts rules site.rule u k).2

    found : record { verdict = passes; bindings = b } ≡ site_match (decode t) rules site
    found = f ∙ judged-site rules site.rule u k (decode t) site.gate site.mask

    none : (site_match (decode t) rules site).verdict ≡ passes
    none = ap (λ (x : SiteMatch). x.verdict) (sym found)

    bound : b ≡ (site_match (decode t) rules site).bindings
    bound = ap (λ (x : SiteMatch). x.bindings) found

    large : (x : Bool) → is_too_large (decode t) u ≡ x → is_too_large (decode t) (rule_of rules site.rule) ≡ x
    large x h = ap (is_too_large (decode t)) (sym rule) ∙ h

    -- v is the verdict on the size
    pub site-large : (v : Verdict) → verdict_number v ≡ first (is_too_large (decode t) u) too_large passes
        → stepped s (verdict_number v) ≡ step rules s site
    site-large v h = go (is_too_large (decode t) u) refl
      where
        go : (x : Bool) → is_too_large (decode t) u ≡ x → stepped s (verdict_number v) ≡ step rules s site
        go true q = let n : verdict_number v ≡ too_large = h ∙ rw q in stays (verdict_number v) (ap (stepped now) n ∙ step-large rules now site none (large true q))
        go false q = let n : verdict_number v ≡ passes = h ∙ rw q in absurd (verdict-some v n)

    -- ---- it is replaced

    module _ (w : WellFormed t) (r : WellFormedRules rules) (l : passes ≡ first (is_too_large (decode t) u) too_large passes) where
      within : is_too_large (decode t) u ≡ false
      within = go (is_too_large (decode t) u) l
        where
          go : (x : Bool) → passes ≡ first x too_large passes → x ≡ false
          go true h = let no_way : ⊥ = omega arith in absurd no_way
          go false h = refl

      fits : is_too_large (decode t) (rule_of rules site.rule) ≡ false
      fits = large false within

      pub replacing-asks : (is_gate (decode t) site.gate ≡ true) × BoundBelow u site.gate b × (is_too_large (decode t) u ≡ false)
      replacing-asks =
          let ok = valid-decode t w in
          let (v, sound, sub) = matched (decode t) ok rules r site none in (
            matched-gate (decode t) ok (rule_of rules site.rule) v site.gate site.mask _ sub,
            rw (rule, bound) (bound-below (decode t) ok (rule_of rules site.rule) v site.gate site.mask _ sub),
            within,
          )

      -- x is the replaced table
      module _ (x : List ℕ) (g : x ≡ encode (replace (decode t) u site.gate b)) where
        replaced-table : x ≡ encode (replaced (decode t) rules site)
        replaced-table = g ∙ rw (rule, bound)

        new-valid : Valid (replaced (decode t) rules site)
        new-valid = replaced-valid (decode t) (valid-decode t w) rules r site none

        pub replaced-well-formed : WellFormed x
        replaced-well-formed =
            rw replaced-table
            (well-formed-encode (replaced (decode t) rules site) new-valid
            (replaced-limited (decode t) (valid-decode t w) rules r site none (limited-decode t w.sized) fits))

        decoded : decode x ≡ replaced (decode t) rules site
        decoded = ap decode replaced-table ∙ decode-after-encode (replaced (decode t) rules site) new-valid.kinds

        -- the gate's place is in it too, and what is below has the depths that it had
        replaced-same : SameBelow s.circuit site.gate x
        replaced-same =
            let lo = gate-from (decode t) site.gate replacing-asks.0 in
            let hi = gate-to (decode t) site.gate replacing-asks.0 in
            let bs = (site_match (decode t) rules site).bindings in
            let there = replaced-place (decode t) (rule_of rules site.rule) site.gate bs lo hi x decoded in
            rw (← e)
            (record {
              lowest = there.0;
              within = there.1;
              there = omega (arith, hi);
              same = sym (below_stays (decode t) (rule_of rules site.rule) site.gate bs lo hi) ∙ ap (λ d. take site.gate (depths d)) (sym decoded);
            })

        pub replaced-asks : WellFormed x × SameBelow s.circuit site.gate x
        replaced-asks = (replaced-well-formed, replaced-same)

        pub replaced-step : settled s (decode x) ≡ step rules s site
        replaced-step =
            ap (λ y. settled y (decode x)) (sym same) ∙ ap (settled now) decoded
            ∙ step_after rules now site none fits (valid-decode t w) r ∙ ap (λ y. step rules y site) same

-- ---- after it

-- the trimmed table of t was put over the front of an array, and ends there at `end`
module _ (t : List ℕ) (w : WellFormed t) (end : ℕ) (table old : List ℕ) (e : table ≡ over (trim_of t) old) (n : end ≡ length (trim_of t)) where
  trimmed : take end table ≡ trim_of t
  trimmed = front-is (trim_of t) old table e end n

  trimmed-circuit : decode (take end table) ≡ trim (decode t)
  trimmed-circuit = ap decode trimmed ∙ decode-trim t w

  pub trimmed-state : (kept : ℕ)
      → ◌≡◌ {A = State} (record { circuit = decode (take end table); kept = kept }) (record { circuit = trim (decode t); kept = kept })
  trimmed-state kept = ap {B = State} (λ c. record { circuit = c; kept = kept }) trimmed-circuit

  pub trimmed-held : (pair : DepthPair) → pair ≡ pair_of (decode t) → (kept : ℕ) (xs : List ℕ) → DepthsOf (trim (decode t)) xs
      → Held (record { end = end; pair = pair; kept = kept }) (record { table = table; depths = xs })
  trimmed-held pair p kept xs d =
      record {
        within = front_fits (trim_of t) old table e end n;
        well-formed = rw trimmed (trimmed-is-well-formed t w);
        depths-held = ap (λ c. take (references c) xs) trimmed-circuit ∙ d ∙ ap depths (sym trimmed-circuit);
        pair-held = p ∙ sym (trim-pair (decode t) (valid-decode t w)) ∙ ap pair_of (sym trimmed-circuit);
      }

-- the pair after replacement is lower than that of the state, or is not
module _ (s : State) (c : Circuit) (new old : DepthPair) (p : new ≡ pair_of c) (q : old ≡ pair_of s.circuit) where
  pub settled-kept : is_lower new old ≡ true → record { next = record { circuit = trim c; kept = s.kept + 1 }; verdict = passes } ≡ settled s c
  settled-kept f = rw (← p, ← q, f)

  pub settled-left : is_lower new old ≡ false → record { next = s; verdict = not_lower } ≡ settled s c
  settled-left f = rw (← p, ← q, f)

-- ---- the rows behind the head of a table of sites

-- row i of the first n
row-at : (n : ℕ) (t : List ℕ) (i : ℕ) → i < n → get_or (first_chunks 3 n t) i [] ≡ take 3 (drop (3 * i) t)
row-at zero t i h = absurd (not-suc-le-zero h)
row-at (suc n) t zero h = refl
row-at (suc n) t (suc i) h = let e : 3 + 3 * i ≡ 3 * suc i = omega arith in rw (drop-drop, e) at (row-at n (drop 3 t) i (le_of_suc-le-suc h))

-- what the slice from the head on is
abbrev behind_head : List ℕ → List ℕ
behind_head t = take (length t - 3) (drop 3 t)

module _ (sites : List ℕ) (w : WellFormedSites sites) (rows : List (List ℕ)) (long : length rows ≡ length (behind_head sites) / 3) where
  behind : behind_head sites ≡ drop 3 sites
  behind = take_all (length sites - 3) (drop 3 sites) (omega (arith, length-drop 3 sites))

  pub row-count : length rows ≡ site_count sites
  row-count = omega (arith, long, ap length behind, length-drop 3 sites, w.long)

  pub row-site : rows ≡ first_chunks 3 (length (behind_head sites) / 3) (behind_head sites) → (i : ℕ) → i < length rows
      → site (get_or (get_or rows i []) 0 0) (get_or (get_or rows i []) 1 0) (get_or (get_or rows i []) 2 0) ≡ site_at sites i
  row-site e i h =
      let row : get_or rows i [] ≡ take 3 (drop (3 + 3 * i) sites) =
      ap (λ xs. get_or xs i []) e ∙ row-at _ (behind_head sites) i (rw long at h) ∙ rw (behind, drop-drop) in
      let number : (j : ℕ) → j < 3 → get_or (take 3 (drop (3 + 3 * i) sites)) j 0 ≡ get_or sites (3 + 3 * i + j) 0 = λ j l.
      get_or-take 3 (drop (3 + 3 * i) sites) j 0 l ∙ get_or-drop (3 + 3 * i) sites j 0 in
      rw (row, number 0 (omega arith), number 1 (omega arith), number 2 (omega arith), add-zero)

-- ---- the loop over the sites: x is the step of site i

module _ (rules sites : List ℕ) (start : State) (i : ℕ) (s : State) (e : s ≡ after_sites rules sites start i)
    (x : Step) (q : x ≡ step rules s (site_at sites i)) where
  taken : x ≡ step rules (after_sites rules sites start i) (site_at sites i)
  taken = q ∙ ap (λ y. step rules y (site_at sites i)) e

  pub turn-state : x.next ≡ after_sites rules sites start (i + 1)
  turn-state = ap (λ (y : Step). y.next) taken ∙ sym (after_more rules sites start i)

  pub turn-verdict : (n : ℕ) → i < n → x.verdict ≡ get_or (verdicts_of rules sites start n) i 0
  turn-verdict n h = ap (λ (y : Step). y.verdict) taken ∙ sym (below-element (verdict_at rules sites start) n i 0 h)
