-- The run over the sites: its steps, and what holds of the state that it hands on. Assumes nothing.
use mathlib.Core.Path.{◌≡◌, refl, sym, ap, ◌∙◌}
use mathlib.Core.Bool.{Bool, true, false}
use mathlib.Core.List.{List, [], ◌∷◌, ◌++◌}
use Prim.Native.Nat.{ℕ, zero, suc, ◌+◌, ◌≤◌}
use native.Mathlib.Numerals.{add-one}
use native.Mathlib.Omega.{arith}
use lib.Dec.{eqb}
use lib.ListN.{length, length-map}
use borrow.Author.Tests.{eqb-true}
use Rattle.lists.specs.First.{first}
use Rattle.lists.specs.Below.{map_below}
use Rattle.circuit.specs.Critical.{pair_of}
use Rattle.circuit.specs.Circuit.{Circuit}
use Rattle.circuit.specs.Table.{encode}
use Rattle.circuit.specs.WellFormed.{WellFormed}
use Rattle.circuit.specs.Evaluation.{evaluate}
use Rattle.circuit.specs.Trim.{rank, is_kept, trim}
use Rattle.circuit.proofs.ValidLaws.{Valid, Limited, well-formed-encode}
use Rattle.circuit.proofs.TrimLaws.{trim-valid, trim-limited, trim-evaluate, trim-trim}
use Rattle.rules.specs.SiteTable.{Site, site_at}
use Rattle.rules.specs.WellFormed.{WellFormedRules}
use Rattle.rewriting.specs.Replacement.{replace}
use Rattle.rewriting.specs.Pair.{weight}
use Rattle.rewriting.specs.Verdict.{replaced, rewritten, verdict_of}
use Rattle.rewriting.specs.Run.{State, keeping, step, start_state, after_sites, verdict_at, verdicts_of, zeros}
use Rattle.rewriting.proofs.PairLaws.{lower-weighs-less, critical-limit, trim-pair}
use Rattle.rewriting.proofs.StepLaws.{verdict-zero, replaced-valid, replaced-limited, replaced-evaluate}

-- ---- its steps

-- what holds of the state before a step, and of the state after it if the site is kept, holds of the state after it
pub step-either : (P : State → Type 0) (rules : List ℕ) (s : State) (site : Site) → P s → (verdict_of s.circuit rules site ≡ 0 → P (keeping rules s site))
    → P (step rules s site).next
unfolding step
step-either P rules s site p q = go (eqb (verdict_of s.circuit rules site) 0) refl
  where
    go : (b : Bool) → eqb (verdict_of s.circuit rules site) 0 ≡ b → P (first b (keeping rules s site) s)
    go true e = q (eqb-true _ _ e)
    go false e = p

zeros-more : (vs : List ℕ) (v : ℕ) → zeros (vs ++ (v ∷ [])) ≡ zeros vs + first (eqb v 0) 1 0
unfolding zeros
zeros-more [] v = go (eqb v 0)
  where
    go : (b : Bool) → first b (1 + 0) 0 ≡ 0 + first b 1 0
    go true = refl
    go false = refl
zeros-more (x ∷ vs) v = go (eqb x 0) (zeros-more vs v)
  where
    go : (b : Bool) → zeros (vs ++ (v ∷ [])) ≡ zeros vs + first (eqb v 0) 1 0
        → first b (1 + zeros (vs ++ (v ∷ []))) (zeros (vs ++ (v ∷ []))) ≡ first b (1 + zeros vs) (zeros vs) + first (eqb v 0) 1 0
    go true e = omega (arith, e)
    go false e = e

step-kept-count : (rules : List ℕ) (s : State) (site : Site) → (step rules s site).next.kept ≡ s.kept + first (eqb (step rules s site).verdict 0) 1 0
unfolding step
step-kept-count rules s site = go (eqb (verdict_of s.circuit rules site) 0)
  where
    go : (b : Bool) → (first b (keeping rules s site) s).kept ≡ s.kept + first b 1 0
    go true = refl
    go false = omega arith

module _ (rules sites : List ℕ) (start : State) where
  pub after_none : after_sites rules sites start 0 ≡ start
  unfolding after_sites
  after_none = refl

  -- a turn of the loop over the sites
  pub after_more : (i : ℕ) → after_sites rules sites start (i + 1) ≡ (step rules (after_sites rules sites start i) (site_at sites i)).next
  unfolding after_sites
  after_more i = rw (add-one i)

  verdicts-none : verdicts_of rules sites start 0 ≡ []
  unfolding map_below
  verdicts-none = refl

  verdicts-more : (i : ℕ) → verdicts_of rules sites start (suc i) ≡ verdicts_of rules sites start i ++ (verdict_at rules sites start i ∷ [])
  unfolding map_below
  verdicts-more i = refl

  pub kept-zeros : (i : ℕ) → (after_sites rules sites start i).kept ≡ start.kept + zeros (verdicts_of rules sites start i)
  unfolding zeros
  kept-zeros zero = ap (λ (s : State). s.kept) after_none ∙ omega (arith, ap zeros verdicts-none)
  kept-zeros (suc i) =
      let s = after_sites rules sites start i in
      let v = verdict_at rules sites start i in
      let next : (after_sites rules sites start (suc i)).kept ≡ s.kept + first (eqb v 0) 1 0 =
      ap (λ j. (after_sites rules sites start j).kept) (sym (add-one i)) ∙ ap (λ (s : State). s.kept) (after_more i)
      ∙ step-kept-count rules s (site_at sites i) in
      next ∙ omega (arith, kept-zeros i, ap zeros (verdicts-more i) ∙ zeros-more (verdicts_of rules sites start i) v)

  -- no sum wraps: at most as many are kept as there were sites
  pub kept-limit : (i : ℕ) → (after_sites rules sites start i).kept ≤ start.kept + i
  kept-limit zero = omega (arith, ap (λ (s : State). s.kept) after_none)
  kept-limit (suc i) =
      let s = after_sites rules sites start i in
      let site = site_at sites i in
      rw (← (add-one i), after_more i)
      (step-either (λ t. t.kept ≤ start.kept + (i + 1)) rules s site (omega (arith, kept-limit i)) (λ e. omega (arith, kept-limit i)))

  -- what holds at the start, and after each step if before it, holds after any number of sites
  pub after-each : (P : State → Type 0) → P start → ((s : State) (site : Site) → P s → P (step rules s site).next) → (i : ℕ) → P (after_sites rules sites start i)
  after-each P p q zero = rw after_none p
  after-each P p q (suc i) = rw (← (add-one i), after_more i) (q _ (site_at sites i) (after-each P p q i))

-- ---- the state that is handed on, where c was first read

pub record Running (c : Circuit) (s : State) : Type 0 where
  pub valid : Valid s.circuit
  pub limited : Limited s.circuit
  pub trimmed : trim s.circuit ≡ s.circuit
  pub same_inputs : s.circuit.inputs ≡ c.inputs
  pub same-starts : s.circuit.starts ≡ c.starts
  pub output-count : length s.circuit.outputs ≡ length c.outputs
  pub same-outputs : (bytes : List ℕ) → length bytes ≡ c.inputs → evaluate s.circuit bytes ≡ evaluate c bytes
  pub kept-bound : s.kept + weight (pair_of s.circuit) ≤ weight (pair_of c)

-- so its table is well formed
pub running-well-formed : (c : Circuit) (s : State) → Running c s → WellFormed (encode s.circuit)
running-well-formed c s r = well-formed-encode s.circuit r.valid r.limited

trim-outputs-length : (c : Circuit) → length (trim c).outputs ≡ length c.outputs
unfolding trim
trim-outputs-length c = length-map c.outputs (rank (is_kept c))

trim-inputs : (c : Circuit) → (trim c).inputs ≡ c.inputs
unfolding trim
trim-inputs c = refl

trim-starts : (c : Circuit) → (trim c).starts ≡ c.starts
unfolding trim
trim-starts c = refl

pub running-start : (c : Circuit) → Valid c → Limited c → Running c (start_state c)
running-start c ok l =
    record {
      valid = trim-valid c ok;
      limited = trim-limited c ok l;
      trimmed = trim-trim c ok;
      same_inputs = trim-inputs c;
      same-starts = trim-starts c;
      output-count = trim-outputs-length c;
      same-outputs = trim-evaluate c ok;
      kept-bound = omega (arith, ap weight (trim-pair c ok));
    }

module _ (c : Circuit) (rules : List ℕ) (w : WellFormedRules rules) where
  running-kept : (s : State) (site : Site) → Running c s → verdict_of s.circuit rules site ≡ 0 → Running c (keeping rules s site)
  unfolding replace
  running-kept s site r e =
      let (m, fits, lower) = verdict-zero s.circuit rules site e in
      let d = replaced s.circuit rules site in
      let ok = replaced-valid s.circuit r.valid rules w site m in
      let l = replaced-limited s.circuit r.valid rules w site m r.limited fits in
      record {
        valid = trim-valid d ok;
        limited = trim-limited d ok l;
        trimmed = trim-trim d ok;
        same_inputs = trim-inputs d ∙ r.same_inputs;
        same-starts = trim-starts d ∙ r.same-starts;
        output-count = trim-outputs-length d ∙ length-map s.circuit.outputs _ ∙ r.output-count;
        same-outputs = λ bytes h.
            trim-evaluate d ok bytes (h ∙ sym r.same_inputs) ∙ replaced-evaluate s.circuit r.valid rules w site m bytes (h ∙ sym r.same_inputs)
            ∙ r.same-outputs bytes h;
        kept-bound =
            omega (
              arith,
              r.kept-bound,
              lower-weighs-less (pair_of (rewritten s.circuit rules site)) (pair_of s.circuit) (critical-limit (trim d) (trim-limited d ok l)) lower,
            );
      }

  pub running-step : (s : State) (site : Site) → Running c s → Running c (step rules s site).next
  running-step s site r = step-either (Running c) rules s site r (running-kept s site r)

  pub running-after : Valid c → Limited c → (sites : List ℕ) (i : ℕ) → Running c (after_sites rules sites (start_state c) i)
  running-after ok l sites = after-each rules sites (start_state c) (Running c) (running-start c ok l) running-step
