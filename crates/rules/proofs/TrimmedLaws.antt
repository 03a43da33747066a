-- A match in the trimmed circuit is one in the circuit as it is, whose references have their new numbers. Assumes nothing.
use mathlib.Core.Path.{◌≡◌, refl, sym, ap, ◌∙◌, subst}
use mathlib.Core.Bool.{Bool, true, false, not}
use mathlib.Core.List.{List}
use mathlib.Core.Option.{Option, none, some, bind}
use Prim.Native.Nat.{ℕ, zero, suc, ◌+◌, ◌/◌, ◌^◌, ◌≤◌, ◌<◌}
use native.Mathlib.Decide.{dec_lt, ℕ_discrete}
use native.Mathlib.Numerals.{add-one}
use native.Mathlib.Omega.{arith}
use lib.Dec.{eqb}
use lib.ListN.{length, get_or, replicate, length-set}
use lib.Seq.{get_or-set_same, get_or-set_other, set_out}
use Rattle.lists.specs.First.{first}
use Rattle.circuit.specs.Circuit.{Gate, Circuit, first_gate, references, no_gate, gate_at}
use Rattle.circuit.specs.Table.{decode}
use Rattle.circuit.specs.WellFormed.{WellFormed}
use Rattle.circuit.specs.Path.{is_gate}
use Rattle.circuit.specs.Trim.{is_kept, new_number, old_number, trim, trim_of}
use Rattle.circuit.proofs.GateLaws.{gate-high}
use Rattle.circuit.proofs.PassLaws.{zeros-at}
use Rattle.circuit.proofs.ValidLaws.{Valid, valid-decode}
use Rattle.circuit.proofs.RankLaws.{rank-eqb, rank-id, rank-onto}
use Rattle.circuit.proofs.ReverseDepthLaws.{kept_low}
use Rattle.circuit.proofs.TrimLaws.{trim-references, trim-is-gate, trim-gate, operands-kept}
use Rattle.circuit.proofs.TrimTheorems.{decode-trim}
use Rattle.circuit.proofs.OldNumberLaws.{old-is, old-none}
use Rattle.rules.specs.Rule.{Rule, root, max_left_references}
use Rattle.rules.specs.RuleTable.{rule_of}
use Rattle.rules.specs.Soundness.{is_sound}
use Rattle.rules.specs.Match.{binding, bind_to, bind_after, bind_reference, bind_operands, match_gate, is_swapped, match_gates, start_bindings, match_rule}
use Rattle.rules.specs.Verdict.{SiteMatch, no_rule, not_sound, not_a_gate, no_match, has_rule, failing, verdict_by, match_at, match_site}

module _ (c : Circuit) where
  -- what a rule reference is bound to in the circuit and in the trimmed one: to nothing in both, or to a reference that is kept and its new number
  abbrev AlikeBinding : Option ℕ → Option ℕ → Type 0
  AlikeBinding none none = Unit
  AlikeBinding none (some v') = ⊥
  AlikeBinding (some v) none = ⊥
  AlikeBinding (some v) (some v') = (is_kept c v ≡ true) × (v' ≡ new_number c v)

  pub record Alike (b b' : List ℕ) : Type 0 where
    pub long : length b' ≡ length b
    pub places : (r : ℕ) → AlikeBinding (binding b r) (binding b' r)

  -- both fail, or both succeed
  abbrev pub AlikeOption : Option (List ℕ) → Option (List ℕ) → Type 0
  AlikeOption none none = Unit
  AlikeOption none (some b') = ⊥
  AlikeOption (some b) none = ⊥
  AlikeOption (some b) (some b') = Alike b b'

  -- ---- one reference

  pub bind-alike : (o o' : Option (List ℕ)) (f f' : List ℕ → Option (List ℕ)) → AlikeOption o o'
      → ((b b' : List ℕ) → Alike b b' → AlikeOption (f b) (f' b')) → AlikeOption (bind o f) (bind o' f')
  unfolding bind
  bind-alike none none f f' a h = tt
  bind-alike none (some b') f f' a h = absurd a
  bind-alike (some b) none f f' a h = absurd a
  bind-alike (some b) (some b') f f' a h = h b b' a

  module _ (r x : ℕ) (k : is_kept c x ≡ true) (b b' : List ℕ) (a : Alike b b') where
    bound-alike : Alike (bind_to r x b) (bind_to r (new_number c x) b')
    bound-alike =
        record {
          long = length-set b' r (new_number c x + 1) ∙ (a.long ∙ sym (length-set b r (x + 1)));
          places = λ q. at q (ℕ_discrete q r) (dec_lt r (length b));
        }
      where
        at : (q : ℕ) → Dec (q ≡ r) → Dec (r < length b) → AlikeBinding (binding (bind_to r x b) q) (binding (bind_to r (new_number c x) b') q)
        at q (no d) h = rw (get_or-set_other b r q (x + 1) 0 d, get_or-set_other b' r q (new_number c x + 1) 0 d) (a.places q)
        at q (yes e) (no h) = rw (set_out b r (x + 1) (omega arith), set_out b' r (new_number c x + 1) (omega (arith, a.long))) (a.places q)
        at q (yes e) (yes h) =
            rw (e, get_or-set_same b r (x + 1) 0 h, get_or-set_same b' r (new_number c x + 1) 0 (omega (arith, a.long)), add-one x, add-one (new_number c x)) (k, refl)

    reference-alike : AlikeOption (bind_reference r x b) (bind_reference r (new_number c x) b')
    unfolding bind_reference
    reference-alike = go (binding b r) (binding b' r) (a.places r)
      where
        held : (v : ℕ) → is_kept c v ≡ true → (t : Bool) → eqb v x ≡ t → AlikeOption (first t (some b) none) (first (eqb (new_number c v) (new_number c x)) (some b') none)
        held v kv true e = rw (rank-eqb (is_kept c) v x kv k, e) a
        held v kv false e = rw (rank-eqb (is_kept c) v x kv k, e) tt

        go : (o o' : Option ℕ) → AlikeBinding o o' → AlikeOption (bind_after r x b o) (bind_after r (new_number c x) b' o')
        go none none s = bound-alike
        go none (some v') s = absurd s
        go (some v) none s = absurd s
        go (some v) (some v') s = rw s.1 (held v s.0 (eqb v x) refl)

  operands-alike : (g : Gate) (x y : ℕ) → is_kept c x ≡ true → is_kept c y ≡ true → (b b' : List ℕ) → Alike b b'
      → AlikeOption (bind_operands g x y b) (bind_operands g (new_number c x) (new_number c y) b')
  unfolding bind_operands
  operands-alike g x y k l b b' a =
      bind-alike (bind_reference g.left x b) (bind_reference g.left (new_number c x) b') (bind_reference g.right y) (bind_reference g.right (new_number c y))
      (reference-alike g.left x k b b' a) (reference-alike g.right y l)

  -- ---- the bindings at the start

  zeros-alike : (n : ℕ) → Alike (replicate n 0) (replicate n 0)
  zeros-alike n = record { long = refl; places = λ r. rw (zeros-at n r) tt }

  constant-alike : (r : ℕ) → r < 2 → (b b' : List ℕ) → Alike b b' → Alike (bind_to r r b) (bind_to r r b')
  constant-alike r h b b' a =
      let e : new_number c r ≡ r = rank-id (is_kept c) r (λ q l. kept_low c q (omega arith)) in
      rw e at (bound-alike r r (kept_low c r (omega arith)) b b' a)

  pub start-alike : (u : Rule) (w : ℕ) → is_kept c w ≡ true → Alike (start_bindings u w) (start_bindings u (new_number c w))
  start-alike u w k =
      let zeros = replicate {A = ℕ} max_left_references 0 in
      bound-alike (root u) w k _ _ (constant-alike 1 (omega arith) _ _ (constant-alike 0 (omega arith) zeros zeros (zeros-alike max_left_references)))

  -- ---- one left gate, and all of them

  module _ (ok : Valid c) where
    pub gate-alike : (m : ℕ) (g : Gate) (swap : Bool) (b b' : List ℕ) → Alike b b' → AlikeOption (match_gate c m g swap b) (match_gate (trim c) m g swap b')
    unfolding match_gate bind
    gate-alike m g swap b b' a = go (binding b m) (binding b' m) (a.places m)
      where
        part : Circuit → List ℕ → ℕ → Option (List ℕ)
        part d e v =
            first (not (is_gate d v)) none
            (first (not (eqb (gate_at d v).kind g.kind)) none
            (first swap (bind_operands g (gate_at d v).right (gate_at d v).left e)
            (bind_operands g (gate_at d v).left (gate_at d v).right e)))

        paired : (s : Bool) (x y : ℕ) → is_kept c x ≡ true → is_kept c y ≡ true
            → AlikeOption (first s (bind_operands g y x b) (bind_operands g x y b))
            (first s (bind_operands g (new_number c y) (new_number c x) b') (bind_operands g (new_number c x) (new_number c y) b'))
        paired true x y k l = operands-alike g y x l k b b' a
        paired false x y k l = operands-alike g x y k l b b' a

        same_kind : (s : Bool) (o o' : Option (List ℕ)) → AlikeOption o o' → AlikeOption (first s none o) (first s none o')
        same_kind true o o' x = tt
        same_kind false o o' x = x

        at : (v : ℕ) → is_kept c v ≡ true → (s : Bool) → is_gate c v ≡ s → AlikeOption (part c b v) (part (trim c) b' (new_number c v))
        at v k false e = rw (trim-is-gate c ok v k, e) tt
        at v k true e =
            let o = operands-kept c ok v e k in
            rw (trim-is-gate c ok v k, e, trim-gate c ok v e k)
            (same_kind (not (eqb (gate_at c v).kind g.kind)) _ _ (paired swap (gate_at c v).left (gate_at c v).right o.0 o.1))

        go : (o o' : Option ℕ) → AlikeBinding o o' → AlikeOption (bind o (part c b)) (bind o' (part (trim c) b'))
        go none none s = tt
        go none (some v') s = absurd s
        go (some v) none s = absurd s
        go (some v) (some v') s = rw s.1 (at v s.0 (is_gate c v) refl)

    pub gates-alike : (u : Rule) (mask i : ℕ) (b b' : List ℕ) → Alike b b' → AlikeOption (match_gates c u mask i b) (match_gates (trim c) u mask i b')
    unfolding match_gates
    gates-alike u mask zero b b' a = a
    gates-alike u mask (suc i) b b' a =
        let m = first_gate u.holes + i in
        let g = get_or u.lefts i no_gate in
        bind-alike (match_gate c m g (is_swapped mask i) b) (match_gate (trim c) m g (is_swapped mask i) b') (match_gates c u mask i) (match_gates (trim c) u mask i)
        (gate-alike m g (is_swapped mask i) b b' a) (gates-alike u mask i)

    -- what holds of each reference that is kept and its new number, and of any two that are beyond, holds of a reference and its old number
    pub old-either : (P : ℕ → ℕ → Type 0) → ((w : ℕ) → is_kept c w ≡ true → P (new_number c w) w) → ((v w : ℕ) → references (trim c) ≤ v → references c ≤ w → P v w)
        → (v : ℕ) → P v (old_number c v)
    old-either P kept beyond v =
        elim (dec_lt v (references (trim c))) [
          | yes h ↦
              let (w, l, k, e) = rank-onto (is_kept c) (references c) v (omega (arith, trim-references c ok)) in
              let same = old-is (is_kept c) (references c) v w (references c) k e l in
              subst (λ x. P x (old_number c v)) e (subst (P (new_number c w)) (sym same) (kept w k))
          | no h ↦
              beyond v (old_number c v) (omega arith)
              (omega (arith, old-none (is_kept c) (references c) v (references c) (omega (arith, trim-references c ok))))
        ]

    -- ---- the verdict of a site

    matched : (u : Rule) (mask w : ℕ) → is_kept c w ≡ true → (match_at (trim c) u (new_number c w) mask).verdict ≡ (match_at c u w mask).verdict
    unfolding match_at match_rule
    matched u mask w k =
        go (not (eqb (mask / 2 ^ length u.lefts) 0)) (match_rule c u w mask) (match_rule (trim c) u (new_number c w) mask)
        (gates-alike u mask (length u.lefts) _ _ (start-alike u w k))
      where
        go : (s : Bool) (o o' : Option (List ℕ)) → AlikeOption o o' → (first s (failing no_match) (verdict_by o')).verdict ≡ (first s (failing no_match) (verdict_by o)).verdict
        go true o o' a = refl
        go false none none a = refl
        go false none (some b') a = absurd a
        go false (some b) none a = absurd a
        go false (some b) (some b') a = refl

    module _ (u : Rule) (mask : ℕ) where
      abbrev tested : Bool → SiteMatch → ℕ
      tested s m = (first (not s) (failing not_a_gate) m).verdict

      abbrev at_reference : Circuit → ℕ → ℕ
      at_reference d v = tested (is_gate d v) (match_at d u v mask)

      kept-alike : (w : ℕ) → is_kept c w ≡ true → at_reference (trim c) (new_number c w) ≡ at_reference c w
      kept-alike w k = ap (λ s. tested s (match_at (trim c) u (new_number c w) mask)) (trim-is-gate c ok w k) ∙ go (is_gate c w)
        where
          go : (s : Bool) → tested s (match_at (trim c) u (new_number c w) mask) ≡ tested s (match_at c u w mask)
          go true = matched u mask w k
          go false = refl

      beyond : (d : Circuit) (v : ℕ) → references d ≤ v → at_reference d v ≡ not_a_gate
      beyond d v h = ap (λ s. tested s (match_at d u v mask)) (gate-high d v h)

      old-alike : (v : ℕ) → at_reference (trim c) v ≡ at_reference c (old_number c v)
      old-alike = old-either (λ v w. at_reference (trim c) v ≡ at_reference c w) kept-alike (λ v w h l. beyond (trim c) v h ∙ sym (beyond c w l))

    pub site-alike : (t : List ℕ) (rule v mask : ℕ) → (match_site (trim c) t rule v mask).verdict ≡ (match_site c t rule (old_number c v) mask).verdict
    unfolding match_site
    site-alike t rule v mask = go (not (has_rule t rule)) (not (is_sound (rule_of t rule))) _ _ (old-alike (rule_of t rule) mask v)
      where
        go : (s s' : Bool) (m m' : SiteMatch) → m.verdict ≡ m'.verdict
            → (first s (failing no_rule) (first s' (failing not_sound) m)).verdict ≡ (first s (failing no_rule) (first s' (failing not_sound) m')).verdict
        go true s' m m' e = refl
        go false true m m' e = refl
        go false false m m' e = e

-- of the circuit that a table says, and of its trimmed table
pub trimmed-site : (t : List ℕ) → WellFormed t → (rules : List ℕ) (rule gate mask : ℕ)
    → (match_site (decode t) rules rule (old_number (decode t) gate) mask).verdict ≡ (match_site (decode (trim_of t)) rules rule gate mask).verdict
trimmed-site t w rules rule gate mask =
    sym (ap (λ c. (match_site c rules rule gate mask).verdict) (decode-trim t w) ∙ site-alike (decode t) (valid-decode t w) rules rule gate mask)
