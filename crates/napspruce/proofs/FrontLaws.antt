-- The front of a table is refused as the table is; where neither is refused, they are the same. Assumes nothing.
use mathlib.Core.Path.{◌≡◌, refl, sym, ap, ◌∙◌}
use mathlib.Core.Logic.{◌⊎◌, inl, inr, ⊎_elim}
use mathlib.Core.Bool.{Bool, true, false, ◌&&◌}
use mathlib.Core.List.{List}
use Prim.Native.Nat.{ℕ, zero, suc, ◌+◌, ◌-◌, ◌*◌, ◌≤◌, ◌<◌}
use native.Mathlib.Decide.{dec_lt}
use native.Mathlib.Omega.{arith}
use lib.Dec.{eqb, leb}
use lib.ListN.{length, get_or}
use lib.Seq.{length-take-le, take_all, get_or-take}
use borrow.Author.Tests.{ne_eqb, leb-true}
use Rattle.lists.proofs.Tests.{left-of}
use Rattle.lines.specs.Text.{is_partial}
use Rattle.rules.specs.Rule.{max_rules}
use Rattle.rules.specs.RuleTable.{rule_count, rules_from, next_rule}
use Rattle.rules.specs.RuleRefusal.{rules_head_in_limits, rule_in_limits, walk, walk_from_top, rules_refusal}
use Rattle.rules.specs.SiteTable.{site_count, max_sites, sites_end, sites_head_in_limits, sites_refusal}
use Rattle.rules.proofs.RefusalLaws.{rules-walk}
use Rattle.rules.proofs.SiteLaws.{sites-head, sites-lines}
use Rattle.rules.proofs.WalkLaws.{limited-of, walk-limits, walk-over, walk-pass, walk-head, walk_top}
use Rattle.napspruce.specs.Front.{max_rules_lines, max_sites_lines, front}
use Rattle.lines.proofs.TextLaws.{whole-passes}

-- f is t, or both get the same refusal
abbrev pub Alike : (refusal : List ℕ → ℕ) (f t : List ℕ) → Type 0
Alike refusal f t = (f ≡ t) ⊎ ((refusal f ≡ refusal t) × (refusal t ≡ 0 → ⊥))

pub alike-number : (refusal : List ℕ → ℕ) (f t : List ℕ) → Alike refusal f t → refusal f ≡ refusal t
alike-number refusal f t = ⊎_elim (λ e. ap refusal e) (λ w. w.0)

-- the front of a longer table
module _ (most : ℕ) (t : List ℕ) (l : 3 * (most + 1) < length t) where
  long-front : length (front most t) ≡ 3 * (most + 1)
  long-front = length-take-le (3 * (most + 1)) t (omega arith)

  whole-front : is_partial 3 (front most t) ≡ false
  whole-front = whole-passes 3 (most + 1) (front most t) (omega arith) long-front (omega arith)

  at_front : (i : ℕ) → i < 3 * (most + 1) → get_or (front most t) i 0 ≡ get_or t i 0
  at_front i h = get_or-take (3 * (most + 1)) t i 0 h

-- ---- tables whose head alone says how many lines there are

module _ (refusal : List ℕ → ℕ) (head : List ℕ → Bool) (end : List ℕ → ℕ) (most : ℕ)
    (refused-head : (t : List ℕ) → is_partial 3 t ≡ false → head t ≡ false → 4 ≡ refusal t)
    (refused-lines : (t : List ℕ) → is_partial 3 t ≡ false → head t ≡ true → eqb (length t) (end t) ≡ false → 5 ≡ refusal t)
    (near : (t : List ℕ) → 3 * (most + 1) < length t → head (front most t) ≡ head t)
    (limit : (t : List ℕ) → head t ≡ true → end t ≤ 3 * most) where
  headed-alike : (t : List ℕ) → is_partial 3 t ≡ false → Alike refusal (front most t) t
  headed-alike t p =
      elim (dec_lt (3 * (most + 1)) (length t)) [
        | yes l ↦ inr (longer l (head t) refl)
        | no l ↦ inl (take_all (3 * (most + 1)) t (omega arith))
      ]
    where
      longer : 3 * (most + 1) < length t → (b : Bool) → head t ≡ b → (refusal (front most t) ≡ refusal t) × (refusal t ≡ 0 → ⊥)
      longer l true h =
          let h' : head (front most t) ≡ true = near t l ∙ h in
          let n : length t ≡ end t → ⊥ = omega (arith, limit t h) in
          let m : length (front most t) ≡ end (front most t) → ⊥ = omega (arith, limit (front most t) h', long-front most t l) in
          let a = refused-lines t p h (ne_eqb (length t) (end t) n) in
          let b = refused-lines (front most t) (whole-front most t l) h' (ne_eqb (length (front most t)) (end (front most t)) m) in
          (sym b ∙ a, λ z. let y : ⊥ = omega (arith, a, z) in y)
      longer l false h =
          let a = refused-head t p h in
          let b = refused-head (front most t) (whole-front most t l) (near t l ∙ h) in
          (sym b ∙ a, λ z. let y : ⊥ = omega (arith, a, z) in y)

-- ---- sites

sites-limit : (t : List ℕ) → sites_head_in_limits t ≡ true → sites_end t ≤ 3 * max_sites_lines
sites-limit t h =
    let n : site_count t ≤ max_sites = leb-true _ _ (left-of (leb (site_count t) max_sites) (eqb (get_or t 1 0) 0 && eqb (get_or t 2 0) 0) h) in
    omega arith

sites-near : (most : ℕ) (t : List ℕ) → 3 * (most + 1) < length t → sites_head_in_limits (front most t) ≡ sites_head_in_limits t
sites-near most t l = rw (at_front most t l 0 (omega arith), at_front most t l 1 (omega arith), at_front most t l 2 (omega arith))

pub sites-alike : (t : List ℕ) → is_partial 3 t ≡ false → Alike sites_refusal (front max_sites_lines t) t
sites-alike = headed-alike sites_refusal sites_head_in_limits sites_end max_sites_lines sites-head sites-lines (sites-near max_sites_lines) sites-limit

-- ---- rules, by the walk

-- a rule has 32 lines at most
rule-limit : (t : List ℕ) (p : ℕ) → rule_in_limits t p ≡ true → next_rule t p ≤ p + 96
rule-limit t p h = let k = limited-of t p h in omega (arith, k)

module _ (most : ℕ) (t : List ℕ) (l : 3 * (most + 1) < length t) where
  rule-near : (p : ℕ) → p + 3 ≤ 3 * (most + 1) → (rule_in_limits (front most t) p ≡ rule_in_limits t p) × (next_rule (front most t) p ≡ next_rule t p)
  rule-near p h =
      let a = at_front most t l p (omega arith) in
      let b = at_front most t l (p + 1) (omega arith) in
      let c = at_front most t l (p + 2) (omega arith) in
      (rw (a, b, c), rw (b, c))

  walk-near : (n p : ℕ) → p + 96 * n < 3 * (most + 1) → (walk (front most t) n p ≡ walk t n p) × (walk t n p ≡ 0 → ⊥)
  walk-near zero p h =
      let a = walk-over t 0 p refl (omega arith) in
      let b = walk-over (front most t) 0 p refl (omega (arith, long-front most t l)) in
      (b ∙ sym a, λ z. let y : ⊥ = omega (arith, a, z) in y)
  walk-near (suc n) p h = go (rule_in_limits t p) refl (rule-near p (omega arith)) (walk-near n (next_rule t p))
    where
      go : (b : Bool) → rule_in_limits t p ≡ b → (rule_in_limits (front most t) p ≡ rule_in_limits t p) × (next_rule (front most t) p ≡ next_rule t p)
          → (next_rule t p + 96 * n < 3 * (most + 1) → (walk (front most t) n (next_rule t p) ≡ walk t n (next_rule t p)) × (walk t n (next_rule t p) ≡ 0 → ⊥))
          → (walk (front most t) (suc n) p ≡ walk t (suc n) p) × (walk t (suc n) p ≡ 0 → ⊥)
      go false e near ih =
          let a = walk-limits t (suc n) p (omega arith) (omega arith) e in
          let b = walk-limits (front most t) (suc n) p (omega arith) (omega (arith, long-front most t l)) (near.0 ∙ e) in
          (b ∙ sym a, λ z. let y : ⊥ = omega (arith, a, z) in y)
      go true e near ih =
          let r = rule-limit t p e in
          let s : suc n - 1 ≡ n = omega arith in
          let (q, m) = ih (omega arith) in
          let a : walk t n (next_rule t p) ≡ walk t (suc n) p = rw s at (walk-pass t (suc n) p (omega arith) (omega arith) e (omega arith)) in
          let b : walk (front most t) n (next_rule t p) ≡ walk (front most t) (suc n) p =
          rw (s, near.1) at (walk-pass (front most t) (suc n) p (omega arith) (omega (arith, long-front most t l)) (near.0 ∙ e) (omega (arith, near.1, long-front most t l))) in
          (sym b ∙ q ∙ a, λ z. m (a ∙ z))

  rules-near : rules_head_in_limits (front most t) ≡ rules_head_in_limits t
  rules-near = rw (at_front most t l 0 (omega arith), at_front most t l 1 (omega arith), at_front most t l 2 (omega arith))

  top-near : 3 + 96 * max_rules ≤ 3 * most → (walk_from_top (front most t) ≡ walk_from_top t) × (walk_from_top t ≡ 0 → ⊥)
  top-near room = go (rules_head_in_limits t) refl
    where
      go : (b : Bool) → rules_head_in_limits t ≡ b → (walk_from_top (front most t) ≡ walk_from_top t) × (walk_from_top t ≡ 0 → ⊥)
      go false e =
          let a = walk-head t e in
          (walk-head (front most t) (rules-near ∙ e) ∙ sym a, λ z. let y : ⊥ = omega (arith, a, z) in y)
      go true e =
          let c : rule_count t ≤ max_rules = leb-true _ _ (left-of (leb (rule_count t) max_rules) (eqb (get_or t 1 0) 0 && eqb (get_or t 2 0) 0) e) in
          let (q, m) = walk-near (rule_count t) (rules_from t) (omega arith) in
          let a = walk_top t e in
          let b = walk_top (front most t) (rules-near ∙ e) in
          (sym b ∙ ap (λ n. walk (front most t) n (rules_from t)) (at_front most t l 0 (omega arith)) ∙ q ∙ a, λ z. m (a ∙ z))

pub rules-alike : (t : List ℕ) → is_partial 3 t ≡ false → Alike rules_refusal (front max_rules_lines t) t
rules-alike t p =
    elim (dec_lt (3 * (max_rules_lines + 1)) (length t)) [
      | yes l ↦
          let (q, m) = top-near max_rules_lines t l (omega arith) in
          let a = rules-walk t p m in
          let b = rules-walk (front max_rules_lines t) (whole-front max_rules_lines t l) (λ z. m (sym q ∙ z)) in
          inr (sym b ∙ q ∙ a, λ z. m (a ∙ z))
      | no l ↦ inl (take_all (3 * (max_rules_lines + 1)) t (omega arith))
    ]
