-- Numbers packed into one, and taken out again. Assumes nothing.
use mathlib.Core.Path.{◌≡◌, refl, sym, ap, ap₂, ◌∙◌}
use mathlib.Core.Bool.{false}
use mathlib.Core.List.{List, [], ◌∷◌}
use Prim.Native.Nat.{ℕ, zero, suc, ◌+◌, ◌*◌, ◌/◌, ◌%◌, ◌^◌, ◌≤◌, ◌<◌}
use native.Mathlib.Omega.{arith}
use native.Mathlib.Decide.{dec_lt}
use lib.ListN.{get_or}
use lib.Arith.{digits_div, digits_mod}
use borrow.Author.Tests.{eq-eqb, ne_eqb}
use Rattle.lines.specs.Refusal.{Result, refused, gives}
use Rattle.circuit.specs.Circuit.{max_gates, max_depth, line_count}
use Rattle.circuit.specs.Table.{decode}
use Rattle.rules.specs.SiteTable.{max_sites}
use Rattle.finder.specs.FindCall.{spent}
use Rattle.napspruce.specs.Packing.{pack_refusal, pack, is_refusal, unpack, pack_one, unpack_one, pack_two, pack_pair, unpack_pair, pack_finding, unpack_finding, pack_translation, unpack_translation, pack_fields, pack_rewriting, unpack_rewriting}
use Rattle.napspruce.specs.Limits.{last_refusal, last_table, EachWithin, Within, measure_limits, last_mask, find_limits, rewrite_limits, translate_limits}

-- ---- refusals

module _ (number table : ℕ) (h : number ≤ last_refusal) (l : table ≤ last_table) where
  pub refusal-told : pack_refusal number table / 1000 ≡ 1000
  refusal-told = omega arith

  refusal-number : pack_refusal number table % 1000 / 10 ≡ number
  refusal-number =
      let e : pack_refusal number table % 1000 ≡ 10 * number + table = omega arith in
      ap (λ n. n / 10) e ∙ omega arith

  refusal-table : pack_refusal number table % 10 ≡ table
  refusal-table = omega arith

  pub refusal-unpacks : (take : ℕ → List ℕ) → unpack take (pack_refusal number table) ≡ refused number table
  refusal-unpacks take = rw (eq-eqb _ _ refusal-told) (ap₂ refused refusal-number refusal-table)

-- ---- answers

-- A success whose number is no refusal, and has its numbers in it
pub record Unpacked (make : List ℕ → ℕ) (take : ℕ → List ℕ) (values : List ℕ) : Type 0 where
  pub told : is_refusal (make values) ≡ false
  pub same : take (make values) ≡ values

module _ (make : List ℕ → ℕ) (take : ℕ → List ℕ) (limits : List ℕ) where
  pub unpacks : (r : Result) → Within limits r → ((values : List ℕ) → r ≡ gives values → EachWithin limits values → Unpacked make take values)
      → unpack take (pack make r) ≡ r
  unpacks (refused number table) w k = refusal-unpacks number table w.1 w.2 take
  unpacks (gives values) w k = let u = k values refl w in rw u.told (ap gives u.same)

-- each number by its place
within-at : (limits values : List ℕ) → EachWithin limits values → (i : ℕ) → get_or values i 0 ≤ get_or limits i 0
within-at [] [] w i = omega arith
within-at [] (v ∷ vs) w i = absurd w
within-at (l ∷ ls) [] w i = absurd w
within-at (l ∷ ls) (v ∷ vs) w zero = w.0
within-at (l ∷ ls) (v ∷ vs) w (suc i) = within-at ls vs w.1 i

-- ---- one number

pub one_value : (limit : ℕ) → limit < 1000000 → (values : List ℕ) → EachWithin (limit ∷ []) values → Unpacked pack_one unpack_one values
one_value limit h [] w = absurd w
one_value limit h (v ∷ []) w = record { told = ne_eqb (v / 1000) 1000 (λ e. omega (arith, e, w.0)); same = refl }
one_value limit h (v ∷ x ∷ xs) w = absurd w.1

-- ---- two numbers

module _ (high low : ℕ) (l : low < 1000000) where
  two-told : is_refusal (pack_two high low) ≡ false
  two-told = ne_eqb (pack_two high low / 1000) 1000 (at high)
    where
      at : (h : ℕ) → pack_two h low / 1000 ≡ 1000 → ⊥
      at zero e = omega (arith, e, l)
      at (suc h) e = omega (arith, e)

  two-high : pack_two high low / 2 ^ 32 ≡ high
  two-high = digits_div high (omega arith)

  two-low : pack_two high low % 2 ^ 32 ≡ low
  two-low = digits_mod high (omega arith)

pub pair_values : (values : List ℕ) → EachWithin measure_limits values → Unpacked pack_pair unpack_pair values
pair_values [] w = absurd w
pair_values (d ∷ []) w = absurd w.1
pair_values (d ∷ n ∷ []) w =
    let l : n < 1000000 = omega (arith, w.1.0) in
    record { told = two-told d n l; same = ap₂ (λ x y. x ∷ y ∷ []) (two-high d n l) (two-low d n l) }
pair_values (d ∷ n ∷ x ∷ xs) w = absurd w.1.1

pub translation-values : (values : List ℕ) → EachWithin translate_limits values → Unpacked pack_translation unpack_translation values
translation-values [] w = absurd w
translation-values (k ∷ []) w = absurd w.1
translation-values (k ∷ n ∷ []) w =
    let l : k < 1000000 = omega (arith, w.0) in
    record { told = two-told n k l; same = ap₂ (λ x y. x ∷ y ∷ []) (two-low n k l) (two-high n k l) }
translation-values (k ∷ n ∷ x ∷ xs) w = absurd w.1.1

-- ---- two numbers, and a third below them

module _ (outcome mask ways : ℕ) (ho : outcome ≤ spent) (hm : mask ≤ last_mask) where
  below : outcome * 2 ^ 16 + mask < 1000000
  below = omega arith

  finding-outcome : pack_two ways (outcome * 2 ^ 16 + mask) % 2 ^ 32 / 2 ^ 16 ≡ outcome
  finding-outcome = ap (λ n. n / 2 ^ 16) (two-low ways (outcome * 2 ^ 16 + mask) below) ∙ digits_div outcome (omega arith)

  finding-mask : pack_two ways (outcome * 2 ^ 16 + mask) % 2 ^ 16 ≡ mask
  finding-mask =
      let p : pack_two ways (outcome * 2 ^ 16 + mask) ≡ (ways * 2 ^ 16 + outcome) * 2 ^ 16 + mask = omega arith in
      ap (λ n. n % 2 ^ 16) p ∙ digits_mod (ways * 2 ^ 16 + outcome) (omega arith)

  finding-same : unpack_finding (pack_two ways (outcome * 2 ^ 16 + mask)) ≡ outcome ∷ mask ∷ ways ∷ []
  finding-same = ap₂ ◌∷◌ finding-outcome (ap₂ ◌∷◌ finding-mask (ap (λ x. x ∷ []) (two-high ways (outcome * 2 ^ 16 + mask) below)))

pub finding-values : (values : List ℕ) → EachWithin find_limits values → Unpacked pack_finding unpack_finding values
finding-values [] w = absurd w
finding-values (o ∷ []) w = absurd w.1
finding-values (o ∷ m ∷ []) w = absurd w.1.1
finding-values (o ∷ m ∷ n ∷ []) w =
    record { told = two-told n (o * 2 ^ 16 + m) (below o m n w.0 w.1.0); same = finding-same o m n w.0 w.1.0 }
finding-values (o ∷ m ∷ n ∷ x ∷ xs) w = absurd w.1.1.1

-- ---- five numbers

-- the last one tells a success from a refusal
last-told : (rest last : ℕ) → last ≤ max_sites → (rest * 2 ^ 12 + last) / 1000 ≡ 1000 → ⊥
last-told rest last h e = elim (dec_lt rest 245) [ yes l ↦ omega (arith, e, h, l) | no l ↦ omega (arith, e, h, l) ]

pub rewriting-told : (values : List ℕ) → EachWithin rewrite_limits values → is_refusal (pack_rewriting values) ≡ false
rewriting-told values w =
    let rest = get_or values 1 0 * 2 ^ 36 + get_or values 2 0 * 2 ^ 24 + get_or values 3 0 * 2 ^ 12 + get_or values 4 0 in
    let p : pack_rewriting values ≡ rest * 2 ^ 12 + get_or values 5 0 = omega arith in
    ne_eqb (pack_rewriting values / 1000) 1000 (λ q. last-told rest (get_or values 5 0) (within-at rewrite_limits values w 5) (ap (λ n. n / 1000) (sym p) ∙ q))

-- a field behind `rest`, with `low` below it
field : (rest value low width : ℕ) → value < 2 ^ 12 → low < width → ((rest * 2 ^ 12 + value) * width + low) / width % 2 ^ 12 ≡ value
field rest value low width h l = ap (λ n. n % 2 ^ 12) (digits_div (rest * 2 ^ 12 + value) l) ∙ digits_mod rest h

-- with the lines, which the result table's head says
module _ (lines : ℕ) (result : List ℕ) (head : line_count (decode result) ≡ lines) (a b c d e : ℕ) (hb : b ≤ max_gates) (hc : c ≤ max_depth) (hd : d ≤ max_gates) (he : e ≤ max_sites) where
  abbrev packed : ℕ
  packed = pack_fields a b c d e

  old-depth : packed / 2 ^ 48 ≡ a
  old-depth =
      let p : packed ≡ a * 2 ^ 48 + (b * 2 ^ 36 + c * 2 ^ 24 + d * 2 ^ 12 + e) = omega arith in
      ap (λ n. n / 2 ^ 48) p ∙ digits_div a (omega arith)

  old-critical : packed / 2 ^ 36 % 2 ^ 12 ≡ b
  old-critical =
      let p : packed ≡ (a * 2 ^ 12 + b) * 2 ^ 36 + (c * 2 ^ 24 + d * 2 ^ 12 + e) = omega arith in
      ap (λ n. n / 2 ^ 36 % 2 ^ 12) p ∙ field a b (c * 2 ^ 24 + d * 2 ^ 12 + e) (2 ^ 36) (omega arith) (omega arith)

  new-depth : packed / 2 ^ 24 % 2 ^ 12 ≡ c
  new-depth =
      let p : packed ≡ ((a * 2 ^ 12 + b) * 2 ^ 12 + c) * 2 ^ 24 + (d * 2 ^ 12 + e) = omega arith in
      ap (λ n. n / 2 ^ 24 % 2 ^ 12) p ∙ field (a * 2 ^ 12 + b) c (d * 2 ^ 12 + e) (2 ^ 24) (omega arith) (omega arith)

  new-critical : packed / 2 ^ 12 % 2 ^ 12 ≡ d
  new-critical =
      let p : packed ≡ (((a * 2 ^ 12 + b) * 2 ^ 12 + c) * 2 ^ 12 + d) * 2 ^ 12 + e = omega arith in
      ap (λ n. n / 2 ^ 12 % 2 ^ 12) p ∙ field ((a * 2 ^ 12 + b) * 2 ^ 12 + c) d e (2 ^ 12) (omega arith) (omega arith)

  kept-last : packed % 2 ^ 12 ≡ e
  kept-last =
      let p : packed ≡ (a * 2 ^ 36 + b * 2 ^ 24 + c * 2 ^ 12 + d) * 2 ^ 12 + e = omega arith in
      ap (λ n. n % 2 ^ 12) p ∙ digits_mod (a * 2 ^ 36 + b * 2 ^ 24 + c * 2 ^ 12 + d) (omega arith)

  fields-same : unpack_rewriting result packed ≡ lines ∷ a ∷ b ∷ c ∷ d ∷ e ∷ []
  fields-same = ap₂ ◌∷◌ head (ap₂ ◌∷◌ old-depth (ap₂ ◌∷◌ old-critical (ap₂ ◌∷◌ new-depth (ap₂ ◌∷◌ new-critical (ap (λ x. x ∷ []) kept-last)))))

pub rewriting-values : (result values : List ℕ) → line_count (decode result) ≡ get_or values 0 0 → EachWithin rewrite_limits values
    → Unpacked pack_rewriting (unpack_rewriting result) values
rewriting-values result [] h w = absurd w
rewriting-values result (n ∷ []) h w = absurd w.1
rewriting-values result (n ∷ a ∷ []) h w = absurd w.1.1
rewriting-values result (n ∷ a ∷ b ∷ []) h w = absurd w.1.1.1
rewriting-values result (n ∷ a ∷ b ∷ c ∷ []) h w = absurd w.1.1.1.1
rewriting-values result (n ∷ a ∷ b ∷ c ∷ d ∷ []) h w = absurd w.1.1.1.1.1
rewriting-values result (n ∷ a ∷ b ∷ c ∷ d ∷ e ∷ []) h w =
    record {
      told = rewriting-told (n ∷ a ∷ b ∷ c ∷ d ∷ e ∷ []) w;
      same = fields-same n result h a b c d e w.1.1.0 w.1.1.1.0 w.1.1.1.1.0 w.1.1.1.1.1.0;
    }
rewriting-values result (n ∷ a ∷ b ∷ c ∷ d ∷ e ∷ x ∷ xs) h w = absurd w.1.1.1.1.1.1
