-- The loop that counts the need: its table of what is still unloaded, and one turn. Assumes nothing.
use mathlib.Core.Path.{◌≡◌, refl, sym, ap, ap₂, ◌∙◌}
use mathlib.Core.Bool.{Bool, true, false, not, ◌&&◌, ◌||◌, and-true, and-false}
use mathlib.Core.List.{List, ◌++◌}
use Prim.Native.Nat.{ℕ, zero, suc, ◌+◌, ◌-◌, ◌≤◌, ◌<◌, max}
use mir.Val.{bool_byte}
use native.Mathlib.Decide.{dec_lt, ℕ_discrete}
use native.Mathlib.Numerals.{add-one}
use native.Mathlib.Omega.{arith}
use lib.Dec.{eqb, ltb}
use lib.ListN.{length, take, drop, get_or, set, replicate, length-replicate, get_or-append}
use lib.Seq.{get_or-set_same, get_or-set_other, get_or-drop, get_or-append_right, length-take-le}
use Rattle.std.proofs.lemmas.List.{get_or-replicate}
use borrow.Author.Tests.{eq-eqb, ne_eqb, lt-ltb, le-ltb}
use Rattle.lists.specs.First.{first}
use Rattle.circuit.specs.Circuit.{Gate, Circuit, first_gate, references, no_gate, max_references}
use Rattle.circuit.specs.Table.{inputs, gates, gate_lines, decode}
use Rattle.circuit.specs.WellFormed.{WellFormed}
use Rattle.circuit.specs.Path.{is_operand, is_used}
use Rattle.circuit.specs.Trim.{trim}
use Rattle.circuit.proofs.TableLaws.{gates-length}
use Rattle.translator.specs.LiveRange.{is_used_before, is_used_from, is_constant_or_input, is_held_before}
use Rattle.translator.specs.Actions.{is_unloaded}
use Rattle.translator.specs.LastUse.{count_distinct}
use Rattle.translator.specs.Pressure.{one_if, arrivals, departures, pressure_after, linear_need}
use Rattle.translator.proofs.CountLaws.{count-limit}
use Rattle.translator.proofs.UseLaws.{used-take}
use Rattle.translator.proofs.TrimmedLaws.{trimmed-fixed}
use Rattle.translator.proofs.PressureLaws.{held-before, pressure-held, pressure-enough}
use Rattle.translator.proofs.LastUseLaws.{operands-set}

-- d marks what is below k
abbrev pub MarkedTo : (d : List Bool) (k : ℕ) → Type 0
MarkedTo d k = (v : ℕ) → get_or d v false ≡ ltb v k

pub unmarked : (n v : ℕ) → get_or (replicate n false) v false ≡ false
unmarked zero v = refl
unmarked (suc n) zero = refl
unmarked (suc n) (suc v) = unmarked n v

-- n marks over the front
pub marked-front : (d : List Bool) (n : ℕ) (marks : List Bool) → n ≤ length d → marks ≡ replicate (length (take n d)) true
    → ((v : ℕ) → get_or d v false ≡ false) → MarkedTo (marks ++ drop n d) n
marked-front d n marks h e none v = rw (e, length-take-le n d h) (at (dec_lt v n))
  where
    long : length (replicate n true) ≡ n
    long = length-replicate n true

    at : Dec (v < n) → get_or (replicate n true ++ drop n d) v false ≡ ltb v n
    at (yes l) =
        get_or-append (replicate n true) (drop n d) false v (omega (arith, long)) ∙ get_or-replicate n v true false l ∙ sym (lt-ltb v n l)
    at (no l) =
        let i = v - length (replicate n true) in
        get_or-append_right (replicate n true) (drop n d) v false (omega (arith, long)) ∙ get_or-drop n d i false ∙ none (n + i)
        ∙ sym (le-ltb v n (omega arith))

-- d marks what the first i gates don't load
abbrev pub UnloadedTo : Circuit → (d : List Bool) (i : ℕ) → Type 0
UnloadedTo c d i = (v : ℕ) → get_or d v false ≡ is_unloaded c i v

-- a bool as a number
pub bool_byte-is : (b : Bool) → bool_byte b ≡ one_if b
bool_byte-is true = refl
bool_byte-is false = refl

module _ (c : Circuit) (d : List Bool) where
  pub unloaded-none : (n : ℕ) → n ≡ first_gate c.inputs → MarkedTo d n → UnloadedTo c d 0
  unfolding is_used
  unloaded-none n e m v = m v ∙ ap (ltb v) e ∙ sym (and-true (is_constant_or_input c v))

  module _ (i : ℕ) (u : UnloadedTo c d i) where
    -- the right operand, when the left one is unmarked
    unloaded-second : (l r : ℕ) → l < length d → get_or (set d l false) r false ≡ is_unloaded c i r && not (eqb r l)
    unloaded-second l r h = at (ℕ_discrete r l)
      where
        at : Dec (r ≡ l) → get_or (set d l false) r false ≡ is_unloaded c i r && not (eqb r l)
        at (yes e) = rw (e, get_or-set_same d l false false h, eq-eqb l l refl, and-false (is_unloaded c i l))
        at (no e) = get_or-set_other d l r false false e ∙ u r ∙ rw (ne_eqb r l e, and-true (is_unloaded c i r))

    pub unloaded-more : (g : Gate) → get_or c.gates i no_gate ≡ g → i < length c.gates → g.left < length d → g.right < length d
        → UnloadedTo c (set (set d g.left false) g.right false) (i + 1)
    unloaded-more g e h l r v =
        operands-set g d false false l r v
        ∙ rw add-one (ap₂ (λ x y. first (is_operand v x) false y) (sym e) (u v)
        ∙ go (is_constant_or_input c v) (is_used_before c i v) (is_operand v (get_or c.gates i no_gate))
        ∙ ap (λ b. is_constant_or_input c v && not b) (sym (used-take v c.gates i h)))
      where
        go : (s a b : Bool) → first b false (s && not a) ≡ s && not (a || b)
        go true true true = refl
        go true true false = refl
        go true false true = refl
        go true false false = refl
        go false a true = refl
        go false a false = refl

    pub arrivals-read : (g : Gate) → g.left < length d
        → one_if (get_or d g.left false) + one_if (get_or (set d g.left false) g.right false) ≡ arrivals c i g
    unfolding arrivals
    arrivals-read g h = ap₂ (λ a b. one_if a + one_if b) (u g.left) (unloaded-second g.left g.right h)

-- each operand of a gate is kept or leaves
pub kept_read : (c : Circuit) (i : ℕ) (g : Gate)
    → one_if (eqb g.left g.right || is_used_from c (i + 1) g.left) + one_if (is_used_from c (i + 1) g.right) + departures c i g ≡ 2
unfolding departures
kept_read c i g =
    rw (add-one i) (all (eqb g.left g.right || is_used_from c (suc i) g.left) (is_used_from c (suc i) g.right))
  where
    all : (a b : Bool) → one_if a + one_if b + (one_if (not a) + one_if (not b)) ≡ 2
    all true true = refl
    all true false = refl
    all false true = refl
    all false false = refl

-- ---- one turn, of a trimmed table's gate i, which is g: `arrive` of its operands are marked as unloaded in d, and `keep` are used later too

-- what is held between two gates is held before the second one too, and need not be among the most yet
pub record HeldTo (t : List ℕ) (held most i : ℕ) : Type 0 where
  pub now-held : (pressure_after (decode t) i).held ≡ held
  pub most-held : (pressure_after (decode t) i).most ≡ max most held

pub held_none : (t : List ℕ) → HeldTo t 0 0 0
unfolding pressure_after
held_none t = record { now-held = refl; most-held = refl }

module _ (t : List ℕ) (w : WellFormed t) (k : trim (decode t) ≡ decode t) (held most i : ℕ) (inv : HeldTo t held most i) (h : i < gates t)
    (d : List Bool) (u : UnloadedTo (decode t) d i) (long : length d ≡ max_references)
    (g : Gate) (e : g ≡ get_or (gate_lines t) i no_gate) (low : (g.left < first_gate (inputs t) + i) × (g.right < first_gate (inputs t) + i)) where
  inside : i < length (gate_lines t)
  inside = omega (arith, gates-length t)

  pub unloaded-next : UnloadedTo (decode t) (set (set d g.left false) g.right false) (i + 1)
  unloaded-next = unloaded-more (decode t) d i u g (sym e) inside (omega (arith, w.sized)) (omega (arith, w.sized))

  module _ (arrive : ℕ) (a : arrive ≡ one_if (get_or d g.left false) + one_if (get_or (set d g.left false) g.right false)) where
    arrives : arrive ≡ arrivals (decode t) i (get_or (gate_lines t) i no_gate)
    arrives = a ∙ arrivals-read (decode t) d i u g (omega (arith, w.sized)) ∙ ap (arrivals (decode t) i) e

    pub arrivals-fit : held + arrive ≤ max_references
    arrivals-fit =
        let c = decode t in
        omega (
          arith,
          arrives,
          inv.now-held,
          pressure-held c (trimmed-fixed t w k) i (omega (arith, inside)),
          held-before c (trimmed-fixed t w k) i inside,
          count-limit (is_held_before c i) (references c),
          gates-length t,
          w.sized,
        )

    -- no more values leave than are held
    pub departures-fit : departures (decode t) i (get_or (gate_lines t) i no_gate) ≤ held + arrive
    departures-fit = omega (arith, arrives, inv.now-held, pressure-enough (decode t) (trimmed-fixed t w k) i (omega (arith, gates-length t)))

    module _ (keep : ℕ)
        (q : keep ≡ one_if (eqb g.left g.right || is_used_from (decode t) (i + 1) g.left) + one_if (is_used_from (decode t) (i + 1) g.right)) where
      kept : keep + departures (decode t) i (get_or (gate_lines t) i no_gate) ≡ 2
      kept = ap₂ (λ n x. n + departures (decode t) i x) q (sym e) ∙ kept_read (decode t) i g

      pub kept-fit : (keep ≤ 2) × (1 ≤ held + arrive + keep)
      kept-fit = (omega (arith, kept), omega (arith, kept, departures-fit))

      pub held_more : (x : ℕ) → x ≡ max most (held + arrive) → HeldTo t (held + arrive + keep - 1) x (i + 1)
      unfolding pressure_after
      held_more x f =
          let p = pressure_after (decode t) i in
          let n = departures (decode t) i (get_or (gate_lines t) i no_gate) in
          let before : p.held + arrivals (decode t) i (get_or (gate_lines t) i no_gate) ≡ held + arrive = omega (arith, inv.now-held, arrives) in
          let after : held + arrive - n + 1 ≡ held + arrive + keep - 1 = omega (arith, kept, departures-fit) in
          let next = ap (λ m. m - n + 1) before ∙ after in
          let absorbed : max (max most held) (held + arrive) ≡ max most (held + arrive) = omega arith in
          rw add-one (record { now-held = next; most-held = ap₂ max (ap₂ max inv.most-held before ∙ absorbed ∙ sym f) next })

-- all gates
pub held_all : (t : List ℕ) (held most i result : ℕ) → i ≡ gates t → HeldTo t held most i → result ≡ max most held
    → result ≡ (pressure_after (decode t) (gates t)).most
held_all t held most i result e inv q = q ∙ sym inv.most-held ∙ ap (λ k. (pressure_after (decode t) k).most) e

pub need-read : (t : List ℕ) (most distinct need : ℕ) → most ≡ (pressure_after (decode t) (gates t)).most → distinct ≡ count_distinct (decode t).outputs
    → need ≡ max most distinct → need ≡ linear_need (decode t)
unfolding linear_need
need-read t most distinct need e f g = rw (gates-length t) (g ∙ ap₂ max e f)
