-- The loops over gates and outputs that allocate registers: what each turn asks for, and what it leaves. Assumes nothing.
use mathlib.Core.Path.{◌≡◌, refl, sym, ap, ◌∙◌}
use mathlib.Core.Bool.{Bool}
use mathlib.Core.List.{List}
use Prim.Native.Nat.{ℕ, ◌+◌, ◌≤◌, ◌<◌}
use native.Mathlib.Numerals.{add-one}
use native.Mathlib.Omega.{arith}
use lib.ListN.{length, get_or}
use Rattle.circuit.specs.Circuit.{Gate, Circuit, first_gate, no_gate}
use Rattle.circuit.specs.Table.{inputs, gates, outputs, gate_lines, decode}
use Rattle.circuit.specs.WellFormed.{WellFormed}
use Rattle.circuit.specs.Trim.{trim}
use Rattle.circuit.proofs.TableLaws.{gates-length, outputs-length}
use Rattle.circuit.proofs.ValidLaws.{limited-decode}
use Rattle.translator.specs.declared.allocating.Allocator.{Allocator}
use Rattle.translator.specs.Need.{need}
use Rattle.translator.specs.LiveRange.{is_used_from}
use Rattle.translator.specs.Machine.{max_registers}
use Rattle.translator.specs.Allocation.{Allocation, no_registers}
use Rattle.translator.specs.Allocator.{ensure_loaded, ensure_operands, turned, gate_turn, allocation_after, outputs_loaded}
use Rattle.translator.specs.Program.{max_instructions}
use Rattle.translator.specs.Registers.{instruction_at, allocation_of, Represents, Loadable, Turnable}
use Rattle.translator.proofs.TrimmedLaws.{trimmed-fixed}
use Rattle.translator.proofs.FitLaws.{allocation-more, outputs-more, turnable, output-loadable, output-writable}
use Rattle.translator.proofs.RepresentsLaws.{represents-same, represents-then, ensure-longer, operated-longer}

-- ---- gates

pub gates-none : (c : Circuit) → no_registers ≡ allocation_after c 0
unfolding allocation_after
gates-none c = refl

-- gate i is g
module _ (t : List ℕ) (well : WellFormed t) (fixed : trim (decode t) ≡ decode t)
    (i : ℕ) (h : i < gates t) (g : Gate) (e : get_or (gate_lines t) i no_gate ≡ g) where
  abbrev wanted : ℕ → Bool
  wanted = is_used_from (decode t) (i + 1)

  inside : i < length (decode t).gates
  inside = omega (arith, gates-length t)

  pub gate-ready : need (decode t) ≤ max_registers → (s : Allocation) → s ≡ allocation_after (decode t) i → (size : ℕ) → instruction_at max_instructions ≤ size
      → Turnable wanted (first_gate (inputs t) + i) g s size
  gate-ready enough s q size room =
      rw (q, ← e) (turnable (decode t) (trimmed-fixed t well fixed) enough i inside (limited-decode t well.sized) size room)

  abbrev turn : Allocation → Allocation
  turn = turned wanted (first_gate (inputs t) + i) g

  turn_is : turn (allocation_after (decode t) i) ≡ allocation_after (decode t) (i + 1)
  unfolding gate_turn
  turn_is =
      ap (λ k. turned (is_used_from (decode t) k) (first_gate (inputs t) + i) g (allocation_after (decode t) i)) (add-one i)
      ∙ sym (allocation-more (decode t) i g e)

  turn-longer : (s : Allocation) → length s.code ≤ length (turn s).code
  turn-longer s =
      omega (
        arith,
        ensure-longer g.left s,
        ensure-longer g.right (ensure_loaded g.left s),
        operated-longer wanted (first_gate (inputs t) + i) g (ensure_operands g s),
      )

  pub gate-done : (old a b : Allocator) → Represents a old (allocation_after (decode t) i) → Represents b a (turn (allocation_of a))
      → Represents b old (allocation_after (decode t) (i + 1))
  gate-done old a b p q =
      let s = allocation_after (decode t) i in
      represents-same turn_is (represents-then old a b s turn p q (turn-longer s))

pub gates-all : (t : List ℕ) (i : ℕ) → i ≡ gates t → allocation_after (decode t) i ≡ outputs_loaded (decode t) 0
unfolding outputs_loaded
gates-all t i e = ap (allocation_after (decode t)) (e ∙ sym (gates-length t))

-- ---- outputs

-- output j is v
module _ (t : List ℕ) (well : WellFormed t) (fixed : trim (decode t) ≡ decode t) (j : ℕ) (h : j < outputs t) (v : ℕ) (e : get_or (decode t).outputs j 0 ≡ v) where
  within : j < length (decode t).outputs
  within = omega (arith, outputs-length t)

  pub output-ready : need (decode t) ≤ max_registers → (s : Allocation) → s ≡ outputs_loaded (decode t) j → Loadable v s
  output-ready enough s q = rw (q, ← e) (output-loadable (decode t) (trimmed-fixed t well fixed) enough j within)

  pub output-fits : (s : Allocation) → s ≡ outputs_loaded (decode t) j → length (ensure_loaded v s).code ≤ max_instructions
  output-fits s q =
      let m = output-writable (decode t) (trimmed-fixed t well fixed) (limited-decode t well.sized) (j + 1) (omega (arith, outputs-length t)) in
      omega (arith, m, ap (λ x. length x.code) (outputs-more (decode t) j v e), ap (λ x. length (ensure_loaded v x).code) q)

  pub output-done : (old a b : Allocator) → Represents a old (outputs_loaded (decode t) j) → Represents b a (ensure_loaded v (allocation_of a))
      → Represents b old (outputs_loaded (decode t) (j + 1))
  output-done old a b p q =
      let s = outputs_loaded (decode t) j in
      represents-same (sym (outputs-more (decode t) j v e)) (represents-then old a b s (ensure_loaded v) p q (ensure-longer v s))
