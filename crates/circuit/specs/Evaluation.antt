-- 01, Circuits, 6: the plain evaluator.
use Rattle.std.specs.Prelude.{ℕ, List, ◌∷◌, map, eqb, take}
use Rattle.std.specs.Int.Bits.{bit_and, bit_xor}
use Rattle.lists.specs.First.{first}
use Rattle.circuit.specs.declared.table.Kind.{Kind}
use Rattle.circuit.specs.declared.table.Kind.TheVariants.{Xor, And}
use Rattle.circuit.specs.Circuit.{Circuit, and_kind, first_gate}
use Rattle.circuit.specs.Fold.{fold_gates, at_outputs}

-- AND, or else XOR, as other kinds are refused; bit by bit, so that words of many bits are computed by it as well
unfoldable pub bit_op : (kind a b : ℕ) → ℕ
bit_op kind a b = first (eqb kind and_kind) (bit_and a b) (bit_xor a b)

-- what a gate of a kind makes of two values of any type, where `Xored` and `Anded` say what that type's operations give
abbrev pub Applied : {A : Type 0} → (Xored Anded : A → A → A → Type 0) → Kind → (a b result : A) → Type 0
Applied Xored Anded Xor a b result = Xored a b result
Applied Xored Anded And a b result = Anded a b result

-- an input's bit: 0 for the byte 0, and 1 for any other
abbrev pub bit_of : (byte : ℕ) → ℕ
bit_of byte = first (eqb byte 0) 0 1

-- the constants, then the inputs, a byte each
abbrev pub start_bits : (bytes : List ℕ) → List ℕ
start_bits bytes = 0 ∷ 1 ∷ map bit_of bytes

-- the bit of each reference
unfoldable pub bits : Circuit → (bytes : List ℕ) → List ℕ
bits c bytes = fold_gates bit_op 0 c.gates (start_bits bytes)

-- the same, where d begins with the bits of the constants and inputs
abbrev pub bits_from : Circuit → (d : List ℕ) → List ℕ
bits_from c d = fold_gates bit_op 0 c.gates (take (first_gate c.inputs) d)

-- one byte, 0 or 1, an output, in the order of the closing lines
unfoldable pub evaluate : Circuit → (bytes : List ℕ) → List ℕ
evaluate c bytes = at_outputs 0 c (bits c bytes)
