-- What a kind makes of two numbers.
use mathlib.Core.Path.{◌≡◌, ap}
use Prim.Native.Nat.{ℕ}
use borrow.Author.Tests.{ne_eqb}
use Rattle.std.specs.Result.{result_unwrap_or}
use Rattle.std.specs.Prelude.{Result, Ok, Err}
use Rattle.lines.specs.declared.refusing.Reason.{Reason}
use Rattle.circuit.specs.declared.table.Kind.{Kind}
use Rattle.circuit.specs.declared.table.Kind.TheVariants.{Xor, And}
use Rattle.circuit.specs.Circuit.{and_kind, kind_number}
use Rattle.circuit.specs.Evaluation.{bit_op, Applied}
use Rattle.std.specs.Int.Bits.{bit_and, bit_xor}
use Rattle.circuit.specs.KindCode.{Decodes}

-- A number that is none is taken for an XOR by the definition too.
pub decoded-op : (n : ℕ) (r : Result Kind Reason) → Decodes n r → (a b : ℕ) → bit_op (kind_number (result_unwrap_or r Xor)) a b ≡ bit_op n a b
unfolding bit_op
decoded-op n (Ok k) d a b = ap (λ m. bit_op m a b) d
decoded-op n (Err e) d a b = rw (ne_eqb n and_kind d.2)

-- On numbers, what a kind makes of two of them is the definition's.
pub bit-applied : (k : Kind) (a b r : ℕ) → Applied (λ x y z. z ≡ bit_xor x y) (λ x y z. z ≡ bit_and x y) k a b r → r ≡ bit_op (kind_number k) a b
unfolding bit_op
bit-applied Xor a b r e = e
bit-applied And a b r e = e
