-- Buffers that a table was put over the front of, read up to its end, or with what lies beyond. Assumes nothing.
use mathlib.Core.Path.{◌≡◌, ap, ap₂, ◌∙◌}
use mathlib.Core.List.{List}
use Prim.Native.Nat.{ℕ, ◌≤◌}
use native.Mathlib.Omega.{arith}
use lib.ListN.{length, take, drop, length-append}
use lib.Seq.{take-append_seam, length-take-le}
use Rattle.lines.specs.Calls.{over}
use Rattle.circuit.specs.Circuit.{Circuit, first_gate}
use Rattle.circuit.specs.Refusal.{KnownKinds}
use Rattle.circuit.specs.Table.{decode, encode}
use Rattle.circuit.specs.Trim.{trim, trim_of}
use Rattle.circuit.proofs.StartRunLaws.{run_ends}
use Rattle.circuit.proofs.EncodingLaws.{decode-before, decode-after-encode}

-- ---- d is a buffer that xs was put over the front of, and n is where it ends

module _ (xs old d : List ℕ) (e : d ≡ over xs old) (n : ℕ) (h : n ≡ length xs) where
  pub front-is : take n d ≡ xs
  front-is = ap₂ take h e ∙ take-append_seam xs (drop (length xs) old)

  pub front_fits : n ≤ length d
  front_fits = omega (arith, h, ap length e ∙ length-append xs (drop (length xs) old))

  pub front-count : length (take n d) ≡ n
  front-count = length-take-le n d front_fits

-- ---- a table with something behind it, read with what lies beyond

-- after it was written over a buffer's front. Behind a table without gates and outputs its starting lines could go on, so there must be one
-- of them: a circuit within its limits has an output.
pub decode-over : (c : Circuit) → KnownKinds c → 1 ≤ length c.outputs → (old d : List ℕ) → d ≡ over (encode c) old → decode d ≡ c
decode-over c k some old d e =
    let rest = drop (length (encode c)) old in
    ap decode e ∙ decode-before c rest (run_ends (first_gate c.inputs) c.gates c.outputs rest k (omega arith))

-- the trimmed table of a circuit's table
pub trim-encode : (c : Circuit) → KnownKinds c → trim_of (encode c) ≡ encode (trim c)
trim-encode c k = ap (λ x. encode (trim x)) (decode-after-encode c k)
