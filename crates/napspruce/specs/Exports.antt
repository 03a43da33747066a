-- What an export gives back, and what the lent buffers then hold.
use Rattle.std.specs.Prelude.{ℕ, List}
use Rattle.std.proofs.Math.Option.{none, some}
use Rattle.lists.specs.First.{first}
use Rattle.lines.specs.Refusal.{Outcome}
use Rattle.rewriting.specs.RewriteCall.{Lent, lent}
use Rattle.napspruce.specs.Packing.{pack, is_refusal, pack_rewriting}

pub record PackedOutcome (B : Type 0) : Type 0 where
  pub number : ℕ
  pub buffers : B

abbrev pub packed_leaving : {B : Type 0} → ℕ → B → PackedOutcome B
packed_leaving n b = record { number = n; buffers = b }

-- what the call gives, packed, and the buffers that it leaves
abbrev pub pack_outcome : {B : Type 0} → (make : List ℕ → ℕ) → Outcome B → PackedOutcome B
pack_outcome make o = packed_leaving (pack make o.answer) o.buffers

-- The same of `rewrite`. 01, Sites, 19: after a success the working table is free, so what it then holds is left out.
abbrev pub rewriting_leaving : ℕ → (result work verdicts : List ℕ) → PackedOutcome Lent
rewriting_leaving n result work verdicts = packed_leaving n (lent result (first (is_refusal n) (some work) none) verdicts)

abbrev pub pack_rewriting_outcome : Outcome Lent → PackedOutcome Lent
pack_rewriting_outcome = pack_outcome pack_rewriting
