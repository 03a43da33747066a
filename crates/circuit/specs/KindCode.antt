-- 01, refusal 6: which numbers are a gate's kind. The code reads a kind by its number, and refuses any other.
use Rattle.std.specs.Prelude.{ℕ, ◌≡◌, ◌≢◌, Result, MatchResult}
use Rattle.lines.specs.declared.refusing.Reason.{Reason}
use Rattle.lines.specs.declared.refusing.Reason.TheVariants.{UnknownKind}
use Rattle.circuit.specs.declared.table.Kind.{Kind}
use Rattle.circuit.specs.Circuit.{xor_kind, and_kind, kind_number}

abbrev pub Decodes : (number : ℕ) → Result Kind Reason → Type 0
Decodes number r = MatchResult r (λ k. kind_number k ≡ number) (λ e. (e ≡ UnknownKind) × (number ≢ xor_kind) × (number ≢ and_kind))
