-- Demand 3, in one piece: what holds of the rewriter and the translator together, for a circuit, rules and sites that are not refused and
-- input bytes, whichever of the sites are kept (01, Sites, 16, and Register program, 15). It is about the definitions that the
-- contracts of `rewrite` and `translate` cite; `DeliveryIsSafe` and `CallsDeliver` in Theorems.antt say so of every input.
use Rattle.std.specs.Prelude.{ℕ, ◌≤◌, ◌≡◌, List, map}
use Rattle.std.proofs.Math.Option.{some}
use Rattle.circuit.specs.Table.{decode}
use Rattle.circuit.specs.Evaluation.{evaluate}
use Rattle.circuit.specs.Depth.{largest, circuit_depth}
use Rattle.rewriting.specs.Run.{handed_back}
use Rattle.rewriting.specs.SafeRun.{SafeRun}
use Rattle.translator.specs.Machine.{max_registers}
use Rattle.translator.specs.LeveledBit.{LeveledBit, run_on}
use Rattle.translator.specs.Need.{need}
use Rattle.translator.specs.Program.{program}

pub record SafeDelivery (circuit rules sites bytes : List ℕ) : Type 0 where
  -- What the rewriter does: the first site is given the circuit first read, trimmed, and each later one the circuit that the one before it
  -- left (`first-gets-trimmed`, `next-gets-left`); the circuit handed back gives the outputs of the circuit first read, in their order
  -- (`same-outputs`); every kept site leaves a lower pair than it was given (`kept-lowers`); and kept, the number of zero verdicts, is
  -- paid for by the pair, D weighing 2,049 times as much as N (`kept-counts`, `kept-bound`).
  pub run : SafeRun circuit rules sites
  -- And the translator: with every limit from 1 to 1,024 that is not below the need, the program of the circuit handed back runs without a
  -- fault and emits just those outputs, as bits, in that order; the highest level emitted is the new D. Inputs are loaded at the starting
  -- levels of the circuit handed back, which are those of the circuit first read (`same-starts`).
  pub program_runs : (limit : ℕ) → 1 ≤ limit → limit ≤ max_registers → need (handed_back circuit rules sites) ≤ limit
      → (emitted : List LeveledBit)
      × (run_on (handed_back circuit rules sites) bytes limit (program (handed_back circuit rules sites)) ≡ some emitted)
      × (map (λ b. b.bit) emitted ≡ evaluate (decode circuit) bytes)
      × (largest (map (λ b. b.level) emitted) ≡ circuit_depth (handed_back circuit rules sites))
