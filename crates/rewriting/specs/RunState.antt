-- 01, Sites, 15: the state of a run as it is handed on from site to site. The numbers go by value; the circuit as it then is stands at the
-- front of an array beside them, and the run says where its table there ends.
use Rattle.std.specs.Prelude.{ℕ, ◌≤◌, ◌≡◌, List, length, take, Result, Ok, Err, Some, None}
use Rattle.circuit.specs.Circuit.{Circuit, first_gate, references}
use Rattle.circuit.specs.Critical.{pair_of}
use Rattle.circuit.specs.Depth.{depths}
use Rattle.circuit.specs.ReverseDepth.{reverse_depths}
use Rattle.circuit.specs.Table.{inputs, refs, decode}
use Rattle.circuit.specs.WellFormed.{WellFormed}
use Rattle.rules.specs.declared.Verdict.{Verdict}
use Rattle.rules.specs.Verdict.{applied_number}
use Rattle.rewriting.specs.declared.run.Current.{Current}
use Rattle.rewriting.specs.declared.run.Run.{Run}
use Rattle.rewriting.specs.declared.run.Stepped.{Stepped}
use Rattle.rewriting.specs.declared.run.Workspace.{Workspace}
use Rattle.rewriting.specs.Run.{State, Step}

-- the table of the circuit as it then is
abbrev pub table_of : Run → Current → List ℕ
table_of run current = take run.end current.table

-- the state, and the step, that the code's values stand for
abbrev pub state_of : Run → Current → State
state_of run current = record { circuit = decode (table_of run current); kept = run.kept }

abbrev pub step_of : Stepped → Current → Step
step_of s current = record { next = state_of s.run current; verdict = applied_number s.verdict }

-- a site's verdict leaves the run as it was
abbrev pub stepped_by : Run → Result Run Verdict → Stepped
stepped_by run (Ok next) = record { run = next; verdict = None }
stepped_by run (Err v) = record { run = run; verdict = Some v }

-- an array begins with the depths of a circuit
abbrev pub DepthsOf : Circuit → List ℕ → Type 0
DepthsOf c xs = take (references c) xs ≡ depths c

-- What each step relies on and leaves: the array begins with a well-formed table; beside it are its depths, and the run has its pair. Depths
-- below a site's gate stay in replacement (`below_stays`), so that only the others are worked out again. They can be made from the table at
-- any time.
pub record Held (run : Run) (current : Current) : Type 0 where
  pub within : run.end ≤ length current.table
  pub well-formed : WellFormed (table_of run current)
  pub depths-held : DepthsOf (decode (table_of run current)) current.depths
  pub pair-held : run.pair ≡ pair_of (decode (table_of run current))

-- the arrays begin with the depths and the reverse depths of the circuit of table t
pub record Measured (t : List ℕ) (w : Workspace) : Type 0 where
  pub depths-are : take (refs t) w.depths ≡ depths (decode t)
  pub reverse-are : take (refs t) w.reverse ≡ reverse_depths (decode t)

-- A gate of c has a place in table t, and below it the circuits have the same depths.
pub record SameBelow (c : Circuit) (gate : ℕ) (t : List ℕ) : Type 0 where
  pub lowest : first_gate (inputs t) ≤ gate
  pub within : gate ≤ refs t
  pub there : gate ≤ references c
  pub same : take gate (depths c) ≡ take gate (depths (decode t))
