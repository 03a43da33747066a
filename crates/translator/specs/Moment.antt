-- 01, Register program, 9 and 10: a moment of the program's run, over any values.
use Rattle.std.specs.Prelude.{ℕ, ◌≡◌, Bool, true, List, ◌++◌, map, take, get_or}
use Rattle.std.proofs.Math.Option.{some}
use Rattle.circuit.specs.Circuit.{Circuit}
use Rattle.circuit.specs.Fold.{fold_gates}
use Rattle.translator.specs.Machine.{Instruction, Machine, empty_machine, read_from, run_from}
use Rattle.translator.specs.Allocation.{Allocation, register_of}
use Rattle.translator.specs.Program.{program}
use Rattle.translator.specs.Shape.{operation_kinds}

-- The program begins with the code of s, which does the operations of the first i gates. A machine with `limit` registers gets through
-- it, and each of the references that `held` names then has its value in the register that s says.
pub record Holding {A : Type 0} (op : ℕ → A → A → A) (z : A) (start : List A) (limit : ℕ) (c : Circuit) (i : ℕ) (s : Allocation) (held : ℕ → Bool) : Type 0 where
  pub rest : List Instruction
  pub front : program c ≡ s.code ++ rest
  pub done : operation_kinds s.code ≡ map (λ g. g.kind) (take i c.gates)
  pub machine : Machine A
  pub reached : run_from start op s.code (empty_machine limit) ≡ some machine
  pub holds : (v : ℕ) → held v ≡ true → read_from machine (register_of s.owners v) ≡ some (get_or (fold_gates op z c.gates start) v z)
