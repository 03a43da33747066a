-- One case of `kind_of` to each way out; that there is nothing beyond the references is by `refs-decode`.
use native.Mathlib.Omega.{arith}
use Rattle.circuit.specs.Table.{decode}
use Rattle.circuit.proofs.TableLaws.{refs-decode}
use Rattle.rules.proofs.VerdictLaws.{kind-constant, kind-input, kind-gate, kind-beyond}
use Rattle.rules.proofs.site_match.kind_of.Goals as goal

pub returns-in-0-to-1-clause-value : goal.returns-in-0-to-1-clause-value
returns-in-0-to-1-clause-value c = kind-constant (decode c.args.c.now) c.args.v (omega arith)

pub returns-in_default-clause-value : goal.returns-in_default-clause-value
returns-in_default-clause-value c = kind-input (decode c.args.c.now) c.args.v (omega arith) (omega arith)

pub returns-in_default-2-clause-value : goal.returns-in_default-2-clause-value
returns-in_default-2-clause-value c = kind-gate (decode c.args.c.now) c.args.v (omega arith) (omega (arith, refs-decode c.args.c.now))

pub returns-in_default-3-clause-value : goal.returns-in_default-3-clause-value
returns-in_default-3-clause-value c = kind-beyond (decode c.args.c.now) c.args.v (omega (arith, refs-decode c.args.c.now))
