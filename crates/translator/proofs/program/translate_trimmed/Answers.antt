-- What is counted is the need (PressureLaws); it decides the last test, and the program is that of the trimmed circuit (CallLaws).
use native.Mathlib.Omega.{arith}
use borrow.Author.Tests.{ltb-false}
use Rattle.circuit.specs.Table.{decode}
use Rattle.translator.proofs.CallLaws.{needs-no-more}
use Rattle.lines.proofs.CheckLaws.{back-leaving, test-passed}
use Rattle.translator.proofs.program.translate_trimmed.Goals as goal

pub returns-in_err-refuse_if : goal.returns-in_err-refuse_if
returns-in_err-refuse_if c =
    back-leaving _ _ c.from_residual.ensures _ (rw c.need-needed.ensures at c.in_err-refuse_if.ensures) _ _ _ _

pub write_program-count-requires-clause-need_bound : goal.write_program-count-requires-clause-need_bound
write_program-count-requires-clause-need_bound c =
    omega (arith, c.requires.limit_le_max_registers, c.need-needed.ensures, ltb-false c.args.limit _ (test-passed _ 9 _ c.in_ok-refuse_if.ensures))

pub returns : goal.returns
returns c = let a = c.args in
    let w = c.write_program-count in
    needs-no-more (decode a.ranges.now.circuit) a.limit a.buffer.now _ c.need-needed.ensures
    (ltb-false _ _ (test-passed _ 9 _ c.in_ok-refuse_if.ensures))
    w.result w.new.buffer w.ensures.value w.ensures.buffer_after
