-- Check by check: those before have been passed (`chain-passed`), and the next one refuses (`chain-refused`).
use mathlib.Core.Bool.{true, false}
use mathlib.Core.Path.{◌≡◌, sym, ◌∙◌}
use borrow.Author.Tests.{not-false}
use Rattle.lines.specs.Text.{is_partial}
use Rattle.lines.proofs.CheckLaws.{back-found, test-passed, chain-refused, chain-passed, chain-end}
use Rattle.circuit.specs.Refusal.{head_in_limits, lines_as_head_says, refusal}
use Rattle.circuit.proofs.RefusalLaws.{head-limits, sized_of, head-there}
use Rattle.circuit.proofs.checking.check_circuit.Goals as goal

pub returns-in_err-refuse_if : goal.returns-in_err-refuse_if
unfolding refusal
returns-in_err-refuse_if c =
    rw (← c.is_partial.ensures)
    (back-found _ _ c.from_residual.ensures _
    (chain-refused _ 0 _ 1 _ c.in_err-refuse_if.ensures))

pub head_in_limits-requires : goal.head_in_limits-requires
head_in_limits-requires c =
    let whole : is_partial 3 c.args.t.now ≡ false = sym c.is_partial.ensures ∙ test-passed _ _ _ c.in_ok-refuse_if.ensures in
    head-there _ whole

pub returns-in_err-refuse_if-2 : goal.returns-in_err-refuse_if-2
unfolding refusal
returns-in_err-refuse_if-2 c =
    rw (← c.is_partial.ensures, ← c.head_in_limits.ensures)
    (back-found _ _ c.from_residual-in_err-refuse_if-2.ensures _
    (chain-passed _ 0 _ 1 c.in_ok-refuse_if.ensures _ (chain-refused _ 3 _ 1 _ c.in_err-refuse_if-2.ensures)))

pub walk_starts-starts-requires : goal.walk_starts-starts-requires
walk_starts-starts-requires c =
    let whole : is_partial 3 c.args.t.now ≡ false = sym c.is_partial.ensures ∙ test-passed _ _ _ c.in_ok-refuse_if.ensures in
    let head : head_in_limits c.args.t.now ≡ true = sym c.head_in_limits.ensures ∙ not-false _ (test-passed _ _ _ c.in_ok-refuse_if-2.ensures) in
    record { in_bounds = head-there _ whole; t_bound = (head-limits c.args.t.now head).0 }

pub lines_as_head_says-requires : goal.lines_as_head_says-requires
lines_as_head_says-requires c =
    let whole : is_partial 3 c.args.t.now ≡ false = sym c.is_partial.ensures ∙ test-passed _ _ _ c.in_ok-refuse_if.ensures in
    let head : head_in_limits c.args.t.now ≡ true = sym c.head_in_limits.ensures ∙ not-false _ (test-passed _ _ _ c.in_ok-refuse_if-2.ensures) in
    let h = head-limits c.args.t.now head in
    record { in_bounds = head-there _ whole; t_bound = (h.1, h.3); from_value = c.walk_starts-starts.ensures.end_value }

pub returns-in_err-refuse_if-3 : goal.returns-in_err-refuse_if-3
unfolding refusal
returns-in_err-refuse_if-3 c =
    rw (← c.is_partial.ensures, ← c.head_in_limits.ensures, ← c.lines_as_head_says.ensures)
    (back-found _ _ c.from_residual-in_err-refuse_if-3.ensures _
    (chain-passed _ 0 _ 1 c.in_ok-refuse_if.ensures _
    (chain-passed _ 3 _ 1 c.in_ok-refuse_if-2.ensures _
    (chain-refused _ 4 _ 1 _ c.in_err-refuse_if-3.ensures))))

pub returns-in_err-refuse_if-4 : goal.returns-in_err-refuse_if-4
unfolding refusal
returns-in_err-refuse_if-4 c =
    rw (← c.is_partial.ensures, ← c.head_in_limits.ensures, ← c.lines_as_head_says.ensures, ← c.walk_starts-starts.ensures.right_value)
    (back-found _ _ c.from_residual-in_err-refuse_if-4.ensures _
    (chain-passed _ 0 _ 1 c.in_ok-refuse_if.ensures _
    (chain-passed _ 3 _ 1 c.in_ok-refuse_if-2.ensures _
    (chain-passed _ 4 _ 1 c.in_ok-refuse_if-3.ensures _
    (chain-refused _ 10 _ 1 _ c.in_err-refuse_if-4.ensures)))))

pub test_lines-tested-requires : goal.test_lines-tested-requires
test_lines-tested-requires c =
    let head : head_in_limits c.args.t.now ≡ true = sym c.head_in_limits.ensures ∙ not-false _ (test-passed _ _ _ c.in_ok-refuse_if-2.ensures) in
    let lines : lines_as_head_says c.args.t.now ≡ true =
    sym c.lines_as_head_says.ensures ∙ not-false _ (test-passed _ _ _ c.in_ok-refuse_if-3.ensures) in
    sized_of _ head lines

pub returns-in_err-refuse_if-5 : goal.returns-in_err-refuse_if-5
unfolding refusal
returns-in_err-refuse_if-5 c =
    rw (
      ← c.is_partial.ensures,
      ← c.head_in_limits.ensures,
      ← c.lines_as_head_says.ensures,
      ← c.walk_starts-starts.ensures.right_value,
      ← c.test_lines-tested.ensures.kinds_value,
    )
    (back-found _ _ c.from_residual-in_err-refuse_if-5.ensures _
    (chain-passed _ 0 _ 1 c.in_ok-refuse_if.ensures _
    (chain-passed _ 3 _ 1 c.in_ok-refuse_if-2.ensures _
    (chain-passed _ 4 _ 1 c.in_ok-refuse_if-3.ensures _
    (chain-passed _ 10 _ 1 c.in_ok-refuse_if-4.ensures _
    (chain-refused _ 5 _ 1 _ c.in_err-refuse_if-5.ensures))))))

pub returns : goal.returns
unfolding refusal
returns c =
    rw (
      ← c.is_partial.ensures,
      ← c.head_in_limits.ensures,
      ← c.lines_as_head_says.ensures,
      ← c.walk_starts-starts.ensures.right_value,
      ← c.test_lines-tested.ensures.kinds_value,
      ← c.test_lines-tested.ensures.references_value,
    )
    (chain-passed _ 0 _ 1 c.in_ok-refuse_if.ensures _
    (chain-passed _ 3 _ 1 c.in_ok-refuse_if-2.ensures _
    (chain-passed _ 4 _ 1 c.in_ok-refuse_if-3.ensures _
    (chain-passed _ 10 _ 1 c.in_ok-refuse_if-4.ensures _
    (chain-passed _ 5 _ 1 c.in_ok-refuse_if-5.ensures _
    (chain-end _ 7 1 _ c.refuse_if-6.ensures))))))
