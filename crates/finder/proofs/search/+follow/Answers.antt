-- Behind a trial that failed, or that was the last, `after-failed` and `after-last`; else by the branches of the search that stops at the
-- limit (LimitLaws).
use mathlib.Core.Bool.{true}
use mathlib.Core.Path.{sym, ap, ◌∙◌}
use Prim.Native.Nat.{ℕ, ◌-◌, ◌+◌, ◌<◌}
use native.Mathlib.Omega.{arith}
use Rattle.std.specs.Prelude.{is_some}
use Rattle.std.specs.Option.{option_copied}
use Rattle.circuit.specs.Table.{decode}
use Rattle.rules.specs.Remembered.{said}
use Rattle.finder.specs.Search.{Searched, left_by, searched_of, mask_or_zero}
use Rattle.finder.proofs.LimitLaws.{part_small, found_after, after-failed, after-last, find-spent, find-plain, find-over, find-rest}
use Rattle.finder.proofs.MaskLaws.{mask-small}
use Rattle.finder.proofs.search.+follow.Goals as goal

pub returns-in_default : goal.returns-in_default
returns-in_default t c = let a = c.args in rw c.in_default.is (after-failed (decode a.c.now) (said a.rule.now) a.ahead a.limit)

pub returns-then-ahead-eq0 : goal.returns-then-ahead-eq0
returns-then-ahead-eq0 t c = let a = c.args in
    rw c.in-Some.is (after-last (decode a.c.now) (said a.rule.now) a.ahead a.limit c.in-Some.bindings.now c.if-ahead-eq0.true)

pub returns-then-limit-eq0 : goal.returns-then-limit-eq0
returns-then-limit-eq0 t c = let a = c.args in
    let n : 0 < a.ahead = omega arith in
    rw c.in-Some.is
    (c.over_limit.ensures ∙ find-spent (decode a.c.now) (said a.rule.now) a.ahead a.limit c.in-Some.bindings.now n c.if-limit-eq0.true)

pub returns-in-Some-mask : goal.returns-in-Some-mask
returns-in-Some-mask t c = let a = c.args in
    let x = c.try_left-as_written in
    let f = searched_of c.follow-found.result in
    let n : 0 < a.ahead = omega arith in
    let l : 0 < a.limit = omega arith in
    rw c.in-Some.is
    (ap {B = Searched} (λ (m : ℕ). record { matched = true; mask = m; ways = f.ways + 1 }) (sym (ap mask_or_zero c.in-Some-mask.is))
    ∙ find-plain (decode a.c.now) (said a.rule.now) a.ahead a.limit c.in-Some.bindings.now n (left_by (option_copied x.result)) x.ensures f
    c.follow-found.ensures l (ap is_some c.in-Some-mask.is))

pub returns-then-limit-ways : goal.returns-then-limit-ways
returns-then-limit-ways t c = let a = c.args in
    let x = c.try_left-as_written in
    let f = searched_of c.follow-found.result in
    let n : 0 < a.ahead = omega arith in
    let l : 0 < a.limit = omega arith in
    rw c.in-Some.is
    (c.over_limit-then-limit-ways.ensures
    ∙ find-over (decode a.c.now) (said a.rule.now) a.ahead a.limit c.in-Some.bindings.now n (left_by (option_copied x.result)) x.ensures f
    c.follow-found.ensures l (ap is_some c.in_default-mask.is) c.if-limit-ways.true)

pub behind_crossed-requires : goal.behind_crossed-requires
behind_crossed-requires t c = let a = c.args in
    let f = searched_of c.follow-found.result in
    let y = c.try_left-crosswise in
    let r = searched_of c.follow-rest.result in
    let n = a.limit - (f.ways + 1) - 1 in
    let h : 0 < a.ahead = omega arith in (
      omega (arith, c.requires.0, a.rule.now.well_formed.sized),
      (
        mask-small (decode a.c.now) (said a.rule.now) (a.ahead - 1) n (left_by (option_copied y.result)) r c.follow-rest.ensures,
        omega (
          arith,
          c.requires.1,
          c.if-limit-ways.false,
          part_small n r (found_after (decode a.c.now) (said a.rule.now) (a.ahead - 1) (left_by (option_copied y.result)))
              c.follow-rest.ensures,
        ),
      ),
    )

pub returns : goal.returns
returns t c = let a = c.args in
    let x = c.try_left-as_written in
    let y = c.try_left-crosswise in
    let f = searched_of c.follow-found.result in
    let n : 0 < a.ahead = omega arith in
    let l : 0 < a.limit = omega arith in
    rw c.in-Some.is
    (c.behind_crossed.ensures
    ∙ find-rest (decode a.c.now) (said a.rule.now) a.ahead a.limit c.in-Some.bindings.now n (left_by (option_copied x.result)) x.ensures f
    c.follow-found.ensures l (ap is_some c.in_default-mask.is) c.if-limit-ways.false (left_by (option_copied y.result)) y.ensures
    (searched_of c.follow-rest.result) c.follow-rest.ensures)
