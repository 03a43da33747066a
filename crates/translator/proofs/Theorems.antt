-- The theorems about the register program. Assumes nothing.
use mathlib.Core.Path.{◌≡◌, refl, sym, ap, ap₂, ◌∙◌}
use mathlib.Core.Bool.{true, false}
use mathlib.Core.List.{List, [], ◌∷◌, ◌++◌, map, append_assoc}
use mathlib.Core.Option.{Option, none, some, bind-eq-some_iff, none-ne-some}
use Prim.Native.Nat.{ℕ, zero, suc, ◌+◌, ◌*◌, ◌<◌}
use native.Mathlib.Nat.{le_trans, not-suc-le-zero, le_of_suc-le-suc}
use native.Mathlib.Omega.{arith}
use lib.ListN.{length, take, drop, get_or, replicate, length-replicate}
use lib.Seq.{drop-cons, drop-length, take-length, take-append_seam}
use borrow.Author.Tests.{le-ltb}
use Rattle.circuit.specs.Circuit.{constants, references, no_gate}
use Rattle.circuit.specs.Evaluation.{bit_op, bit_of, start_bits}
use Rattle.circuit.specs.Table.{inputs, decode}
use Rattle.circuit.specs.Depth.{start_levels, largest, circuit_depth}
use Rattle.circuit.specs.Path.{is_among, is_output}
use Rattle.circuit.specs.Trim.{trim}
use Rattle.circuit.proofs.RefusalLaws.{accepted-is-well-formed}
use Rattle.circuit.proofs.StartLaws.{starts-at-level, starts-are-right}
use Rattle.circuit.proofs.ValidLaws.{valid-decode, limited-decode}
use Rattle.circuit.proofs.TrimLaws.{trim-limited, trim-outputs}
use Rattle.translator.specs.Machine.{empty_machine, run_from, run}
use Rattle.translator.specs.LeveledBit.{LeveledBit, leveled_op, loaded_from, start_leveled, run_on}
use Rattle.translator.specs.Need.{need}
use Rattle.translator.specs.Actions.{operand_loads, actions_from}
use Rattle.translator.specs.Program.{program, encode_program, instructions_of}
use Rattle.translator.specs.LastUse.{count_distinct}
use Rattle.translator.specs.Written.{registers_written}
use Rattle.translator.specs.StillRead.{is_still_read}
use Rattle.translator.specs.TranslateCall.{translating}
use Rattle.translator.specs.Theorems.{RunWithinLimit, InstructionDoes, InstructionFaults, BitsAndLevels, PublicUntilOverwritten, InstructionsAfterEncode, LastUseDecides, PressureIsNeed, AllocatorIsProgram, ProgramComputes, ProgramEmitsOutputs, NeedIsSome, RegistersWithinNeed, ProgramWritesNeed, ProgramFollowsActions, ProgramCount, ActionsOperateInOrder, ActionsLoadOnce, ActionsLoadAtFirstUse, ActionsLoadForOutputs, ValuesAreHeld, ProgramIsDisciplined, OneProgram, DisciplinedRuns, KnownIsHeld, OperandsChangePlaces, PlainIsRival, StillReadIsRead, FloorOfRegisters, NoFewerRegisters, ProgramIsRival, TranslationRuns, TranslationWritesNeed, LimitChangesNothing, TranslationIsDisciplined, EqualCircuitsEqualPrograms, TranslationIsFloor, RefusesNoRival}
use Rattle.translator.proofs.CountLaws.{count-some, count-all}
use Rattle.translator.proofs.TrimmedLaws.{trimmed-of}
use Rattle.translator.proofs.PressureLaws.{linear-need, outputs-need, distinct-count}
use Rattle.translator.proofs.OwnerLaws.{among-element}
use Rattle.translator.proofs.RunLaws.{empty-register, load-executes, operation-executes, emit-executes}
use Rattle.translator.proofs.FaultLaws.{full, fault-executes, executes-fault}
use Rattle.translator.proofs.ComputeLaws.{end-computes}
use Rattle.translator.proofs.ActionLaws.{end-is-program}
use Rattle.translator.proofs.LoadLaws.{operations-actions, actions-split, output-operations, operand-occurrences, output-occurrences, actions-occurrences}
use Rattle.translator.proofs.ShapeLaws.{program-shape, program-length, program-limit, encode-length, instructions-encode}
use Rattle.translator.proofs.RegisterLaws.{run-within}
use Rattle.translator.proofs.WrittenLaws.{written-used, program-writes}
use Rattle.translator.proofs.LeveledLaws.{no_value, leveled-swaps, loaded_at, public-start, leveled-length, leveled_outputs, emitted-bits, emitted-levels}
use Rattle.translator.proofs.PublicLaws.{run-marks}
use Rattle.translator.proofs.MomentLaws.{after-code}
use Rattle.translator.proofs.DisciplineLaws.{disciplined-same, program-disciplined}
use Rattle.translator.proofs.HoldingLaws.{holding-before, holding-after, holding-end}
use Rattle.translator.proofs.LastUseLaws.{used-from}
use Rattle.translator.proofs.RivalLaws.{plain-rival}
use Rattle.translator.proofs.FloorLaws.{floor, floor-limit, read-written}
use Rattle.translator.proofs.OwnProgramLaws.{program-rival}
use Rattle.translator.proofs.KnownRunLaws.{known-held}
use Rattle.translator.proofs.StillReadLaws.{still_read, read-still}
use Rattle.translator.proofs.CallLaws.{needs-no-more, translation-accepted, checks-pass, Translation, translation-is}

-- ---- the machine

pub instruction-does : InstructionDoes
instruction-does A start op m = (
  λ d r v h e. load-executes start op m d h r v e,
  λ kind d a b v w k h e f. operation-executes start op m d h kind a b v w k (full m.registers none a (some v) e) (full m.registers none b (some w) f),
  λ a v e. emit-executes start op m a v (full m.registers none a (some v) e),
)

pub instruction-faults : InstructionFaults
instruction-faults A start op m o x y z = (executes-fault start op m o x y z, fault-executes start op m o x y z)

-- what is loaded, by the place of an input's byte
byte_at : (bytes : List ℕ) (i : ℕ) → i < length bytes → get_or (start_bits bytes) (constants + i) 0 ≡ bit_of (get_or bytes i 0)
byte_at bytes i h = ap (λ k. get_or (start_bits bytes) k 0) (suc-suc i) ∙ at bytes i h
  where
    suc-suc : (i : ℕ) → constants + i ≡ suc (suc i)
    suc-suc i = omega arith

    at : (bytes : List ℕ) (i : ℕ) → i < length bytes → get_or (map bit_of bytes) i 0 ≡ bit_of (get_or bytes i 0)
    at [] i h = absurd (not-suc-le-zero h)
    at (b ∷ bs) zero h = refl
    at (b ∷ bs) (suc i) h = at bs i (le_of_suc-le-suc h)

pub bits-and-levels : BitsAndLevels
unfolding bit_op
bits-and-levels = (
  λ a b. refl,
  λ a b p. rw p,
  λ a b p. rw p,
  λ c bytes e right.
      let at = loaded_at c bytes e in
      let (_, listed, other) = starts-at-level c right in
      let constant : (v : ℕ) → v < constants → get_or (start_levels c) v 0 ≡ 0 =
      λ v h. other v (λ i l q. let z : ⊥ = omega (arith, (((starts-are-right c).0 right).names-input i l).0) in z) in (
        leveled-length c bytes e,
        at 0 (omega arith) ∙ ap (λ l. some (loaded_from 0 0 l)) (constant 0 (omega arith)),
        at 1 (omega arith) ∙ ap (λ l. some (loaded_from 1 1 l)) (constant 1 (omega arith)),
        λ i h. (
          get_or (start_levels c) (constants + i) 0,
          at (constants + i) (omega arith)
              ∙ ap₂ (λ b p. some (record { bit = b; level = get_or (start_levels c) (constants + i) 0; public = p })) (byte_at bytes i (omega arith))
              (le-ltb (constants + i) constants (omega arith)),
          λ k l q. ap (λ v. get_or (start_levels c) v 0) (sym q) ∙ listed k l,
          other (constants + i),
        ),
      ),
)

pub public-until-overwritten : PublicUntilOverwritten
public-until-overwritten c bytes e limit is m r =
    run-marks (start_leveled c bytes) (public-start c bytes e) is (empty_machine limit) m (λ d. false) r
    (λ d v q. absurd (none-ne-some v (sym (empty-register limit d) ∙ q)))

pub run-within-limit : RunWithinLimit
unfolding run
run-within-limit A start op limit is es e d h =
    let (m, p, q) = (bind-eq-some_iff (run_from start op is (empty_machine limit)) (λ m. some m.emitted)).0 e in
    rw (length-replicate {A = Option A} limit none) at (run-within start op is (empty_machine limit) m p d h)

pub instructions-after-encode : InstructionsAfterEncode
instructions-after-encode = instructions-encode

-- ---- what the loops compute

pub last-use-decides : LastUseDecides
last-use-decides = used-from

pub pressure-is-need : PressureIsNeed
pressure-is-need t w = linear-need (trim (decode t)) (trimmed-of t w)

pub allocator-is-program : AllocatorIsProgram
allocator-is-program t w = end-is-program (trim (decode t)) (trimmed-of t w)

-- ---- the run

pub program-computes : ProgramComputes
unfolding trim
program-computes A op z start t w l limit h =
    let c = trim (decode t) in
    let k = trimmed-of t w in
    ap (run start op limit) (sym (end-is-program c k)) ∙ end-computes op z start c k l limit h
    ∙ ap some (trim-outputs (decode t) (valid-decode t w) op z start l)

pub program-emits-outputs : ProgramEmitsOutputs
unfolding circuit_depth
program-emits-outputs t w bytes l limit h =
    let levels = emitted-levels (decode t) bytes l in (
      leveled_outputs (decode t) bytes,
      program-computes LeveledBit leveled_op no_value (start_leveled (decode t) bytes) t w (leveled-length (decode t) bytes l) limit h,
      emitted-bits (decode t) bytes l,
      levels,
      ap largest levels,
    )

pub need-is-some : NeedIsSome
need-is-some t w =
    let c = trim (decode t) in
    let k = trimmed-of t w in
    let o = get_or c.outputs 0 0 in
    let among = among-element c.outputs 0 (trim-limited (decode t) (valid-decode t w) (limited-decode t w.sized)).outputs-some in
    le_trans (count-some (is_output c) o (references c) (k.valid.outputs-below o among) among) (outputs-need c k)

pub registers-within-need : RegistersWithinNeed
registers-within-need t w d h =
    let c = trim (decode t) in
    let bytes = replicate {A = ℕ} (inputs t) 0 in
    let (es, e, bits, levels, top) = program-emits-outputs t w bytes (length-replicate {A = ℕ} (inputs t) 0) (need c) (omega arith) in
    run-within-limit LeveledBit (start_leveled (decode t) bytes) leveled_op (need c) (program c) es e d h

pub program-writes-need : ProgramWritesNeed
program-writes-need t w =
    let c = trim (decode t) in
    let ds = registers_written (program c) in
    let below : (d : ℕ) → is_among d ds ≡ true → d < need c = λ d e. registers-within-need t w d (written-used (program c) d e) in
    record {
      as_many = distinct-count ds (need c) below ∙ count-all (λ d. is_among d ds) (need c) (program-writes c (trimmed-of t w));
      all-below = below;
    }

-- ---- the actions

pub program-follows-actions : ProgramFollowsActions
program-follows-actions t w = program-shape (trim (decode t)) (trimmed-of t w)

pub program-count : ProgramCount
unfolding trim
program-count t w =
    let c = trim (decode t) in
    let k = trimmed-of t w in
    (program-length c k, program-limit c k (trim-limited (decode t) (valid-decode t w) (limited-decode t w.sized)))

pub actions-operate-in-order : ActionsOperateInOrder
actions-operate-in-order = operations-actions

pub actions-load-once : ActionsLoadOnce
actions-load-once = actions-occurrences

pub actions-load-at-first-use : ActionsLoadAtFirstUse
unfolding actions_from
actions-load-at-first-use c i h =
    let g = get_or c.gates i no_gate in
    let (before, e, q) = actions-split c i (omega arith) in (
      before,
      actions_from c (suc i) (drop (suc i) c.gates),
      e ∙ ap (λ gs. before ++ actions_from c i gs) (drop-cons c.gates i no_gate h) ∙ sym (append_assoc before (operand_loads c i g) _),
      q,
      λ v. operand-occurrences c v i g,
    )

pub actions-load-for-outputs : ActionsLoadForOutputs
unfolding actions_from is_among
actions-load-for-outputs c =
    let n = length c.gates in
    let (before, e, q) = actions-split c n (omega arith) in (
      before,
      e ∙ ap (λ gs. before ++ actions_from c n gs) (drop-length c.gates),
      q ∙ take-length c.gates,
      output-operations c 0 c.outputs,
      λ v. output-occurrences c v (length c.outputs) 0 (omega arith),
    )

-- ---- moments

pub values-are-held : ValuesAreHeld
unfolding trim
values-are-held A op z start t w l limit enough =
    let c = trim (decode t) in
    let k = trimmed-of t w in (
      λ i h. (holding-before op z start c k l limit enough i h, holding-after op z start c k l limit enough i h, (_, after-code c i)),
      holding-end op z start c k l limit enough,
    )

-- ---- one program

pub program-is-disciplined : ProgramIsDisciplined
program-is-disciplined t w = program-disciplined (trim (decode t)) (trimmed-of t w)

pub one-program : OneProgram
one-program = disciplined-same

pub disciplined-runs : DisciplinedRuns
disciplined-runs t w p d =
    let c = trim (decode t) in
    let e = one-program c p (program c) d (program-is-disciplined t w) in (
      rw e (program-writes-need t w),
      λ bytes l limit h.
          let (es, r, bits, levels, top) = program-emits-outputs t w bytes l limit h in
          (es, ap (run_on (decode t) bytes limit) e ∙ r, bits, levels, top),
    )

-- ---- no program with fewer registers

pub known-is-held : KnownIsHeld
unfolding trim
known-is-held A op z start swap t w l limit p r kinds =
    known-held op z start (trim (decode t)) (trimmed-of t w) l swap limit p r kinds

pub operands-change-places : OperandsChangePlaces
operands-change-places = leveled-swaps

pub plain-is-rival : PlainIsRival
plain-is-rival = plain-rival

pub still-read-is-read : StillReadIsRead
still-read-is-read d is = (still_read d is, λ (front, x, back, e, r, w). ap (is_still_read d) e ∙ read-still d front x back r w)

pub floor-of-registers : FloorOfRegisters
floor-of-registers t w limit p r =
    let (before, behind, e, h) = floor (trim (decode t)) (trimmed-of t w) limit p r in
    (before, behind, e, rw (program-writes-need t w).as_many h)

pub no-fewer-registers : NoFewerRegisters
no-fewer-registers t w limit p r =
    let c = trim (decode t) in
    let (before, behind, e, h) = floor-of-registers t w limit p r in
    (rw e (le_trans h (read-written c limit before behind)), floor-limit c (trimmed-of t w) limit p r)

pub program-is-rival : ProgramIsRival
program-is-rival t w limit h =
    let c = trim (decode t) in (
      program-rival c (trimmed-of t w) limit h,
      λ before behind e.
          let full = read-written c limit before behind in
          let all : count_distinct (registers_written (before ++ behind)) ≡ need c = ap (λ is. count_distinct (registers_written is)) (sym e) ∙ (program-writes-need t w).as_many in
          omega arith,
    )

-- ---- the call

module _ (t : List ℕ) (limit : ℕ) (buffer after : List ℕ) (count n : ℕ) (x : Translation t limit buffer after count n) where
  -- what it leaves, read back
  read_back : instructions_of count after ≡ program (trim (decode t))
  read_back =
      let p = program (trim (decode t)) in
      ap₂ instructions_of x.counted x.written ∙ instructions-after-encode p (drop (length (encode_program p)) buffer)

  -- or as numbers
  numbers : take (4 * count) after ≡ encode_program (program (trim (decode t)))
  numbers =
      let p = program (trim (decode t)) in
      ap₂ take (ap (λ k. 4 * k) x.counted ∙ sym (encode-length p)) x.written ∙ take-append_seam (encode_program p) (drop (length (encode_program p)) buffer)

pub translation-runs : TranslationRuns
translation-runs t limit buffer after count n e =
    let x = translation-is t limit buffer after count n e in
    let w = (accepted-is-well-formed t).0 x.accepted in (
      x.needed,
      λ bytes l.
          let (es, r, bits, levels, top) = program-emits-outputs t w bytes l limit x.enough in
          (es, ap (run_on (decode t) bytes limit) (read_back t limit buffer after count n x) ∙ r, bits, top),
    )

pub translation-writes-need : TranslationWritesNeed
translation-writes-need t limit buffer after count n e =
    let x = translation-is t limit buffer after count n e in
    rw (read_back t limit buffer after count n x, x.needed) (program-writes-need t ((accepted-is-well-formed t).0 x.accepted))

pub limit-changes-nothing : LimitChangesNothing
unfolding translating
limit-changes-nothing t limit other buffer a b h k =
    let n = need (trim (decode t)) in rw (a, b, le-ltb limit n h, le-ltb other n k)

pub translation-is-disciplined : TranslationIsDisciplined
translation-is-disciplined t limit buffer after count n e =
    let x = translation-is t limit buffer after count n e in
    let back = read_back t limit buffer after count n x in
    let d = program-is-disciplined t ((accepted-is-well-formed t).0 x.accepted) in
    (rw back d, λ p q. one-program (trim (decode t)) p (program (trim (decode t))) q d ∙ sym back)

pub equal-circuits-equal-programs : EqualCircuitsEqualPrograms
equal-circuits-equal-programs t t' limit limit' buffer buffer' after after' count count' n n' same e f =
    let x = translation-is t limit buffer after count n e in
    let y = translation-is t' limit' buffer' after' count' n' f in (
      x.counted ∙ ap (λ c. length (program c)) same ∙ sym y.counted,
      x.needed ∙ ap need same ∙ sym y.needed,
      numbers t limit buffer after count n x ∙ ap (λ c. encode_program (program c)) same ∙ sym (numbers t' limit' buffer' after' count' n' y),
    )

pub translation-is-floor : TranslationIsFloor
translation-is-floor t limit buffer after count n e =
    let x = translation-is t limit buffer after count n e in
    let w = (accepted-is-well-formed t).0 x.accepted in (
      rw (read_back t limit buffer after count n x) (program-is-rival t w limit x.enough).0,
      λ other p r. rw x.needed (floor (trim (decode t)) (trimmed-of t w) other p r),
    )

pub refuses-no-rival : RefusesNoRival
refuses-no-rival t a limit buffer room high p r =
    let c = trim (decode t) in
    let w = (accepted-is-well-formed t).0 a in
    let enough = (no-fewer-registers t w limit p r).1 in
    (_, _, sym (needs-no-more c limit buffer (need c) refl enough _ _ refl refl ∙ translation-accepted t limit buffer (checks-pass t limit buffer w room (le_trans (need-is-some t w) enough) high)))
