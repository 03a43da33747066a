-- Small rivals, computed, and why two of their conditions are there: without either, fewer registers than the need would do.
use mathlib.Core.Path.{◌≡◌, refl, sym, ap, ◌∙◌}
use mathlib.Core.Logic.{◌⊎◌, inl, inr, ⊎_elim}
use mathlib.Core.Bool.{true, false, true≢false, ◌||◌, or-false}
use mathlib.Core.List.{List, [], ◌∷◌, ◌++◌}
use mathlib.Core.Option.{some}
use Prim.Native.Nat.{ℕ}
use lib.Dec.{eqb}
use lib.ListN.{take, drop}
use borrow.Author.Tests.{eqb-true}
use Rattle.lists.specs.Below.{map_below}
use Rattle.lists.proofs.Tests.{one_of}
use Rattle.circuit.specs.Circuit.{Circuit, and_kind}
use Rattle.circuit.specs.Depth.{largest}
use Rattle.circuit.specs.Path.{is_among, is_output, is_used}
use Rattle.translator.specs.Machine.{Instruction, loading, operating, emitting, is_operation, is_emit}
use Rattle.translator.specs.LiveRange.{is_constant_or_input}
use Rattle.translator.specs.Need.{count_below, need}
use Rattle.translator.specs.Actions.{output_loads, actions_from, actions, is_read}
use Rattle.translator.specs.Place.{place_in}
use Rattle.translator.specs.Allocation.{assign, release, release_operands, allocate}
use Rattle.translator.specs.Program.{program}
use Rattle.translator.specs.Known.{HoldsReference, known_after, known_from, known_of}
use Rattle.translator.specs.Rival.{RivalLoad, LoadsOrOperates, EachAllowed, AllGates, LoadedBeforeUse, EmitsLast, EmitsOutputs}
use Rattle.translator.specs.StillRead.{is_still_read, still_to_be_read}
use Rattle.translator.proofs.SplitLaws.{each_last, no-element}
use Rattle.translator.proofs.RivalLaws.{made-allowed, made-gates, made-last, made-outputs}

-- ((2 . 3) . 4) . 2: input 2 is used first and last
abbrev chain : Circuit
chain =
    record {
      inputs = 3;
      starts = [];
      gates = record { kind = and_kind; left = 2; right = 3 } ∷ record { kind = and_kind; left = 5; right = 4 }
          ∷ record { kind = and_kind; left = 6; right = 2 } ∷ [];
      outputs = 7 ∷ [];
    }

pub chain-need : need chain ≡ 3
unfolding need count_below map_below largest is_used is_among
chain-need = refl

-- The translator's program: before its second operation all three registers are full and still to be read; before its emit all three are full, but
-- one is still to be read.
pub chain-program : program chain
    ≡ loading 0 2 ∷ loading 1 3 ∷ operating and_kind 1 0 1 ∷ loading 2 4 ∷ operating and_kind 2 1 2 ∷ operating and_kind 0 2 0 ∷ emitting 0 ∷ []
unfolding program actions actions_from output_loads allocate assign release release_operands is_read is_used is_among place_in
chain-program = refl

pub chain-floor : still_to_be_read chain 3 (take 4 (program chain)) (drop 4 (program chain)) ≡ 3
unfolding program actions actions_from output_loads allocate assign release release_operands is_read is_used is_among place_in still_to_be_read count_below known_from known_after is_still_read
chain-floor = refl

pub chain-end : still_to_be_read chain 3 (take 6 (program chain)) (drop 6 (program chain)) ≡ 1
unfolding program actions actions_from output_loads allocate assign release release_operands is_read is_used is_among place_in still_to_be_read count_below known_from known_after is_still_read
chain-end = refl

-- ---- each by those before it

nothing_yet : (Q : List Instruction → Instruction → Type 0) (before : List Instruction) (x : Instruction) (behind : List Instruction) → [] ≡ before ++ (x ∷ behind)
    → Q before x
nothing_yet Q before x behind e = absurd (no-element before x behind e)

-- ---- Why an input is not loaded behind a use: with input 2 loaded again before its second use, two registers do, and the need is 3.

abbrev reloading : List Instruction
reloading =
    loading 0 2 ∷ loading 1 3 ∷ operating and_kind 0 0 1 ∷ loading 1 4 ∷ operating and_kind 0 0 1 ∷ loading 1 2 ∷ operating and_kind 0 1 0 ∷ []

reloading-allowed : (before : List Instruction) (x : Instruction) (behind : List Instruction) → reloading ≡ before ++ (x ∷ behind) → LoadsOrOperates chain 2 before x
unfolding known_from known_after
reloading-allowed =
    let put : (d v : ℕ) → is_constant_or_input chain v ≡ true → (before : List Instruction) → LoadsOrOperates chain 2 before (loading d v)
    = λ d v low before. inl (record { is-load = refl; loadable = low }) in
    each_last (LoadsOrOperates chain 2) (take 6 reloading) (operating and_kind 0 1 0)
    (each_last (LoadsOrOperates chain 2) (take 5 reloading) (loading 1 2)
    (each_last (LoadsOrOperates chain 2) (take 4 reloading) (operating and_kind 0 0 1)
    (each_last (LoadsOrOperates chain 2) (take 3 reloading) (loading 1 4)
    (each_last (LoadsOrOperates chain 2) (take 2 reloading) (operating and_kind 0 0 1)
    (each_last (LoadsOrOperates chain 2) (take 1 reloading) (loading 1 3)
    (each_last (LoadsOrOperates chain 2) [] (loading 0 2) (nothing_yet (LoadsOrOperates chain 2)) (put 0 2 refl [])) (put 1 3 refl (take 1 reloading)))
    (inr (record { is-operation = refl; reads-operands = inl (refl, refl) }))) (put 1 4 refl (take 3 reloading)))
    (inr (record { is-operation = refl; reads-operands = inl (refl, refl) }))) (put 1 2 refl (take 5 reloading)))
    (inr (record { is-operation = refl; reads-operands = inr (refl, refl) }))

-- all that is asked of a rival, but for `LoadedBeforeUse`
pub reloading-otherwise : let p = reloading ++ (emitting 0 ∷ []) in EachAllowed chain 2 p × AllGates chain 2 p × EmitsLast p × EmitsOutputs chain 2 p
unfolding known_from known_after is_among
reloading-otherwise =
    let outputs : (o : ℕ) → is_output chain o ≡ true → (a : ℕ) × (is_among a (0 ∷ []) ≡ true) × HoldsReference (known_of chain 2 reloading) a o
    = λ o q. (0, refl, ap some (sym (eqb-true o 7 (sym (or-false (eqb o 7)) ∙ q)))) in (
      made-allowed chain 2 reloading (0 ∷ []) reloading-allowed refl outputs,
      made-gates chain 2 reloading (0 ∷ []) reloading-allowed refl outputs,
      made-last chain 2 reloading (0 ∷ []) reloading-allowed refl outputs,
      made-outputs chain 2 reloading (0 ∷ []) reloading-allowed refl outputs,
    )

-- ---- Why nothing is loaded behind an emit: two inputs that are the outputs could be emitted from one register, and the need is 2.

abbrev wires : Circuit
wires = record { inputs = 2; starts = []; gates = []; outputs = 2 ∷ 3 ∷ [] }

pub wires-need : need wires ≡ 2
unfolding need count_below map_below largest is_used is_among
wires-need = refl

abbrev early : List Instruction
early = loading 0 2 ∷ emitting 0 ∷ loading 0 3 ∷ emitting 0 ∷ []

-- each of its instructions is allowed, and none is an operation
early-each : (before : List Instruction) (x : Instruction) (behind : List Instruction) → early ≡ before ++ (x ∷ behind)
    → (RivalLoad wires x ⊎ (is_emit x ≡ true)) × (is_operation x ≡ false)
early-each =
    let one : List Instruction → Instruction → Type 0 = λ before x. (RivalLoad wires x ⊎ (is_emit x ≡ true)) × (is_operation x ≡ false) in
    each_last one (take 3 early) (emitting 0)
    (each_last one (take 2 early) (loading 0 3)
    (each_last one (take 1 early) (emitting 0)
    (each_last one [] (loading 0 2) (nothing_yet one) (inl (record { is-load = refl; loadable = refl }), refl)) (inr refl, refl))
    (inl (record { is-load = refl; loadable = refl }), refl)) (inr refl, refl)

-- all that is asked of a rival, but for `EmitsLast`
pub early-otherwise : EachAllowed wires 1 early × AllGates wires 1 early × LoadedBeforeUse wires 1 early × EmitsOutputs wires 1 early
unfolding known_from known_after is_among
early-otherwise = (
  λ before x behind e. ⊎_elim (λ l. inl (inl l)) (λ q. inr q) (early-each before x behind e).0,
  refl,
  λ before x behind e o v low u. absurd (true≢false (sym o ∙ (early-each before x behind e).1)),
  λ o q. elim (one_of (eqb o 2) (eqb o 3 || false) q) [
    | inl t ↦ (take 1 early, 0, drop 2 early, refl, ap some (sym (eqb-true o 2 t)))
    | inr t ↦ (take 3 early, 0, [], refl, ap some (sym (eqb-true o 3 (sym (or-false (eqb o 3)) ∙ t))))
  ],
)
