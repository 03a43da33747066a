-- The invariant: as many emits as outputs so far stand behind the code, and the buffer beyond is as it was (`Emitted` in ProgramLaws).
use mathlib.Core.Path.{◌≡◌, refl, sym, ap, ◌∙◌}
use mathlib.Core.List.{[], ◌∷◌, ◌++◌}
use Prim.Native.Nat.{suc}
use native.Mathlib.Omega.{arith}
use Rattle.circuit.specs.Path.{is_among}
use Rattle.circuit.specs.Table.{outputs, decode}
use Rattle.circuit.proofs.TableLaws.{outputs-length}
use Rattle.translator.specs.Allocation.{register_of}
use Rattle.translator.specs.Machine.{emitting}
use Rattle.translator.specs.Registers.{owners_of, code_of}
use Rattle.translator.proofs.OwnerLaws.{among-element}
use Rattle.translator.proofs.ProgramLaws.{emitted-none, emitted-more, emitted-all}
use borrow.Author.Rules.{rules}
use Rattle.translator.proofs.allocating.Allocator.write_emits.Goals as goal

pub loop-k-init : goal.loop-k-init
loop-k-init c = record { below = omega arith; same_program = refl; same_owners = refl; emitted = emitted-none _ _ _ }

pub register_of-register-requires-clause-held : goal.register_of-register-requires-clause-held
register_of-register-requires-clause-held c = let os = (decode c.args.circuit.now).outputs in
    let v = c.output.result in
    let e = c.output.ensures.value in
    ap (is_among (suc v)) c.loop-k.invariant.same_owners
    ∙ c.requires.held v (ap (λ x. is_among x os) e ∙ among-element os c.loop-k.k (rw outputs-length (search rules)))

pub loop-k-preserved : goal.loop-k-preserved
loop-k-preserved c = let l = c.loop-k in
    let v = c.output in
    let w = l.self in
    let p = c.push.ensures in
    record {
      below = search rules;
      same_program = p.same_program ∙ l.invariant.same_program;
      same_owners = ap owners_of p.same_registers ∙ l.invariant.same_owners;
      emitted = emitted-more (λ o. emitting (register_of (owners_of c.args.self.now.registers) o)) (decode c.args.circuit.now).outputs c.args.self.now
          w l.k l.invariant.emitted (rw outputs-length (search rules)) v.result (sym v.ensures.value) c.push.new.self
          (p.code
          ∙ ap (λ r. code_of w ++ (emitting r ∷ []))
          (c.register_of-register.ensures ∙ ap (λ ws. register_of ws v.result) l.invariant.same_owners))
          p.written p.beyond;
    }

pub returns-clause-code : goal.returns-clause-code
returns-clause-code c = let l = c.loop-k in
    let t = c.args.circuit.now in
    let e : l.k ≡ outputs t = omega arith in
    emitted-all _ _ _ l.self l.k l.invariant.emitted (e ∙ sym (outputs-length t))
