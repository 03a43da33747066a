-- The front of the table is copied, and the head's second number written anew: law `front-stores`.
use mathlib.Core.Path.{refl}
use Rattle.rewriting.proofs.LineLaws.{front-stores}
use Rattle.rewriting.proofs.replacing.write_front.Goals as goal

pub returns : goal.returns
returns c =
    front-stores c.args.c.now c.args.gates _ c.args.out.now _ _ c.front.ensures.value c.front.ensures.whole c.requires c.copy_over.ensures refl
