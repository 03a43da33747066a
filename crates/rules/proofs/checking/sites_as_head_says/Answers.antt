-- The head may be any 32-bit number, which is multiplied within 64 bits.
use native.Mathlib.Omega.{arith}
use Rattle.rules.proofs.checking.sites_as_head_says.Goals as goal

pub overflow_cast-sites : goal.overflow_cast-sites
overflow_cast-sites c = omega (arith, c.type_inv.t 0)

pub overflow_mul-result : goal.overflow_mul-result
overflow_mul-result c = omega (arith, c.type_inv.t 0)

pub overflow_add-result : goal.overflow_add-result
overflow_add-result c = omega (arith, c.type_inv.t 0)
