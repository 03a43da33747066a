-- One test with its answer, and what else there is. Nested in its last place it makes a chain: the first test that is passed has its
-- answer given, and the last answer has no test.
use Rattle.std.specs.Prelude.{Bool, true, false}

abbrev pub first : {A : Type 0} → Bool → A → A → A
first true a b = a
first false a b = b
