-- Which references gates use, as one word: the code's way to 01, refusal 8, which is one compare of such words a rule.
use Rattle.std.specs.Prelude.{ℕ, ◌<◌, ◌-◌, ◌^◌, ◌≡◌, Bool, List, eqb, ltb}
use Rattle.lists.specs.First.{first}
use Rattle.circuit.specs.Circuit.{Gate, constants}
use Rattle.circuit.specs.Path.{is_used}
use Rattle.rules.specs.Soundness.{bit}

-- how many bits a word has, more than a left side has references
abbrev pub word_bits : ℕ
word_bits = 32

abbrev pub has_bit : (r word : ℕ) → Bool
has_bit r word = eqb (bit r word) 1

-- the word of one reference; of one that has no bit, none
abbrev pub mark : (r : ℕ) → ℕ
mark r = first (ltb r word_bits) (2 ^ r) 0

-- the word of those that gates use
abbrev pub MarksUses : (word : ℕ) → List Gate → Type 0
MarksUses word gs = (r : ℕ) → r < word_bits → has_bit r word ≡ is_used r gs

-- the word of those that 8 asks for, by the root: from the first hole up to it
abbrev pub owed : (root : ℕ) → ℕ
owed root = 2 ^ root - 2 ^ constants
