-- 01, Rules, 6, at the end, and 02, 2026-07, 3: many assignments at once, each in its own bit of a word. Here words have n bits, for any n,
-- and begin at any assignment, `from`: bit a is for assignment from + a. That a word's bits are what single assignments give is
-- `WordsStandForAssignments` in Theorems.antt; that the compares of words say whether a rule is sound is `WordsJudge` there.
use Rattle.std.specs.Prelude.{ℕ, zero, suc, ◌+◌, ◌*◌, ◌-◌, ◌^◌, Bool, List, ◌∷◌, eqb}
use Rattle.lists.specs.Below.{all_below, map_below}
use Rattle.rules.specs.Rule.{Rule, root}
use Rattle.rules.specs.Soundness.{side_value, assignment}

-- the word of n bits whose bit a is f a
unfoldable pub word_of : (f : ℕ → ℕ) → (n : ℕ) → ℕ
word_of f zero = 0
word_of f (suc n) = f 0 + 2 * word_of (λ a. f (suc a)) n

-- the words of the constants: all bits 0, all bits 1
abbrev pub ones_word : (n : ℕ) → ℕ
ones_word n = word_of (λ a. 1) n

-- the word of hole j: its bits in the n assignments
abbrev pub hole_word : (n from j : ℕ) → ℕ
hole_word n from j = word_of (λ a. assignment (from + a) j) n

abbrev pub start_words : (n from holes : ℕ) → List ℕ
start_words n from holes = 0 ∷ ones_word n ∷ map_below (hole_word n from) holes

-- the truth tables of both sides; AND and XOR of words are those of each bit
abbrev pub left_word : (n from : ℕ) → Rule → ℕ
left_word n from u = side_value u.lefts (root u) (start_words n from u.holes)

abbrev pub right_word : (n from : ℕ) → Rule → ℕ
right_word n from u = side_value u.rights u.closing (start_words n from u.holes)

-- one compare
abbrev pub same_words : (n from : ℕ) → Rule → Bool
same_words n from u = eqb (left_word n from u) (right_word n from u)

-- as many compares as `words`: word w is for the n assignments from w * n on
abbrev pub all_same_words : (n words : ℕ) → Rule → Bool
all_same_words n words u = all_below (λ w. same_words n (w * n) u) words

-- 01's size, which is the code's: a word has a bit for each of the 64 assignments of six holes. The word of each of these holes is its mask,
-- the same in every word.
abbrev pub masked_holes : ℕ
masked_holes = 6

abbrev pub assignments_per_word : ℕ
assignments_per_word = 2 ^ masked_holes

-- how many such words: one up to six holes, and twice as many with each hole from there on
abbrev pub words_for : (holes : ℕ) → ℕ
words_for holes = 2 ^ (holes - masked_holes)
