-- What a call gives, as the one number that its C export gives back.
use Rattle.std.specs.Prelude.{ℕ, ◌+◌, ◌*◌, ◌/◌, ◌%◌, ◌^◌, Bool, List, [], ◌∷◌, eqb, length, get_or}
use Rattle.lists.specs.First.{first}
use Rattle.lines.specs.Refusal.{Result, refused, gives}
use Rattle.circuit.specs.Circuit.{line_count}
use Rattle.circuit.specs.Table.{decode}

-- 01, Register program, 16: a refusal
abbrev pub pack_refusal : (number table : ℕ) → ℕ
pack_refusal number table = 1000000 + 10 * number + table

-- a refusal, or what `make` makes of a success's numbers
abbrev pub pack : (make : List ℕ → ℕ) → Result → ℕ
pack make (refused number table) = pack_refusal number table
pack make (gives values) = make values

-- Whether a number is a refusal: it is from 1,000,000 to 1,000,999, where no success of any call is (`ReadUnpacks` to `ListingUnpacks` in
-- Theorems.antt).
abbrev pub is_refusal : ℕ → Bool
is_refusal n = eqb (n / 1000) 1000

-- and back, where `take` takes a success's numbers out
abbrev pub unpack : (take : ℕ → List ℕ) → ℕ → Result
unpack take n = first (is_refusal n) (refused (n % 1000 / 10) (n % 10)) (gives (take n))

-- ---- the numbers of a success

-- `read` and `write`: 0, for how many lines there are follows from the source's length
abbrev pub pack_lines : List ℕ → ℕ
pack_lines values = 0

abbrev pub unpack_lines : (size : ℕ) (source : List ℕ) → ℕ → List ℕ
unpack_lines size source n = length source / size ∷ []

-- `evaluate`: outputs; `judge` and `match_site`: the verdict; the listing: its length (01, Register program, 16)
abbrev pub pack_one : List ℕ → ℕ
pack_one values = get_or values 0 0

abbrev pub unpack_one : ℕ → List ℕ
unpack_one n = n ∷ []

-- two numbers, one above the low 32 bits
abbrev pub pack_two : (high low : ℕ) → ℕ
pack_two high low = high * 2 ^ 32 + low

-- `measure`: D and N
abbrev pub pack_pair : List ℕ → ℕ
pack_pair values = pack_two (get_or values 0 0) (get_or values 1 0)

abbrev pub unpack_pair : ℕ → List ℕ
unpack_pair n = n / 2 ^ 32 ∷ n % 2 ^ 32 ∷ []

-- `find_mask`: the ways, and below them the outcome above the 16 bits of the mask
abbrev pub pack_finding : List ℕ → ℕ
pack_finding values = pack_two (get_or values 2 0) (get_or values 0 0 * 2 ^ 16 + get_or values 1 0)

abbrev pub unpack_finding : ℕ → List ℕ
unpack_finding n = n % 2 ^ 32 / 2 ^ 16 ∷ n % 2 ^ 16 ∷ n / 2 ^ 32 ∷ []

-- `translate`: the number of instructions in the low bits, and the need
abbrev pub pack_translation : List ℕ → ℕ
pack_translation values = pack_two (get_or values 1 0) (get_or values 0 0)

abbrev pub unpack_translation : ℕ → List ℕ
unpack_translation n = n % 2 ^ 32 ∷ n / 2 ^ 32 ∷ []

-- five numbers, of 12 bits each
abbrev pub pack_fields : (old_depth old_critical new_depth new_critical kept : ℕ) → ℕ
pack_fields old_depth old_critical new_depth new_critical kept =
    old_depth * 2 ^ 48 + old_critical * 2 ^ 36 + new_depth * 2 ^ 24 + new_critical * 2 ^ 12 + kept

-- `rewrite`: both pairs, and the number of sites kept. How many lines the circuit handed back has, the first of its numbers, follows
-- from the circuit that the result table says.
abbrev pub pack_rewriting : List ℕ → ℕ
pack_rewriting values = pack_fields (get_or values 1 0) (get_or values 2 0) (get_or values 3 0) (get_or values 4 0) (get_or values 5 0)

abbrev pub unpack_rewriting : (result : List ℕ) → ℕ → List ℕ
unpack_rewriting result n =
    line_count (decode result)
    ∷ n / 2 ^ 48 ∷ n / 2 ^ 36 % 2 ^ 12 ∷ n / 2 ^ 24 % 2 ^ 12 ∷ n / 2 ^ 12 % 2 ^ 12 ∷ n % 2 ^ 12 ∷ []
