-- Bits in one number.
use Rattle.std.specs.Prelude.{ℕ, zero, suc, ◌+◌, ◌*◌, ◌/◌, ◌%◌, Bool, true, false, ◌==◌, List, [], ◌∷◌}

-- so many bits of a number, the lowest first
abbrev pub bits_of : ℕ → ℕ → List Bool
bits_of zero bits = []
bits_of (suc len) bits = (bits % 2 == 1) ∷ bits_of len (bits / 2)

-- a bit as a number
abbrev pub bit : Bool → ℕ
bit true = 1
bit false = 0

-- the number of which these are the bits
abbrev pub number_of : List Bool → ℕ
number_of [] = 0
number_of (b ∷ bs) = number_of bs * 2 + bit b
