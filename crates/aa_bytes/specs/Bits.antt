-- Bits, each of which is that of a number: in words of 64 bits, where the lowest bit of the first word is that of zero, and in a byte.
use Rattle.std.specs.Prelude.{ℕ, Bool, ◌==◌, ◌/◌, ◌%◌, List, slice_index}
use Rattle.std.specs.Int.{bit_at}

-- the bit of a number is set
abbrev pub has_bit : List ℕ → ℕ → Bool
has_bit words n = bit_at (slice_index words (n / 64)) (n % 64) == 1

-- the bit of a number is set in a byte
abbrev pub byte_has_bit : ℕ → ℕ → Bool
byte_has_bit byte n = bit_at byte n == 1
