-- Sets of bytes as bit maps.
use Rattle.std.specs.Prelude.{ℕ, Bool}
use Rattle.aa_bytes.specs.Bits.{has_bit}
use Rattle.aa_bytes.specs.declared.byte_map.ByteMap.{ByteMap}

-- a byte is in the set
abbrev pub in_map : ByteMap → ℕ → Bool
in_map map byte = has_bit map.words byte
