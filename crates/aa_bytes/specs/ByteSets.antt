-- Sets of bytes that an item of a pattern matches one of (apparmor.d(5), "Globbing"). Zero is in none of them.
use Rattle.std.specs.Prelude.{ℕ, Bool, not, ◌==◌, ◌&&◌, nat_le, if◌then◌else◌, List}
use Rattle.std.specs.List.{list_any}
use Rattle.aa_bytes.specs.Bytes.{slash}
use Rattle.aa_bytes.specs.declared.byte_set.ByteRange.{ByteRange}
use Rattle.aa_bytes.specs.declared.byte_set.ByteSet.{ByteSet}
use Rattle.aa_bytes.specs.declared.byte_set.ByteSet.TheVariants.{Inside, Class}

-- a byte within a segment of a path: neither zero nor `/`
abbrev pub is_inside : ℕ → Bool
is_inside b = not (b == 0) && not (b == slash)

-- a range lists the byte
abbrev pub lists : ℕ → ByteRange → Bool
lists b range = nat_le range.first b && nat_le b range.last

-- a class lists the byte
abbrev pub is_listed : ℕ → List ByteRange → Bool
is_listed b ranges = list_any (lists b) ranges

-- The byte is in the set. A class that begins with `^` has all bytes that it doesn't list, `/` included and zero excepted.
abbrev pub has : ByteSet → ℕ → Bool
has Inside b = is_inside b
has (Class negated ranges) b = not (b == 0) && (if negated then not (is_listed b ranges) else is_listed b ranges)
