-- Numbers of elements, by which the state after a beginning of a pattern is found. Sets of bytes are numbered in the order in which they are met.
use Rattle.std.specs.Prelude.{◌≡◌, ℕ, ◌+◌, nat_lt, if◌then◌else◌, List, [], ◌∷◌, Option, None, Some}
use Rattle.std.specs.Str.{bytes_eq}
use Rattle.aa_glob_syntax.specs.Elements.{Element, Single, Open, Comma, Close, Fault}
use Rattle.aa_glob_syntax.specs.Items.{Byte, Set, Star, DoubleStar, Group}
use Rattle.aa_bytes.specs.declared.byte_set.ByteRange.{ByteRange}
use Rattle.aa_bytes.specs.declared.byte_set.ByteSet.{ByteSet}
use Rattle.aa_bytes.specs.declared.byte_set.ByteSet.TheVariants.{Inside, Class}

-- the first and the last byte of each range
abbrev pub ends_of : List ByteRange → List ℕ
ends_of [] = []
ends_of (range ∷ ranges) = range.first ∷ range.last ∷ ends_of ranges

-- The key of a set of bytes: no bytes for those within a segment, and for a class whether it is negated, and then its ranges.
abbrev pub key_of : ByteSet → List ℕ
key_of Inside = []
key_of (Class negated ranges) = (if negated then 1 else 0) ∷ ends_of ranges

-- the number of the first set that is met: less than it are those of bytes, stars, braces and commas
abbrev pub first_set : ℕ
first_set = 261

-- every number is less than this
abbrev pub most_number : ℕ
most_number = 4294967295

-- the number of a key, where the first one has this number
abbrev pub number_from : ℕ → List ℕ → List (List ℕ) → Option ℕ
number_from first key [] = None
number_from first key (k ∷ ks) = if bytes_eq key k then Some first else number_from (first + 1) key ks

-- the number of a set of bytes
abbrev pub number_of_set : List (List ℕ) → ByteSet → Option ℕ
number_of_set keys set = number_from first_set (key_of set) keys

-- The number of an element: that of a byte is the byte itself. An element that no pattern has, and a set that wasn't met, have none.
abbrev pub number_of : List (List ℕ) → Element → Option ℕ
number_of keys (Single (Byte b)) = if nat_lt b 256 then Some b else None
number_of keys (Single (Set set)) = number_of_set keys set
number_of keys (Single Star) = Some 256
number_of keys (Single DoubleStar) = Some 257
number_of keys (Single (Group first second others)) = None
number_of keys Open = Some 258
number_of keys Comma = Some 259
number_of keys Close = Some 260
number_of keys (Fault error) = None

-- elements that have a number keep it
abbrev pub AreKept : List (List ℕ) → List (List ℕ) → Type 0
AreKept old new = (e : Element) (n : ℕ) → number_of old e ≡ Some n → number_of new e ≡ Some n
