-- Characters of a text that may or may not be UTF-8.
use Rattle.std.specs.Prelude.{ℕ, Bool, not, ◌&&◌, nat_le, List, count_by, filter}

-- a byte goes on the character before it: the bytes of UTF-8 that do are 0x80 to 0xBF
abbrev pub goes_on_character : ℕ → Bool
goes_on_character b = nat_le 0x80 b && nat_le b 0xBF

-- a byte begins a character
abbrev pub begins_character : ℕ → Bool
begins_character b = not (goes_on_character b)

-- the first bytes of a text's characters
abbrev pub first_bytes : List ℕ → List ℕ
first_bytes text = filter begins_character text

-- how many characters a text has
abbrev pub character_count : List ℕ → ℕ
character_count text = count_by begins_character text
