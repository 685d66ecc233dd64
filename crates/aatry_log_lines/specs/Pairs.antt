-- The pairs of a line of the kernel's log. A line has words, and some of them are pairs: a key, `=` and a value. In the values of names the kernel
-- writes only visible characters, so a word ends at each byte up to the space, also at the byte 29 that auditd writes before what it adds.
use Rattle.std.specs.Prelude.{ℕ, Bool, nat_le, if◌then◌else◌, List, [], ◌∷◌, Option, None, Some, drop, length}
use Rattle.std.specs.List.{slice_split}
use Rattle.aa_bytes.specs.Bytes.{space}
use Rattle.aa_bytes.specs.Texts.{begins_with}

-- a byte between words
abbrev pub is_gap : ℕ → Bool
is_gap b = nat_le b space

-- the words of a line, some of which may be empty
abbrev pub words : List ℕ → List (List ℕ)
words line = slice_split is_gap line

-- the value of the first of these words that is a pair of this key, which is given with its `=`
abbrev pub value_among : List ℕ → List (List ℕ) → Option (List ℕ)
value_among key [] = None
value_among key (word ∷ words) = if begins_with key word then Some (drop (length key) word) else value_among key words

-- the value of a key in a line: that of the first pair with it
abbrev pub value_of : List ℕ → List ℕ → Option (List ℕ)
value_of key line = value_among key (words line)
