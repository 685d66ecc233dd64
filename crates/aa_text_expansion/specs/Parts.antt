-- Parts: what a text with names of variables in it consists of (apparmor.d(5), "Variables"; see docs/policy.md, "Variables").
use Rattle.std.specs.Prelude.{ℕ, ◌==◌, ◌&&◌, if◌then◌else◌, List, [], ◌∷◌, ◌++◌, Option, None, Some}
use Rattle.aa_bytes.specs.Bytes.{at_sign, backslash, closing_brace, opening_brace}

-- What a text is made of: bytes, names of variables, and maybe a name that isn't closed.
pub data Part : Type 0 where
  Byte : (byte : ℕ) → Part
  Name : (name : List ℕ) → Part
  Unclosed : Part

-- The parts of a text, from outside a name, or from within one of which this was read. `@{` begins a name and the next `}` ends it; outside names a
-- backslash belongs to the byte after it.
abbrev pub parts_behind : Option (List ℕ) → List ℕ → List Part
parts_behind None [] = []
parts_behind (Some name) [] = Unclosed ∷ []
parts_behind (Some name) (b ∷ bs) = if b == closing_brace then Name name ∷ parts_behind None bs else parts_behind (Some (name ++ b ∷ [])) bs
parts_behind None (b ∷ []) = Byte b ∷ []
parts_behind None (b ∷ c ∷ bs) =
    if b == at_sign && c == opening_brace then parts_behind (Some []) bs else
    if b == backslash then Byte b ∷ Byte c ∷ parts_behind None bs else
    Byte b ∷ parts_behind None (c ∷ bs)

abbrev pub parts : List ℕ → List Part
parts text = parts_behind None text
