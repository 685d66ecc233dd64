-- What a text begins with, as the code cuts it, by its parts.
use Rattle.std.specs.Prelude.{ℕ, ◌+◌, Bool, false, ◌==◌, ◌&&◌, if◌then◌else◌, List, [], ◌∷◌, map}
use Rattle.aa_bytes.specs.Bytes.{backslash, opening_brace, at_sign}
use Rattle.aa_text_expansion.specs.Parts.{Part, Byte, Name, Unclosed}
use Rattle.aa_text_expansion.specs.declared.parts.TextPart.{TextPart}
use Rattle.aa_text_expansion.specs.declared.parts.TextPart.TheVariants as cut

-- the parts that the code takes at once
abbrev pub parts_of : TextPart → List Part
parts_of (cut.Text bytes) = map Byte bytes.now
parts_of (cut.Name name) = Name name.now ∷ []
parts_of cut.Unclosed = Unclosed ∷ []

-- a text begins with `@{`
abbrev pub begins_name : List ℕ → Bool
begins_name (b ∷ c ∷ bs) = b == at_sign && c == opening_brace
begins_name _ = false

-- how many bytes belong together where no name begins: a backslash and the byte after it
abbrev pub taken : List ℕ → ℕ
taken (b ∷ c ∷ bs) = if b == backslash then 2 else 1
taken _ = 1

-- how many bytes stand for themselves before the first name
abbrev pub plain_size : List ℕ → ℕ
plain_size [] = 0
plain_size (b ∷ []) = 1
plain_size (b ∷ c ∷ bs) =
    if b == at_sign && c == opening_brace then 0 else
    if b == backslash then 2 + plain_size bs else
    1 + plain_size (c ∷ bs)
