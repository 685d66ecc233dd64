-- Texts, which are lists of bytes: what they begin with, and which bytes they hold.
use Rattle.std.specs.Prelude.{ℕ, Bool, true, false, ◌==◌, List, [], ◌∷◌, length, take}
use Rattle.std.specs.List.{list_any}
use Rattle.std.specs.Str.{bytes_eq}

-- a text begins with another
abbrev pub begins_with : List ℕ → List ℕ → Bool
begins_with front text = bytes_eq (take (length front) text) front

-- a text begins with a byte of a kind
abbrev pub begins : (ℕ → Bool) → List ℕ → Bool
begins kind [] = false
begins kind (b ∷ bs) = kind b

-- a text begins with this byte
abbrev pub begins_with_byte : ℕ → List ℕ → Bool
begins_with_byte byte text = begins (λ b. b == byte) text

-- a text holds this byte
abbrev pub has_byte : ℕ → List ℕ → Bool
has_byte byte text = list_any (λ b. b == byte) text

-- a text, or any list, is empty
abbrev pub is_empty : {X : Type 0} → List X → Bool
is_empty [] = true
is_empty (x ∷ xs) = false
