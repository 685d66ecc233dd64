-- How long a class is.
use Rattle.std.specs.Prelude.{ℕ, suc, ◌==◌, if◌then◌else◌, List, [], ◌∷◌}
use Rattle.aa_bytes.specs.Bytes.{backslash, closing_bracket}

-- how many bytes a text has up to its first `]` without a backslash, that byte included; all of them where there is none
abbrev pub class_length : List ℕ → ℕ
class_length [] = 0
class_length (b ∷ []) = 1
class_length (b ∷ c ∷ bs) =
    if b == backslash then suc (suc (class_length bs)) else
    if b == closing_bracket then 1 else
    suc (class_length (c ∷ bs))
