-- Runs of slashes, which are collapsed before a text is read as a pattern (docs/policy.md, "Patterns").
use Rattle.std.specs.Prelude.{ℕ, ◌==◌, ◌&&◌, if◌then◌else◌, List, [], ◌∷◌}
use Rattle.aa_bytes.specs.Bytes.{slash}
use Rattle.aa_bytes.specs.Texts.{begins_with_byte}

-- a text in which each run of slashes is one slash
abbrev pub collapsed : List ℕ → List ℕ
collapsed [] = []
collapsed (b ∷ bs) = if b == slash && begins_with_byte slash bs then collapsed bs else b ∷ collapsed bs
