-- Names that are missing, by a test of names, and texts that have one.
use Rattle.std.specs.Prelude.{ℕ, Bool, true, false, List}
use Rattle.std.specs.List.{list_any}
use Rattle.aa_text_expansion.specs.Parts.{Part, Byte, Name, Unclosed, parts}

-- a part is a missing name, or one that isn't closed
abbrev pub is_missing : (List ℕ → Bool) → Part → Bool
is_missing test (Byte b) = false
is_missing test (Name name) = test name
is_missing test Unclosed = true

-- a text has a missing name, or one that isn't closed
abbrev pub has_missing : (List ℕ → Bool) → List ℕ → Bool
has_missing test text = list_any (is_missing test) (parts text)

-- one of some words has a missing name, or one that isn't closed
abbrev pub have_missing : (List ℕ → Bool) → List (List ℕ) → Bool
have_missing test words = list_any (has_missing test) words
