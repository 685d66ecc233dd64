-- How the kernel and its tools write the name of a capability: after `CAP_`, as linux/capability.h and capabilities(7) do, or after `cap_`, as
-- capsh(1) and getcap(8) do. The case of the letters after that doesn't matter.
use Rattle.std.specs.Prelude.{ℕ, ◌||◌, Bool, if◌then◌else◌, List, [], ◌∷◌, Option, None, Some, codes, drop}
use Rattle.std.specs.Str.{str_eq_ignore_ascii_case, str_to_ascii_lowercase}
use Rattle.aa_bytes.specs.Texts.{begins_with}
use Rattle.aa_profile_data.specs.Capabilities.{names}

-- a word begins like such a name
abbrev pub is_prefixed : List ℕ → Bool
is_prefixed word = begins_with (codes "CAP_") word || begins_with (codes "cap_") word

-- what follows the prefix of a word, or else the whole word
abbrev pub bare_name : List ℕ → List ℕ
bare_name word = if is_prefixed word then drop 4 word else word

-- the name of a table that a word is, but for the case of its letters
abbrev pub named : List (List ℕ) → List ℕ → Option (List ℕ)
named [] word = None
named (name ∷ more) word = if str_eq_ignore_ascii_case word name then Some name else named more word

-- the name of a capability that a word is, but for the case of its letters
unfoldable pub known_name : List ℕ → Option (List ℕ)
known_name word = named names word

-- a name, if there is one, or else the word
abbrev pub name_or : List ℕ → Option (List ℕ) → List ℕ
name_or word None = word
name_or word (Some name) = name

-- The name that a word means: that of the capability which is so written, or else the word itself.
unfoldable pub capability_meant : List ℕ → List ℕ
capability_meant word = if is_prefixed word then name_or word (known_name (drop 4 word)) else word

-- the name that is compared with those of capabilities, where a word may be a misspelling of one
abbrev pub likely_name : List ℕ → List ℕ
likely_name word = str_to_ascii_lowercase (bare_name word)
