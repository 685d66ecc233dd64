-- What holds of the words as the kernel and its tools write them.
use Rattle.std.specs.Prelude.{◌≡◌, ◌⊎◌, ℕ, true, List, ◌++◌, codes, drop}
use Rattle.std.specs.List.{list_any}
use Rattle.std.specs.Str.{bytes_eq, str_eq_ignore_ascii_case, str_to_ascii_uppercase}
use Rattle.aa_profile_data.specs.Capabilities.{names}
use Rattle.aatry_words.specs.Capabilities.{capability_meant, is_prefixed}

-- a capability's name is meant by itself, by `cap_` before it, and by `CAP_` before it in upper case
pub record IsMeant (name : List ℕ) : Type 0 where
  pub plain : capability_meant name ≡ name
  pub lower : capability_meant (codes "cap_" ++ name) ≡ name
  pub upper : capability_meant (codes "CAP_" ++ str_to_ascii_uppercase name) ≡ name

-- a word is that name of the table, apart from the case of its letters, after the prefix of such names
pub record IsWrittenFor (word name : List ℕ) : Type 0 where
  pub prefixed : is_prefixed word ≡ true
  pub known : list_any (bytes_eq name) names ≡ true
  pub same : str_eq_ignore_ascii_case (drop 4 word) name ≡ true

-- a word means itself, or what is so written
abbrev pub MeansNoOther : List ℕ → Type 0
MeansNoOther word = (capability_meant word ≡ word) ⊎ IsWrittenFor word (capability_meant word)
