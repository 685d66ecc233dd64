-- The index of each name, as it is stored.
use Rattle.std.specs.Prelude.{◌≡◌, ℕ, List}
use Rattle.aa_bytes.specs.NameMaps.{number_of}
use Rattle.aa_bytes.specs.declared.name_map.NameMap.{NameMap}
use Rattle.aa_text_files.specs.Files.{File, index_from}

-- each name has the index of its file
abbrev pub ArePlaces : NameMap → List File → Type 0
ArePlaces places files = (name : List ℕ) → number_of places name ≡ index_from 0 name files
