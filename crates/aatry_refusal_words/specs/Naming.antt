-- What is wrong with a file that is refused, in words that depend on the text at the place: a flag, a name, or an include by a whole path.
use Rattle.std.specs.Prelude.{ℕ, List, ◌++◌, codes, if◌then◌else◌, Option, None, Some}
use Rattle.std.specs.Option.{option_map}
use Rattle.std.specs.Str.Lossy.{utf8_lossy}
use Rattle.aa_bytes.specs.Bytes.{slash}
use Rattle.aa_bytes.specs.Texts.{begins_with_byte}
use Rattle.aa_profile_parsing.specs.declared.profile_error.ProfileRefusal.{ProfileRefusal}
use Rattle.aa_profile_parsing.specs.declared.profile_error.ProfileRefusal.TheVariants.{Grammar, Text}
use Rattle.aa_profile_parsing.specs.declared.fault.GrammarRefusal.TheVariants.{BadFlag, BadName}
use Rattle.aa_profile_parsing.specs.declared.language.Language.{Language}
use Rattle.aa_text_files.specs.Files.{File, bytes_at}
use Rattle.aa_text_files.specs.declared.text_error.Place.{Place}
use Rattle.aa_text_files.specs.declared.text_error.TextRefusal.TheVariants.{NoFile}
use Rattle.aatry_refusal_words.specs.FlagFaults.{unknown_flag}
use Rattle.aatry_refusal_words.specs.TokensAt.{text_at}
use Rattle.aatry_report.specs.Shown.{shown}
use Rattle.aatry_report.specs.Words.{words_of}

-- words, and a text as it is shown, in backquotes
abbrev pub named : List ℕ → List ℕ → List ℕ
named words text = words ++ codes " `" ++ shown text ++ codes "`"

-- what is wrong with the flags of a token: one is unknown, or there are two modes
abbrev pub flag_words : Language → List ℕ → List ℕ
flag_words language text = elim (unknown_flag language text) [
  | Some flag ↦ named (codes "there is no flag") flag
  | None ↦ codes "two mode flags conflict"
]

-- what is wrong with a name that can't be one
abbrev pub name_words : List ℕ → List ℕ
name_words text = named (codes "no profile, child, hat or target can be named") text

-- what is wrong with the flags, or the name, of the token at a place, if one begins there
abbrev pub flag_words_at : Language → List File → Place → Option (List ℕ)
flag_words_at language files place = option_map (flag_words language) (text_at (bytes_at files place.file) place.at)

abbrev pub name_words_at : List File → Place → Option (List ℕ)
name_words_at files place = option_map name_words (text_at (bytes_at files place.file) place.at)

-- what is wrong with an include of a name that nothing has, where that is a whole path: whatever is there on disk, nothing outside of the folder is
-- read
abbrev pub include_words : List ℕ → Option (List ℕ)
include_words name =
    if begins_with_byte slash name then Some (codes "nothing below the directory has this name, and nothing outside of it is read") else None

-- what is wrong with the include of the name at a place, if a token begins there
abbrev pub include_words_by : Option (List ℕ) → Option (List ℕ)
include_words_by None = None
include_words_by (Some name) = include_words name

abbrev pub include_words_at : List File → Place → Option (List ℕ)
include_words_at files place = include_words_by (text_at (bytes_at files place.file) place.at)

-- what is wrong by a refusal at a place, where that is for a flag, a name or an include by a whole path
abbrev pub naming_words : Language → List File → ProfileRefusal → Place → Option (List ℕ)
naming_words language files (Grammar BadFlag) place = flag_words_at language files place
naming_words language files (Grammar BadName) place = name_words_at files place
naming_words language files (Text NoFile) place = include_words_at files place
naming_words language files _ place = None

-- what is wrong by a refusal that may have a place
abbrev pub naming_words_of : Language → List File → ProfileRefusal → Option Place → Option (List ℕ)
naming_words_of language files refusal None = None
naming_words_of language files refusal (Some place) = naming_words language files refusal place

-- words that name what is at the place, if there are any, and else those of the refusal
abbrev pub words_or : ProfileRefusal → Option (List ℕ) → List ℕ
words_or refusal None = words_of refusal
words_or refusal (Some named) = utf8_lossy named

-- what is wrong with a file by a refusal that may have a place
abbrev pub words_at : Language → List File → ProfileRefusal → Option Place → List ℕ
words_at language files refusal place = words_or refusal (naming_words_of language files refusal place)
