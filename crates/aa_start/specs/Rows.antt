-- What the rows of a parse show of an option.
use Rattle.std.specs.Prelude.{◌≡◌, Bool, true, false, List, [], ◌∷◌, Option, Some, None, codes}
use Rattle.std.specs.List.{filter}
use Rattle.std.specs.Str.{bytes_eq}
use Rattle.clap.specs.Walk.{Row, Text}
use Rattle.clap.specs.declared.builder.value_parser.Reading.TheVariants.{AsWritten}
use Rattle.clap.specs.declared.parser.matches.ValueSource.TheVariants.{CommandLine}

-- the rows of an id, of which there is at most one
abbrev pub picked : Text → List Row → List Row
picked id rows = filter (λ r. bytes_eq r.id id) rows

-- what words gave an argument
abbrev pub row : Text → List Text → Row
row id values = record { id = id; values = values; count = None; source = Some CommandLine; reading = AsWritten }

abbrev pub value_rows : Text → Option Text → List Row
value_rows id None = []
value_rows id (Some value) = row id (value ∷ []) ∷ []

abbrev pub word_rows : Text → List Text → List Row
word_rows id [] = []
word_rows id (word ∷ words) = row id (word ∷ words) ∷ []

abbrev pub flag_rows : Text → Bool → List Row
flag_rows id true = row id (codes "true" ∷ []) ∷ []
flag_rows id false = []

-- the rows show an option's value, if one was given
abbrev pub ShowsValue : Text → Option Text → List Row → Type 0
ShowsValue id value rows = picked id rows ≡ value_rows id value

-- the rows show the words that are no options
abbrev pub ShowsWords : Text → List Text → List Row → Type 0
ShowsWords id words rows = picked id rows ≡ word_rows id words

-- the rows show whether a flag was given
abbrev pub ShowsFlag : Text → Bool → List Row → Type 0
ShowsFlag id flag rows = picked id rows ≡ flag_rows id flag
