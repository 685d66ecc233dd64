-- Which written rules a profile, a child or a hat has, and which of them are tried (docs/aatry.md, "`aatry check
-- --rules`").
use Rattle.std.specs.Prelude.{ℕ, ◌+◌, Bool, false, ◌&&◌, ◌||◌, ◌==◌, if◌then◌else◌, List, [], ◌∷◌, ◌++◌, reverse, Option, None, Some}
use Rattle.std.specs.Str.{bytes_eq}
use Rattle.aa_explain_redundant.specs.Left.{WrittenRules, is_file}
use Rattle.aa_profile_data.specs.declared.profile.Rule.{Rule}
use Rattle.aa_text_files.specs.Files.{File, name_at}
use Rattle.aa_text_files.specs.declared.text_error.Place.{Place}
use Rattle.aatry_claims.specs.Found.{asks_rules}
use Rattle.aatry_policy.specs.Parts.{Part}
use Rattle.aatry_shared.specs.PartFeatures.{place_at}

-- where the rule of a number is written, if it is on files, and that is known
abbrev pub file_place : List (Option Place) → ℕ → Rule → Option Place
file_place places number rule = if is_file rule then place_at places number else None

-- where each of some rules on files is written, the first of which has this number
abbrev pub file_places_from : List (Option Place) → ℕ → List Rule → List (Option Place)
file_places_from places number [] = []
file_places_from places number (rule ∷ rules) = file_place places number rule ∷ file_places_from places (number + 1) rules

abbrev pub file_places : Part → List (Option Place)
file_places part = file_places_from part.places 0 part.section.rules

-- a rule is written at a place
abbrev pub stands_at : Place → Option Place → Bool
stands_at place None = false
stands_at place (Some own) = (own.file == place.file) && (own.at == place.at)

-- the number of the first rule that is written at a place, of some of which the first has this number; where none is, another number
abbrev pub first_at : Place → ℕ → ℕ → List (Option Place) → ℕ
first_at place other number [] = other
first_at place other number (own ∷ places) = if stands_at place own then number else first_at place other (number + 1) places

-- The number of the written rule that a rule was made of: rules that are written at one place were made of one, and it has the number of the first
-- of them. A rule whose place isn't known is by itself.
abbrev pub number_of : List (Option Place) → ℕ → Option Place → ℕ
number_of places number None = number
number_of places number (Some place) = first_at place number 0 places

-- the numbers of the written rules of some rules, the first of which has this number
abbrev pub numbers_from : List (Option Place) → ℕ → List (Option Place) → List ℕ
numbers_from places number [] = []
numbers_from places number (own ∷ more) = number_of places number own ∷ numbers_from places (number + 1) more

abbrev pub numbers_of : List (Option Place) → List ℕ
numbers_of places = numbers_from places 0 places

-- a part as it decides on files, with the numbers of its written rules
abbrev pub written_of : Part → WrittenRules
written_of part = record { audit = part.section.audit; rules = part.section.rules; written = numbers_of (file_places part) }

-- which written rules are tried: those of included files too, or not; and the files
pub record Which : Type 0 where
  pub included : Bool
  pub files : List File

-- a rule is written in the file of a name
abbrev pub is_in_file : List File → List ℕ → Option Place → Bool
is_in_file files name None = false
is_in_file files name (Some place) = bytes_eq (name_at files place.file) name

-- the rules that are written at a place of a file are tried: all are, or those in the part's own file, which has this name
abbrev pub is_meant : Which → List ℕ → Option Place → Bool
is_meant which name place = which.included || is_in_file which.files name place

-- a rule is the first on files of a written rule that is tried
abbrev pub is_tried : Which → List ℕ → List (Option Place) → ℕ → Rule → Bool
is_tried which name places number rule =
    is_file rule && (number_of places number (place_at places number) == number) && is_meant which name (place_at places number)

-- the numbers of the written rules that are tried of some rules, of which the first has this number, in the order in which they are written
abbrev pub tried_at : Which → List ℕ → List (Option Place) → ℕ → Rule → List ℕ
tried_at which name places number rule = if is_tried which name places number rule then number ∷ [] else []

abbrev pub tried_from : Which → List ℕ → List (Option Place) → ℕ → List Rule → List ℕ
tried_from which name places number [] = []
tried_from which name places number (rule ∷ rules) = tried_at which name places number rule ++ tried_from which name places (number + 1) rules

-- The written rules of a part that are tried, the later first: so of two equal ones the later is reported. Where its rules don't decide, since it is
-- in mode unconfined or disabled, none is.
abbrev pub tried_of : Which → Part → List ℕ
tried_of which part = if asks_rules part.section.mode then reverse (tried_from which part.file (file_places part) 0 part.section.rules) else []
