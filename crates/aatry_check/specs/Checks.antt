-- The report on files of policy that are checked.
use Rattle.std.specs.Prelude.{◌≡◌, ◌+◌, ℕ, List, [], ◌∷◌, ◌++◌, codes, if◌then◌else◌, Option, None, Some, Result, Ok, Err}
use Rattle.std.specs.Str.{bytes_eq}
use Rattle.serde_json.specs.Data.{Members}
use Rattle.aa_bytes.specs.Bytes.{line_feed}
use Rattle.aa_explain_written.specs.EarlierRules.{earlier_rule}
use Rattle.aa_text_files.specs.Files.{File, bytes_at, name_at}
use Rattle.aa_text_files.specs.declared.text_error.Place.{Place}
use Rattle.aa_profile.specs.FileReading.{file_profiles_in}
use Rattle.aa_profile_data.specs.declared.profile.Profile.{Profile}
use Rattle.aa_profile_parsing.specs.ProfileError.{number_of}
use Rattle.aa_profile_parsing.specs.declared.profile_error.ProfileError.{ProfileError}
use Rattle.aa_profile_parsing.specs.declared.language.Language.{Language}
use Rattle.aa_start.specs.Readable.{unread_in, words_of}
use Rattle.aa_start.specs.declared.readable.UnreadFault.{UnreadFault}
use Rattle.aatry_check.specs.Loading.{loading_in, told_loading}
use Rattle.aatry_check.specs.Others.{other_lines, with_other}
use Rattle.aatry_folder.specs.Loadings.{TopFile}
use Rattle.aatry_refusal_words.specs.Naming.{words_at}
use Rattle.aatry_report.specs.Faults.{fault_lines, with_fault}
use Rattle.aatry_report.specs.FilePlaces.{path_below}
use Rattle.aatry_report.specs.Records.{record_line, record_of, with_text}
use Rattle.aatry_report.specs.Refusals.{placed_refusal}
use Rattle.aatry_report.specs.Shown.{shown}
use Rattle.aatry_report.specs.Taken.{taken_line}
use Rattle.aatry_report.specs.declared.form.Form.{Form}
use Rattle.aatry_report.specs.declared.form.Form.TheVariants.{Lines, Records}

-- which file includes the file of a fault, where it isn't that file itself
abbrev pub included_line : List ℕ → List ℕ → List ℕ → List ℕ
included_line base name faulty = if bytes_eq name faulty then [] else codes "  included from " ++ shown (path_below base name) ++ line_feed ∷ []

-- which file includes the file of a place, if there is one and it isn't that file itself
abbrev pub included_lines : List File → List ℕ → List ℕ → Option Place → List ℕ
included_lines files base name None = []
included_lines files base name (Some place) = included_line base name (name_at files place.file)

-- a record with which file includes the file of a fault
abbrev pub with_included : List ℕ → List ℕ → List ℕ → Members → Members
with_included base name faulty members = if bytes_eq name faulty then members else with_text (codes "included_from") (path_below base name) members

-- the report below a refusal on the earlier rule, with which the refused one conflicts, if there is one
abbrev pub earlier_lines : List File → List ℕ → Option Place → List ℕ
earlier_lines files base None = []
earlier_lines files base (Some place) = other_lines files base place

-- a record with the earlier rule
abbrev pub with_earlier : List File → List ℕ → Option Place → Members → Members
with_earlier files base None members = members
with_earlier files base (Some place) members = with_other files base place members

-- a record with what is wrong with a file that is refused, in these words
abbrev pub with_refusal : List ℕ → List File → List ℕ → List ℕ → ℕ → Option Place → Members → Members
with_refusal words files base name number None members = with_fault words (path_below base name) number None [] members
with_refusal words files base name number (Some place) members =
    with_included base name (name_at files place.file)
    (with_fault words (path_below base (name_at files place.file)) number (Some place.at) (bytes_at files place.file) members)

-- a record of a file that is refused, in these words, and of the earlier rule, if there is one
abbrev pub refusal_record : List ℕ → List File → List ℕ → List ℕ → ℕ → Option Place → Option Place → Members
refusal_record words files base name number place earlier =
    with_earlier files base earlier (with_refusal words files base name number place (record_of (codes "refused")))

-- the report on a file that is refused, in these words, and on the earlier rule, if there is one: lines, or its record
abbrev pub refusal_lines : Form → List ℕ → List File → List ℕ → List ℕ → ℕ → Option Place → Option Place → List ℕ
refusal_lines Lines words files base name number place earlier =
    placed_refusal words files base (path_below base name) number place ++ included_lines files base name place ++ earlier_lines files base earlier
refusal_lines Records words files base name number place earlier = record_line (refusal_record words files base name number place earlier)

-- lines of a file that is refused since another one of these names, or itself, wasn't read, for which these are the words
abbrev pub unread_text : List ℕ → List ℕ → List ℕ → ℕ → List ℕ → List ℕ
unread_text base name unread number words = fault_lines words (path_below base unread) number None [] ++ included_line base name unread

-- a record of a file that is refused since another one, or itself, wasn't read
abbrev pub unread_record : List ℕ → List ℕ → List ℕ → ℕ → List ℕ → Members
unread_record base name unread number words =
    with_included base name unread (with_fault words (path_below base unread) number None [] (record_of (codes "refused")))

-- the lines or the record of a file that is refused since another one, or itself, wasn't read
abbrev pub unread_lines : Form → List ℕ → List ℕ → List ℕ → ℕ → List ℕ → List ℕ
unread_lines Lines base name unread number words = unread_text base name unread number words
unread_lines Records base name unread number words = record_line (unread_record base name unread number words)

-- the report on a file that is refused, in these words, and on the earlier rule, if there is one; but where the fault is in a file that wasn't read,
-- in the words for that
abbrev pub told_refusal : Form → List ℕ → List File → List ℕ → List ℕ → ℕ → Option Place → Option Place → Option (ℕ × UnreadFault) → List ℕ
told_refusal form words files base name number place earlier None = refusal_lines form words files base name number place earlier
told_refusal form words files base name number place earlier (Some unread) =
    unread_lines form base name (name_at files unread.0) number (words_of unread.1)

-- lines report the outcome of the reading of a file by a language, and the earlier rule, if there is one
abbrev pub TellsReading : Form → Language → List File → List (Option UnreadFault) → List ℕ → List ℕ → Option Place → Result (List Profile) ProfileError → List ℕ → Type 0
TellsReading form language files unread base name earlier (Ok profiles) lines = lines ≡ taken_line form (path_below base name) profiles
TellsReading form language files unread base name earlier (Err error) lines =
    lines ≡ told_refusal form (words_at language files error.refusal error.place) files base name (number_of error.refusal) error.place earlier
    (unread_in unread error.place)

-- lines report a file: that it was taken, or why it is refused, exactly as its reading by a language says, with the earlier rule, where two
-- conflict; and how it is loaded, by the files at the top
abbrev pub Tells : Form → Language → List File → List (Option UnreadFault) → List ℕ → List TopFile → List ℕ → List ℕ → Type 0
Tells form language files unread base top name lines =
    (first : List ℕ) × (lines ≡ first ++ told_loading form base name (loading_in top name))
    × TellsReading form language files unread base name (earlier_rule language files name) (file_profiles_in language files name) first

-- one file is refused, or none: its reading gives no profiles
abbrev pub refused_in : Language → List File → List ℕ → ℕ
refused_in language files name = elim (file_profiles_in language files name) [ Ok _ ↦ 0 | Err _ ↦ 1 ]

-- how many of these files are refused
abbrev pub refused_count : Language → List File → List (List ℕ) → ℕ
refused_count language files [] = 0
refused_count language files (name ∷ names) = refused_in language files name + refused_count language files names

-- lines report each of these files in turn
abbrev pub TellsEach : Form → Language → List File → List (Option UnreadFault) → List ℕ → List TopFile → List (List ℕ) → List ℕ → Type 0
TellsEach form language files unread base top [] lines = lines ≡ []
TellsEach form language files unread base top (name ∷ names) lines =
    (first rest : List ℕ) × (lines ≡ first ++ rest) × Tells form language files unread base top name first
    × TellsEach form language files unread base top names rest
