-- The report on refusals, and on the files that are left out of a policy set.
use Rattle.std.specs.Prelude.{ℕ, Bool, true, if◌then◌else◌, List, [], ◌∷◌, ◌++◌, codes, flat_map, Option, None, Some}
use Rattle.std.specs.Fmt.{decimal}
use Rattle.serde_json.specs.Data.{Members}
use Rattle.aa_bytes.specs.Bytes.{line_feed}
use Rattle.aa_profile_parsing.specs.declared.language.Language.{Language}
use Rattle.aa_set_commands.specs.Refusal.{name_of, number_of}
use Rattle.aa_set_commands.specs.declared.refusal.Refusal.{Refusal}
use Rattle.aa_text_files.specs.Files.{File, bytes_at, name_at}
use Rattle.aa_text_files.specs.declared.text_error.Place.{Place}
use Rattle.aa_start.specs.Readable.{unread_in, words_of}
use Rattle.aa_start.specs.declared.readable.UnreadFault.{UnreadFault}
use Rattle.aatry_refusal_words.specs.Refusals.{refusal_words}
use Rattle.aatry_report.specs.Columns.{column}
use Rattle.aatry_report.specs.FilePlaces.{path_below}
use Rattle.aatry_report.specs.Lines.{line_number}
use Rattle.aatry_report.specs.Records.{record_line, record_of, with_text}
use Rattle.aatry_report.specs.Refusals.{named_refusal, with_named_refusal}
use Rattle.aatry_report.specs.Shown.{shown}
use Rattle.aatry_report.specs.declared.form.Form.{Form}
use Rattle.aatry_report.specs.declared.form.Form.TheVariants.{Lines, Records}

-- the number and the name of a refusal
abbrev pub refusal_text : Refusal → List ℕ
refusal_text refusal = named_refusal (number_of refusal.refusal) (name_of refusal.refusal)

-- the place of a refusal in a file of a folder, by the file's path and its bytes
abbrev pub place_in : List ℕ → List ℕ → ℕ → List ℕ
place_in path text at = codes " at " ++ shown path ++ codes ":" ++ decimal (line_number text at) ++ codes ":" ++ decimal (column text at)

-- the place of a refusal among some files, if there is one
abbrev pub place_behind : List ℕ → List File → Option Place → List ℕ
place_behind base files None = []
place_behind base files (Some place) = place_in (path_below base (name_at files place.file)) (bytes_at files place.file) place.at

-- a refusal with what is wrong, in words, and where that is, if it has a place
abbrev pub worded_refusal : Language → List ℕ → List File → Refusal → List ℕ
worded_refusal language base files refusal =
    refusal_text refusal ++ codes ": " ++ refusal_words language files refusal ++ place_behind base files refusal.place

-- a record with its number and its name, and what is wrong, in words
abbrev pub with_worded_refusal : Language → List File → Refusal → Members → Members
with_worded_refusal language files refusal members =
    with_text (codes "words") (refusal_words language files refusal)
    (with_named_refusal (number_of refusal.refusal) (name_of refusal.refusal) members)

-- why a file is left out: by its refusal; or, where that is in a file that wasn't read, by the path of this and why it wasn't, in words
abbrev pub reason_by : Language → List ℕ → List File → Refusal → Option (ℕ × UnreadFault) → List ℕ
reason_by language base files refusal None = worded_refusal language base files refusal
reason_by language base files refusal (Some unread) = shown (path_below base (name_at files unread.0)) ++ codes ": " ++ words_of unread.1

abbrev pub reason_text : Language → List ℕ → List File → List (Option UnreadFault) → Refusal → List ℕ
reason_text language base files unread refusal = reason_by language base files refusal (unread_in unread refusal.place)

-- a record with why a file is left out
abbrev pub with_reason_by : Language → List ℕ → List File → Refusal → Option (ℕ × UnreadFault) → Members → Members
with_reason_by language base files refusal None members = with_worded_refusal language files refusal members
with_reason_by language base files refusal (Some unread) members =
    with_text (codes "words") (words_of unread.1) (with_text (codes "unread") (path_below base (name_at files unread.0)) members)

abbrev pub with_reason : Language → List ℕ → List File → List (Option UnreadFault) → Refusal → Members → Members
with_reason language base files unread refusal members = with_reason_by language base files refusal (unread_in unread refusal.place) members

-- a file that is left out: its name, and why it is refused
pub record LeftOut : Type 0 where
  pub name : List ℕ
  pub refusal : Refusal

-- a file that is left out, by whether it was refused
abbrev pub left_out_if : List ℕ → Option Refusal → List LeftOut
left_out_if name None = []
left_out_if name (Some refusal) = record { name = name; refusal = refusal } ∷ []

-- those of some files that are left out, by whether each was refused
abbrev pub left_out_of : List (List ℕ) → List (Option Refusal) → List LeftOut
left_out_of (name ∷ names) (outcome ∷ outcomes) = left_out_if name outcome ++ left_out_of names outcomes
left_out_of _ _ = []

-- the words for a file that is left out: the kind of its record, and the words before and after its path on its line
pub record LeftOutWords : Type 0 where
  pub kind : List ℕ
  pub before : List ℕ
  pub behind : List ℕ

-- the line of such a file, by its path
abbrev pub file_line : LeftOutWords → Language → List ℕ → List File → List (Option UnreadFault) → List ℕ → Refusal → List ℕ
file_line words language base files unread path refusal =
    words.before ++ shown path ++ words.behind ++ reason_text language base files unread refusal ++ line_feed ∷ []

-- the record of such a file
abbrev pub file_record : LeftOutWords → Language → List ℕ → List File → List (Option UnreadFault) → List ℕ → Refusal → Members
file_record words language base files unread path refusal =
    with_reason language base files unread refusal (with_text (codes "file") path (record_of words.kind))

-- the line or record of such a file
abbrev pub file_text : Form → LeftOutWords → Language → List ℕ → List File → List (Option UnreadFault) → List ℕ → Refusal → List ℕ
file_text Lines words language base files unread path refusal = file_line words language base files unread path refusal
file_text Records words language base files unread path refusal = record_line (file_record words language base files unread path refusal)

-- the line or record of such a file of a folder
abbrev pub told_file : Form → LeftOutWords → Language → List ℕ → List File → List (Option UnreadFault) → LeftOut → List ℕ
told_file form words language base files unread file =
    file_text form words language base files unread (path_below base file.name) file.refusal

-- the lines or records of such files
abbrev pub told_files : Form → LeftOutWords → Language → List ℕ → List File → List (Option UnreadFault) → List LeftOut → List ℕ
told_files form words language base files unread left_out = flat_map (told_file form words language base files unread) left_out

-- the words for each file that is left out
abbrev pub left_out_words : LeftOutWords
left_out_words = record { kind = codes "left_out"; before = []; behind = codes ": left out: " }

-- each file that is left out is reported: always in records, and in verbose lines
abbrev pub is_listed : Form → Bool → Bool
is_listed Lines verbose = verbose
is_listed Records verbose = true

-- the report on files, verbose or not
abbrev pub listed_lines : Form → Bool → Language → List ℕ → List File → List (Option UnreadFault) → List (List ℕ) → List (Option Refusal) → List ℕ
listed_lines form verbose language base files unread names outcomes =
    if is_listed form verbose then told_files form left_out_words language base files unread (left_out_of names outcomes) else []
