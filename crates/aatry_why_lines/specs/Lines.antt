-- The lines and the records of rules with the places where they are written.
use Rattle.std.specs.Prelude.{ℕ, Bool, false, if◌then◌else◌, List, [], ◌∷◌, ◌++◌, codes, flat_map, Option, None, Some, slice_get}
use Rattle.aa_bytes.specs.Texts.{is_empty}
use Rattle.aa_profile_data.specs.Ranks.{same_rank}
use Rattle.aa_profile_data.specs.declared.profile.Rank.TheVariants.{Last}
use Rattle.aa_profile_data.specs.declared.profile.Rule.{Rule}
use Rattle.aa_profile_data.specs.declared.profile.Rule.TheVariants.{Cap, File, Net, Other}
use Rattle.aa_set_answers.specs.RuleLines.{rule_text}
use Rattle.aa_text_files.specs.Files.{bytes_at, name_at}
use Rattle.aa_text_files.specs.declared.text_error.Place.{Place}
use Rattle.aatry_folder.specs.PolicyFiles.{PolicyFiles}
use Rattle.aatry_report.specs.Columns.{column}
use Rattle.aatry_report.specs.FilePlaces.{path_below}
use Rattle.aatry_report.specs.Headings.{heading_line}
use Rattle.aatry_report.specs.Lines.{line_number}
use Rattle.aatry_report.specs.Fields as said
use Rattle.aatry_report.specs.Fields.{MemberWord, Said, Text, Words, told}
use Rattle.aatry_report.specs.Shown.{shown}
use Rattle.aatry_report.specs.declared.form.Form.{Form}
use Rattle.aatry_report.specs.declared.place.LinePlace.{LinePlace}
use Rattle.aatry_why_lines.specs.Written.{Written}

-- the line and the column of a place in a file's bytes
abbrev pub line_place : List ℕ → ℕ → LinePlace
line_place text at = record { line = line_number text at; column = column text at }

-- where a rule is written: its file, line and column, or the profile's file alone
abbrev pub where_said : PolicyFiles → List ℕ → Option Place → Said
where_said below name None = said.Place (path_below below.base name) None
where_said below name (Some place) =
    said.Place (path_below below.base (name_at below.files place.file)) (Some (line_place (bytes_at below.files place.file) place.at))

-- A rule is by `all`, and says where a program goes that no other rule leads: it has the rank that only rules of `all` have.
abbrev pub is_by_all : Rule → Bool
is_by_all (File rule) = same_rank rule.rank Last
is_by_all (Cap rule) = false
is_by_all (Net rule) = false
is_by_all (Other rule) = false

-- that a rule is by `all`, where it is: after it in the line, and by the word that makes it in the record
abbrev pub maker_words : Bool → List ℕ
maker_words by_all = if by_all then codes ", by `all`" else []

abbrev pub maker : Bool → Said
maker by_all = if by_all then MemberWord (codes "made_by") (codes "all") else Words []

-- a rule: where it is written, the rule as `show` prints it, and whether it is by `all`; only a record has the words over its group
abbrev pub rule_parts : List ℕ → Said → List ℕ → Bool → List Said
rule_parts words place text by_all =
    MemberWord (codes "group") words ∷ Words (codes "  ") ∷ place ∷ Text (codes "rule") text ∷ Words (maker_words by_all) ∷ maker by_all ∷ []

abbrev pub told_line : Form → PolicyFiles → List ℕ → List ℕ → Option Place → Rule → List ℕ
told_line form below name words place rule =
    told form (codes "rule") (rule_parts words (where_said below name place) (rule_text rule) (is_by_all rule))

-- a rule as `show` prints it, as it is shown
abbrev pub shown_rule : Rule → List ℕ
shown_rule rule = shown (rule_text rule)

-- where the rule at an index is written
abbrev pub place_at : List (Option Place) → ℕ → Option Place
place_at places index = elim (slice_get places index) [ None ↦ None | Some place ↦ place ]

-- the line of the rule at an index, if there is one
abbrev pub line_at : Form → Written → List ℕ → ℕ → List ℕ
line_at form written words index = elim (slice_get written.rules index) [
  | None ↦ []
  | Some rule ↦ told_line form written.below written.name words (place_at written.places index) rule
]

-- the lines of the rules at some indexes, below these words; none where there is no index
abbrev pub group_lines : Form → Written → List ℕ → List ℕ → List ℕ
group_lines form written words indexes = if is_empty indexes then [] else heading_line form words ++ flat_map (line_at form written words) indexes
