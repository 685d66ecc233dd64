-- The report on written rules that decide nothing (docs/aatry.md, "`aatry check --rules`").
use Rattle.std.specs.Prelude.{ℕ, Bool, false, ◌==◌, if◌then◌else◌, List, [], ◌∷◌, ◌++◌, codes, filter, flat_map, length, slice_get, Option, None, Some}
use Rattle.std.specs.Fmt.{decimal}
use Rattle.aa_bytes.specs.Bytes.{line_feed}
use Rattle.aa_explain_redundant.specs.Examples.{Overlap, seen_overlap}
use Rattle.aa_explain_redundant.specs.declared.example.Example.{Example}
use Rattle.aa_explain_redundant.specs.declared.example.Example.TheVariants.{MatchesNothing, Overlaps}
use Rattle.aa_profile_data.specs.SameRules.{same_rule}
use Rattle.aa_profile_data.specs.declared.profile.Rule.{Rule}
use Rattle.aa_set_answers.specs.RuleLines.{rule_text}
use Rattle.aatry_folder.specs.PolicyFiles.{PolicyFiles}
use Rattle.aatry_policy.specs.Parts.{Part}
use Rattle.aatry_report.specs.Fields.{Bytes, Member, MemberWord, Said, Text, Words, told}
use Rattle.aatry_report.specs.Shown.{shown}
use Rattle.aatry_report.specs.declared.form.Form.{Form}
use Rattle.aatry_report.specs.declared.form.Form.TheVariants.{Lines, Records}
use Rattle.aatry_shared.specs.PartFeatures.{place_at}
use Rattle.aatry_why_lines.specs.Lines.{where_said}
use Rattle.aatry_check_rules.specs.Finding.{Found, is_absent}
use Rattle.aatry_check_rules.specs.declared.finding.RedundantRule.{RedundantRule}

-- the number of the rule by which a written rule is reported: the first of its rules on files, or the first that matches the reported path
abbrev pub number_by : ℕ → Option Example → ℕ
number_by number None = number
number_by number (Some MatchesNothing) = number
number_by number (Some (Overlaps overlap)) = overlap.rule

abbrev pub shown_number : RedundantRule → ℕ
shown_number one = number_by one.number one.example

-- why a written rule decides nothing, in the record: by a path, by that it matches none, or that it has too many paths of its own
abbrev pub why_word : Option Example → List ℕ
why_word None = codes "too_many"
why_word (Some MatchesNothing) = codes "no_path"
why_word (Some (Overlaps overlap)) = codes "path"

abbrev pub example_field : Option Example → Said
example_field None = Words []
example_field (Some MatchesNothing) = Words []
example_field (Some (Overlaps overlap)) = Member (codes "path") overlap.path.items

-- a written rule that decides nothing, by where one of its rules is written, that as `show` prints it, and why
unfoldable pub redundant_by : Form → List ℕ → Said → (text why : List ℕ) → Said → List ℕ
redundant_by form name place text why example =
    told form (codes "redundant")
    (Member (codes "name") name ∷ Words (codes "  ") ∷ place ∷ Text (codes "text") text ∷ MemberWord (codes "why") why ∷ example ∷ [])

abbrev pub redundant_at : Form → PolicyFiles → Part → Option Example → ℕ → Option Rule → List ℕ
redundant_at form below part example number None = []
redundant_at form below part example number (Some rule) =
    redundant_by form part.name (where_said below part.file (place_at part.places number)) (rule_text rule) (why_word example) (example_field example)

-- a rule that stays is the same as one of a number
abbrev pub is_same_as : Rule → Option Rule → Bool
is_same_as other None = false
is_same_as other (Some rule) = same_rule rule other

-- a rule that stays, by where it is written, and as `show` prints it: that it is the same, or on which path it covers something, which is shown already
unfoldable pub beside_by : Form → List ℕ → Bool → (path : List ℕ) → Said → List ℕ → List ℕ
beside_by form name same path place text =
    if same
    then told form (codes "same") (Member (codes "name") name ∷ Words (codes "      the same as ") ∷ place ∷ Text (codes "text") text ∷ [])
    else told form (codes "beside")
    (Member (codes "name") name ∷ Words (codes "      on ") ∷ Bytes path ∷ Words (codes ": ") ∷ place ∷ Text (codes "text") text ∷ [])

-- the rule of a number that stays, where the path and a rule of the written one are given, if there is one
abbrev pub beside_at : Form → PolicyFiles → Part → List ℕ → Option Rule → ℕ → Option Rule → List ℕ
beside_at form below part path own number None = []
beside_at form below part path own number (Some rule) =
    beside_by form part.name (is_same_as rule own) (shown path) (where_said below part.file (place_at part.places number)) (rule_text rule)

abbrev pub beside_text : Form → PolicyFiles → Part → Overlap → ℕ → List ℕ
beside_text form below part overlap number =
    beside_at form below part overlap.path (slice_get part.section.rules overlap.rule) number (slice_get part.section.rules number)

-- all rules that stay
abbrev pub overlap_text : Form → PolicyFiles → Part → Overlap → List ℕ
overlap_text form below part overlap = flat_map (beside_text form below part overlap) overlap.beside

-- a line that isn't of a rule; in records it is part of that of the written rule
abbrev pub plain_line : Form → List ℕ → List ℕ
plain_line Lines words = words
plain_line Records words = []

-- why a written rule decides nothing
abbrev pub example_text : Form → PolicyFiles → Part → Option Example → List ℕ
example_text form below part None = plain_line form (codes "      its own paths are too many\n")
example_text form below part (Some MatchesNothing) = plain_line form (codes "      matches no path\n")
example_text form below part (Some (Overlaps overlap)) = overlap_text form below part (seen_overlap overlap)

-- a written rule that decides nothing, and why
abbrev pub rule_told : Form → PolicyFiles → Part → RedundantRule → List ℕ
rule_told form below part one =
    redundant_at form below part one.example (shown_number one) (slice_get part.section.rules (shown_number one)) ++ example_text form below part one.example

abbrev pub rules_told : Form → PolicyFiles → Part → List RedundantRule → List ℕ
rules_told form below part told = flat_map (rule_told form below part) told

-- so many rules, and what they do
abbrev pub rules_word : ℕ → List ℕ
rules_word count = if count == 1 then codes " rule" else codes " rules"

abbrev pub decide_word : ℕ → List ℕ
decide_word count = if count == 1 then codes " decides nothing" else codes " decide nothing"

-- the line over the rules of a part; in records each has the part's name
unfoldable pub heading_line : List ℕ → ℕ → List ℕ
heading_line name count = shown name ++ codes ": " ++ decimal count ++ rules_word count ++ decide_word count ++ line_feed ∷ []

abbrev pub heading_text : Form → List ℕ → ℕ → List ℕ
heading_text Lines name count = heading_line name count
heading_text Records name count = []

-- the report on a part: nothing, where each of its rules decides something
abbrev pub part_told : Form → PolicyFiles → Part → List RedundantRule → List ℕ
part_told form below part told =
    if length told == 0 then [] else heading_text form part.name (length told) ++ rules_told form below part told

-- the same, or that it has too many paths
abbrev pub told_by : Form → PolicyFiles → Part → Option (List RedundantRule) → List ℕ
told_by form below part None = told form (codes "too_many") (Words (codes "too many: ") ∷ Text (codes "name") part.name ∷ [])
told_by form below part (Some told) = part_told form below part told

abbrev pub found_text : Form → PolicyFiles → Found → List ℕ
found_text form below found = told_by form below found.part found.told

-- the report on all findings
abbrev pub all_text : Form → PolicyFiles → List Found → List ℕ
all_text form below found = flat_map (found_text form below) found

-- no profile of a named file is loaded
abbrev pub absent_text : Form → List ℕ → List ℕ
absent_text form name =
    told form (codes "absent") (Words (codes "absent: no profile is loaded of the file ") ∷ Text (codes "name") name ∷ [])

abbrev pub absents_text : Form → List Part → List (List ℕ) → List ℕ
absents_text form parts names = flat_map (absent_text form) (filter (is_absent parts) names)
