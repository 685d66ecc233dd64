-- The report on the features of a part that another part lacks.
use Rattle.std.specs.Prelude.{ℕ, List, [], ◌∷◌, codes, flat_map, Option, None, Some}
use Rattle.aa_explain_diff.specs.Features.{Feature, OfRule}
use Rattle.aatry_shared.specs.PartFeatures.{feature_text, place_at}
use Rattle.aatry_shared.specs.Sides.{kind, sign}
use Rattle.aatry_shared.specs.declared.side.Side.{Side}
use Rattle.aatry_policy.specs.FolderParts.{FolderParts}
use Rattle.aatry_policy.specs.Parts.{Part}
use Rattle.aatry_report.specs.Fields.{Member, Said, Text, Words, told}
use Rattle.aatry_report.specs.declared.form.Form.{Form}
use Rattle.aatry_why_lines.specs.Lines.{where_said}
use Rattle.aatry_why_lines.specs.Wheres.{seen_where}
use Rattle.aatry_why_lines.specs.declared.lines.Where.{Where}

-- where the rule of a feature is written, if it is one
abbrev pub where_of_feature : FolderParts → Part → Feature → Said
where_of_feature folder part (OfRule rule number) = where_said folder.below part.file (place_at part.places number)
where_of_feature folder part feature = Words []

-- the same, as it is found
abbrev pub seen_if : Option Where → Said
seen_if None = Words []
seen_if (Some found) = seen_where found

-- a feature of a part that only one side has: in the line indented and with a sign, in the record with the part's name
abbrev pub feature_told : Form → Part → List ℕ → Side → Said → List ℕ → List ℕ
feature_told form part blanks side place text =
    told form (kind side) (Words blanks ∷ Words (sign side) ∷ Member (codes "name") part.name ∷ place ∷ Text (codes "text") text ∷ [])

abbrev pub told_line : Form → FolderParts → Part → List ℕ → Side → Feature → List ℕ
told_line form folder part blanks side feature = feature_told form part blanks side (where_of_feature folder part feature) (feature_text feature)

-- the lines or records of such features
abbrev pub told_lines : Form → FolderParts → Part → List ℕ → Side → List Feature → List ℕ
told_lines form folder part blanks side features = flat_map (told_line form folder part blanks side) features
