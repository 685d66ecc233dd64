-- The report on changes that several profiles, children and hats have in common (docs/aatry.md).
use Rattle.std.specs.Prelude.{ℕ, if◌then◌else◌, List, [], ◌∷◌, ◌++◌, codes, flat_map, length, Some}
use Rattle.std.specs.Fmt.{decimal}
use Rattle.aatry_folder.specs.PolicyFiles.{PolicyFiles}
use Rattle.aatry_report.specs.Fields.{Bytes, MemberTexts, Said, Text, Words, told}
use Rattle.aatry_report.specs.Shown.{shown}
use Rattle.aatry_report.specs.declared.form.Form.{Form}
use Rattle.aatry_shared.specs.Sharing.{Change, Group, is_shared_group}
use Rattle.aatry_shared.specs.Sides.{kind, sign}
use Rattle.aatry_shared.specs.declared.side.Side.{Side}
use Rattle.aatry_shared.specs.declared.side.Side.TheVariants.{New, Old}
use Rattle.aatry_why_lines.specs.Lines.{where_said}

-- a name after other names
abbrev pub next_name : List ℕ → List ℕ
next_name name = codes ", " ++ shown name

-- names, with a comma between two
abbrev pub names_text : List (List ℕ) → List ℕ
names_text [] = []
names_text (name ∷ names) = shown name ++ flat_map next_name names

-- how many have a change, and which
abbrev pub sharers_text : List (List ℕ) → List ℕ
sharers_text names = codes "  in " ++ decimal (length names) ++ codes " profiles: " ++ names_text names

-- a change: where the rule is written, its text, and the names that have it, which are a line of their own
abbrev pub written_text : Form → Group → Said → List ℕ → List ℕ
written_text form group place sharers =
    told form (kind group.change.side)
    (Words (sign group.change.side) ∷ place ∷ Text (codes "text") group.change.text ∷ Words (codes "\n") ∷ Bytes sharers ∷ MemberTexts (codes "profiles") group.names ∷ [])

-- the same in the files of its side
abbrev pub shared_text : Form → PolicyFiles → Group → List ℕ
shared_text form below group = written_text form group (where_said below [] (Some group.change.place)) (sharers_text group.names)

-- the files of a side
abbrev pub files_of : PolicyFiles → PolicyFiles → Side → PolicyFiles
files_of old new Old = old
files_of old new New = new

-- the report on a change, if several have it
abbrev pub group_text : Form → PolicyFiles → PolicyFiles → Group → List ℕ
group_text form old new group = if is_shared_group group then shared_text form (files_of old new group.change.side) group else []

-- the report on changes, each once that several have
abbrev pub shared_lines : Form → PolicyFiles → PolicyFiles → List Group → List ℕ
shared_lines form old new groups = flat_map (group_text form old new) groups
