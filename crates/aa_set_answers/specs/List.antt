-- The lines that list loaded profiles (docs/commands.md, "What is loaded").
use Rattle.std.specs.Prelude.{ℕ, ◌+◌, List, [], ◌∷◌, ◌++◌, flat_map, length, None, Some, codes}
use Rattle.std.specs.List.{sum_by}
use Rattle.std.specs.Fmt.{decimal}
use Rattle.aa_bytes.specs.Bytes.{line_feed}
use Rattle.aa_profile_data.specs.declared.profile.Child.{Child}
use Rattle.aa_decide_ready.specs.Entries.{Loaded}
use Rattle.aa_set_answers.specs.Children.{lines_of_children}
use Rattle.aa_set_answers.specs.States.{written_state}

-- how many profiles, children and hats an entry has
abbrev pub entry_count : Loaded → ℕ
entry_count loaded = length loaded.profile.children + 1

-- how many profiles, children and hats all entries have
abbrev pub count : List Loaded → ℕ
count entries = sum_by entry_count entries

-- the line of a child or a hat by its index
abbrev pub listed_child : Loaded → ℕ → Child → List ℕ
listed_child loaded place child = written_state loaded (Some place) ++ line_feed ∷ []

-- the line of a profile, and those of its children and hats in the order of the file
abbrev pub entry_lines : Loaded → List ℕ
entry_lines loaded = written_state loaded None ++ line_feed ∷ [] ++ lines_of_children (listed_child loaded) loaded.profile.children

-- how many profiles, children and hats there are, and their lines
abbrev pub list_lines : List Loaded → List ℕ
list_lines entries = codes "profiles " ++ decimal (count entries) ++ line_feed ∷ [] ++ flat_map entry_lines entries
