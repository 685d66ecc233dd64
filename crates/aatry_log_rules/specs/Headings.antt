-- The headings of askers' rules.
use Rattle.std.specs.Prelude.{ℕ, Bool, false, List, [], ◌∷◌, ◌++◌, Option, None, Some, codes}
use Rattle.std.specs.Str.{bytes_eq}
use Rattle.aa_bytes.specs.Bytes.{line_feed}
use Rattle.aa_bytes.specs.Quoting.{written_text}
use Rattle.aa_profile_data.specs.FullNames.{full_name}
use Rattle.aatry_policy.specs.Origins.{file_of, origin_in}
use Rattle.aatry_policy.specs.declared.origins.Origin.{Origin}
use Rattle.aatry_report.specs.FilePlaces.{path_below}
use Rattle.aatry_report.specs.Shown.{shown}
use Rattle.aatry_report.specs.declared.form.Form.{Form}
use Rattle.aatry_report.specs.declared.form.Form.TheVariants.{Lines, Records}

-- the path of the file in which the asker's profile was read
abbrev pub file_for : List ℕ → List Origin → List ℕ → List ℕ
file_for base origins who = path_below base (file_of (origin_in (full_name who).profile origins))

-- the heading of an asker's rules, by the path of their file
abbrev pub heading : List ℕ → List ℕ → List ℕ
heading path who = codes "# " ++ shown path ++ codes ": profile " ++ written_text who ++ line_feed ∷ []

-- the last name is that of the asker, too
abbrev pub is_of : Option (List ℕ) → List ℕ → Bool
is_of None who = false
is_of (Some name) who = bytes_eq name who

-- the heading in a form; records have none
abbrev pub heading_text : Form → List ℕ → List ℕ → List ℕ
heading_text Records path who = []
heading_text Lines path who = heading path who
