-- Headings, which only lines for people have.
use Rattle.std.specs.Prelude.{ℕ, List, [], ◌∷◌, ◌++◌}
use Rattle.aa_bytes.specs.Bytes.{line_feed}
use Rattle.aatry_report.specs.declared.form.Form.{Form}
use Rattle.aatry_report.specs.declared.form.Form.TheVariants.{Lines, Records}

-- a heading on a line of its own; records have none
abbrev pub heading_line : Form → List ℕ → List ℕ
heading_line Lines words = words ++ line_feed ∷ []
heading_line Records words = []
