-- Lines with a prefix.
use Rattle.std.specs.Prelude.{ℕ, List, [], ◌∷◌, ◌++◌, flat_map}
use Rattle.aa_bytes.specs.Bytes.{line_feed}
use Rattle.aa_set_commands.specs.Lines.{lines}
use Rattle.aatry_report.specs.declared.form.Form.{Form}
use Rattle.aatry_report.specs.declared.form.Form.TheVariants.{Lines, Records}

-- a line after a prefix
abbrev pub prefixed : List ℕ → List ℕ → List ℕ
prefixed prefix line = prefix ++ line ++ line_feed ∷ []

-- lines each after the prefix, and records as they are
abbrev pub prefixed_text : Form → List ℕ → List ℕ → List ℕ
prefixed_text Lines prefix text = flat_map (prefixed prefix) (lines text)
prefixed_text Records prefix text = text
