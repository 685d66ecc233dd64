-- What is reported in place of rules where none decides: the asker is in mode unconfined (docs/policy.md, "The mode unconfined").
use Rattle.std.specs.Prelude.{ℕ, List, [], ◌∷◌, ◌++◌, codes}
use Rattle.aatry_report.specs.Headings.{heading_line}
use Rattle.aatry_report.specs.Fields.{Word, Words, told}
use Rattle.aatry_report.specs.declared.form.Form.{Form}

-- that no rule decides, below a heading
abbrev pub unasked_lines : Form → List ℕ
unasked_lines form =
    heading_line form (codes "mode")
    ++ told form (codes "mode") (Words (codes "  no rule is asked in mode ") ∷ Word (codes "mode") (codes "unconfined") ∷ [])
