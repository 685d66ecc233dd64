-- The report on one change after another.
use Rattle.std.specs.Prelude.{ℕ, List, [], Option, None, Some}
use Rattle.aatry_folder.specs.PolicyFiles.{PolicyFiles}
use Rattle.aatry_report.specs.declared.form.Form.{Form}
use Rattle.aatry_shared.specs.SharedLines.{files_of, group_text, shared_text}
use Rattle.aatry_shared.specs.Sharing.{Group}

-- the report on a change, in the files of its side
abbrev pub text_by_side : Form → PolicyFiles → PolicyFiles → Group → List ℕ
text_by_side form old new group = shared_text form (files_of old new group.change.side) group

-- the report on the change at an index, if there is one
abbrev pub group_text_at : Form → PolicyFiles → PolicyFiles → Option Group → List ℕ
group_text_at form old new None = []
group_text_at form old new (Some group) = group_text form old new group
