-- The rules by which two folders answer a question differently (docs/aatry.md).
use Rattle.std.specs.Prelude.{ℕ, List, [], ◌++◌, codes, Option, None, Some}
use Rattle.aa_explain_diff.specs.Features.{Feature, lacking}
use Rattle.aa_profile_data.specs.Request.{Request}
use Rattle.aatry_shared.specs.Differing.{told_lines}
use Rattle.aatry_shared.specs.PartFeatures.{covering_from}
use Rattle.aatry_shared.specs.declared.side.Side.{Side}
use Rattle.aatry_shared.specs.declared.side.Side.TheVariants.{New, Old}
use Rattle.aatry_policy.specs.FolderParts.{FolderParts}
use Rattle.aatry_policy.specs.Parts.{Part, part_of}
use Rattle.aatry_report.specs.declared.form.Form.{Form}

-- the rules of a part that cover some of the request's needs, if there is such a part
abbrev pub covering_of : Request → Option Part → List Feature
covering_of request None = []
covering_of request (Some part) = covering_from request 0 part.section.rules

-- those of a part's rules that the other part lacks
abbrev pub causes_of : Form → FolderParts → Option Part → Side → List Feature → List Feature → List ℕ
causes_of form folder None side others rules = []
causes_of form folder (Some part) side others rules = told_lines form folder part (codes "  ") side (lacking others rules)

-- the rules that the old part has and the new one lacks, and those that the new one has and the old one lacks
abbrev pub causes_between : Form → FolderParts → FolderParts → Option Part → Option Part → Request → List ℕ
causes_between form old new part other request =
    causes_of form old part Old (covering_of request other) (covering_of request part)
    ++ causes_of form new other New (covering_of request part) (covering_of request other)

-- the rules of a full name that only one of two folders has
abbrev pub cause_lines : Form → FolderParts → FolderParts → List ℕ → Request → List ℕ
cause_lines form old new who request = causes_between form old new (part_of old.parts who) (part_of new.parts who) request
