-- A name that lets a request through, as it is told (docs/aatry.md).
use Rattle.std.specs.Prelude.{ℕ, List, [], ◌∷◌, Option, None, Some, codes}
use Rattle.aa_decide.specs.Exec.{Started}
use Rattle.aatry_report.specs.Fields.{Member, Plain, Said, Text, Words, told}
use Rattle.aatry_report.specs.declared.form.Form.{Form}
use Rattle.aatry_report.specs.declared.form.Form.TheVariants.{Records}
use Rattle.aatry_why.specs.Transitions.{destination_base, destination_text}

-- a text by a name, of the record alone, if there is one
abbrev pub member_if : List ℕ → Option (List ℕ) → Said
member_if name None = Words []
member_if name (Some text) = Member name text

-- its full name, the answer, and under which profile a program runs that it starts
abbrev pub let_told : Form → (name answer : List ℕ) → (to base : Said) → List ℕ
let_told form name answer to base =
    told form (codes "let") (Text (codes "name") name ∷ Words (codes ": ") ∷ Plain (codes "answer") answer ∷ to ∷ base ∷ [])

abbrev pub let_line : Form → (name answer : List ℕ) → Option Started → List ℕ
let_line form name answer to =
    let_told form name answer (member_if (codes "leads_to") (destination_text Records to)) (member_if (codes "on") (destination_base to))
