-- What sums up (docs/aatry.md, "`aatry diff --all`").
use Rattle.std.specs.Prelude.{ℕ, Bool, false, true, List, [], ◌∷◌, codes, count_by, length}
use Rattle.std.specs.Fmt.{decimal}
use Rattle.aatry_report.specs.Fields.{Bytes, Number, Share, Words, told}
use Rattle.aatry_report.specs.declared.form.Form.{Form}
use Rattle.aatry_diff_paths.specs.declared.summary.Counts.{Counts}
use Rattle.aatry_path_changes.specs.declared.kinds.Kind.{Kind}
use Rattle.aatry_path_changes.specs.declared.kinds.Kind.TheVariants.{Absent, Both, Gone, Narrower, New, Otherwise, Same, TooMany, Wider}

abbrev pub same_kind : Kind → Kind → Bool
same_kind Same Same = true
same_kind Wider Wider = true
same_kind Narrower Narrower = true
same_kind Both Both = true
same_kind Otherwise Otherwise = true
same_kind Gone Gone = true
same_kind New New = true
same_kind TooMany TooMany = true
same_kind Absent Absent = true
same_kind _ _ = false

-- how many of some words are this one
abbrev pub count_of : Kind → List Kind → ℕ
count_of kind kinds = count_by (λ k. same_kind k kind) kinds

-- how many have each word
abbrev pub counts_of : List Kind → Counts
counts_of kinds = record {
  same = count_of Same kinds;
  wider = count_of Wider kinds;
  narrower = count_of Narrower kinds;
  both = count_of Both kinds;
  otherwise = count_of Otherwise kinds;
  gone = count_of Gone kinds;
  new = count_of New kinds;
  many = count_of TooMany kinds;
  absent = count_of Absent kinds;
}

-- what sums up, by how many there are, in digits, and how many have each word
unfoldable pub summary_by : Form → List ℕ → Counts → List ℕ
summary_by form all counts =
    told form (codes "summary")
    (Bytes all ∷ Words (codes " profiles, children and hats: ") ∷ Number (codes "same") counts.same ∷ Words (codes " the same")
    ∷ Share (codes "wider") counts.wider (codes " wider") ∷ Share (codes "narrower") counts.narrower (codes " narrower")
    ∷ Share (codes "both") counts.both (codes " both") ∷ Share (codes "otherwise") counts.otherwise (codes " otherwise")
    ∷ Share (codes "gone") counts.gone (codes " gone") ∷ Share (codes "new") counts.new (codes " new")
    ∷ Share (codes "too_many") counts.many (codes " too many") ∷ Share (codes "absent") counts.absent (codes " absent") ∷ [])

abbrev pub summary_text : Form → List Kind → List ℕ
summary_text form kinds = summary_by form (decimal (length kinds)) (counts_of kinds)
