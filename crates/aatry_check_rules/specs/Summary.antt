-- The summary (docs/aatry.md, "`aatry check --rules`").
use Rattle.std.specs.Prelude.{ℕ, List, [], ◌∷◌, codes, count_by, length, None, Some}
use Rattle.std.specs.List.{sum_by}
use Rattle.aatry_policy.specs.Parts.{Part}
use Rattle.aatry_report.specs.Fields.{Number, Share, Words, told}
use Rattle.aatry_report.specs.declared.form.Form.{Form}
use Rattle.aatry_check_rules.specs.Finding.{Found, is_absent, is_many}
use Rattle.aatry_check_rules.specs.Telling.{decide_word, rules_word}
use Rattle.aatry_check_rules.specs.declared.summary.Counts.{Counts}

-- how many rules of a part are reported, and how many were tried; none where it has too many paths
abbrev pub told_in : Found → ℕ
told_in found = elim found.told [ None ↦ 0 | Some told ↦ length told ]

abbrev pub tried_in : Found → ℕ
tried_in found = elim found.told [ None ↦ 0 | Some told ↦ found.tried ]

-- the counts of the findings for parts, where files of these names are asked about, and of so many profiles that no path is attached to
abbrev pub counts_of : List Part → List (List ℕ) → List Found → ℕ → Counts
counts_of parts names found unattached = record {
  all = length found;
  told = sum_by told_in found;
  tried = sum_by tried_in found;
  many = count_by is_many found;
  absent = count_by (is_absent parts) names;
  unattached = unattached;
}

-- the summary by its counts
abbrev pub summary_by : Form → Counts → List ℕ
summary_by form counts =
    told form (codes "summary")
    (Number (codes "all") counts.all ∷ Words (codes " profiles, children and hats: ") ∷ Number (codes "redundant") counts.told
    ∷ Words (rules_word counts.told) ∷ Words (codes " of ") ∷ Number (codes "tried") counts.tried ∷ Words (decide_word counts.told)
    ∷ Share (codes "unattached") counts.unattached (codes " unattached") ∷ Share (codes "too_many") counts.many (codes " too many")
    ∷ Share (codes "absent") counts.absent (codes " absent") ∷ [])

abbrev pub summary_text : Form → List Part → List (List ℕ) → List Found → ℕ → List ℕ
summary_text form parts names found unattached = summary_by form (counts_of parts names found unattached)
