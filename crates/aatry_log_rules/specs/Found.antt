-- Rules to add, as they are printed.
use Rattle.std.specs.Prelude.{ℕ, List, [], ◌∷◌, codes, Option, None, Some}
use Rattle.aa_profile_data.specs.declared.profile.Rule.{Rule}
use Rattle.aatry_log_rules.specs.Wanted.{Wanted}
use Rattle.aatry_report.specs.Fields.{Bytes, Member, Said, Times, Words, told}
use Rattle.aatry_report.specs.declared.form.Form.{Form}
use Rattle.aatry_why_lines.specs.Missing.{pasted_rule, shown_missing}

-- the wider rule in the record, if there is one
abbrev pub wider_field : Option (List ℕ) → Said
wider_field None = Words []
wider_field (Some text) = Member (codes "wider") text

-- a rule to add: as it is shown and as it can be pasted, how often was asked what it allows, who asks, the file, and a wider rule
unfoldable pub missing_told : Form → (shown text : List ℕ) → (times : ℕ) → (who path : List ℕ) → Said → List ℕ
missing_told form shown text times who path wider =
    told form (codes "missing")
    (Words (codes "  ") ∷ Bytes shown ∷ Member (codes "rule") text ∷ Words (codes "  # asked ") ∷ Times (codes "times") times
    ∷ Member (codes "profile") who ∷ Member (codes "file") path ∷ wider ∷ [])

-- a rule to add for a wanted request, by the path of the file
abbrev pub rule_text : Form → List ℕ → Wanted → Rule → Option (List ℕ) → List ℕ
rule_text form path wanted rule wider =
    missing_told form (shown_missing rule) (pasted_rule rule) wanted.times wanted.who path (wider_field wider)
