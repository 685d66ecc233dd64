-- Missing rules, as they are reported.
use Rattle.std.specs.Prelude.{ℕ, if◌then◌else◌, List, [], ◌∷◌, ◌++◌, codes, None, Some}
use Rattle.std.specs.Str.{bytes_eq}
use Rattle.aa_explain_written.specs.Written.{written_rule}
use Rattle.aa_profile_data.specs.declared.profile.Rule.{Rule}
use Rattle.aa_set_answers.specs.RuleLines.{rule_text}
use Rattle.aatry_report.specs.Headings.{heading_line}
use Rattle.aatry_report.specs.Fields.{Bytes, Member, MemberWord, Said, Words, told}
use Rattle.aatry_report.specs.Shown.{shown}
use Rattle.aatry_report.specs.declared.form.Form.{Form}
use Rattle.aatry_why_lines.specs.Lines.{shown_rule}
use Rattle.aatry_why_lines.specs.declared.missing.Missing.{Missing}
use Rattle.aatry_why_lines.specs.declared.missing.Missing.TheVariants.{OfRequest, OfScript}

-- A missing rule, as a profile's file writes it; one that no file writes, as `show` prints it.
abbrev pub pasted_rule : Rule → List ℕ
pasted_rule rule = elim (written_rule rule) [ None ↦ rule_text rule | Some text ↦ text ]

-- the words over a missing rule
abbrev pub missing_words : Missing → List ℕ
missing_words OfRequest = codes "missing rule"
missing_words OfScript = codes "missing rule, where it is a script"

-- that a rule is missing where a script is started, in the record
abbrev pub case_part : Missing → Said
case_part OfRequest = Words []
case_part OfScript = MemberWord (codes "for") (codes "script")

-- A missing rule on a line, where it is shown. Where a terminal obeys one of its bytes it is printed as by `show`, too: with what is shown in place
-- of that byte it would be another rule.
abbrev pub shown_missing : Rule → List ℕ
shown_missing rule = if bytes_eq (shown (pasted_rule rule)) (pasted_rule rule) then pasted_rule rule else shown_rule rule

-- a missing rule, in lines below words of its own
abbrev pub missing_line : Form → Missing → Rule → List ℕ
missing_line form case rule =
    heading_line form (missing_words case)
    ++ told form (codes "missing") (Words (codes "  ") ∷ Bytes (shown_missing rule) ∷ Member (codes "rule") (pasted_rule rule) ∷ case_part case ∷ [])
