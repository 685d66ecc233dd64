-- The report on the rules that decide an answer.
use Rattle.std.specs.Prelude.{ℕ, Bool, if◌then◌else◌, List, [], ◌++◌, codes, flat_map, Option, None, Some}
use Rattle.aa_profile_data.specs.Access.{EXEC, has}
use Rattle.aa_profile_data.specs.Request.{ForFile, Request}
use Rattle.aa_profile_data.specs.declared.profile.Rule.{Rule}
use Rattle.aa_explain_rules.specs.Leading.{leading_places}
use Rattle.aa_bytes.specs.Texts.{is_empty}
use Rattle.aa_explain_rules.specs.Logged.{is_denied}
use Rattle.aa_explain_rules.specs.InTheWay.{in_the_way}
use Rattle.aa_explain_rules.specs.Missing.{missing_rule}
use Rattle.aa_explain_rules.specs.Scripts.{script_rule}
use Rattle.aa_explain_rules.specs.Told.{near, told}
use Rattle.aa_explain_rules.specs.declared.told.ToldRule.{ToldRule}
use Rattle.aatry_report.specs.declared.form.Form.{Form}
use Rattle.aatry_why_lines.specs.Groups.{heading, places_in}
use Rattle.aatry_why_lines.specs.Lines.{group_lines, line_at}
use Rattle.aatry_why_lines.specs.Missing.{missing_line}
use Rattle.aatry_why_lines.specs.Written.{Written}
use Rattle.aatry_why_lines.specs.declared.groups.Group.{Group}
use Rattle.aatry_why_lines.specs.declared.groups.Group.TheVariants.{Allowing, Auditing, Denying}
use Rattle.aatry_why_lines.specs.declared.missing.Missing.{Missing}
use Rattle.aatry_why_lines.specs.declared.missing.Missing.TheVariants.{OfRequest, OfScript}

-- the lines of the rules of a group
abbrev pub lines_of : Form → Written → List ToldRule → Group → List ℕ
lines_of form written told group = group_lines form written (heading group) (places_in group told)

-- the lines of the rules that allow some of a request's needs, without words over them
abbrev pub allowing_lines : Form → Written → Request → List ℕ
allowing_lines form written request =
    flat_map (line_at form written (heading Allowing)) (places_in Allowing (told written.audit request written.rules))

-- the line of a missing rule, if there is one
abbrev pub missing_lines : Form → Missing → Option Rule → List ℕ
missing_lines form case None = []
missing_lines form case (Some rule) = missing_line form case rule

-- the lines of the rule that a request lacks, and of the one that it lacks where it starts a script
abbrev pub adding_lines : Form → Written → Request → List ℕ
adding_lines form written request =
    missing_lines form OfRequest (missing_rule request written.rules) ++ missing_lines form OfScript (script_rule request written.rules)

-- Where rules are in the way of the one that a request lacks they are reported in its place, since a profile with both would be refused.
abbrev pub missing_or : Form → Written → Request → List ℕ → List ℕ
missing_or form written request way =
    if is_empty way then adding_lines form written request else group_lines form written (codes "in the way") way

-- the lines of the nearest rules
abbrev pub nearest_lines : Form → Written → Request → List ℕ
nearest_lines form written request = group_lines form written (codes "nearest rules") (near request written.rules)

-- where something of the request isn't allowed: the rule that it lacks, or those in the way of that, and the nearest ones
abbrev pub lacking_lines : Form → Written → Request → Bool → List ℕ
lacking_lines form written request lacking =
    if lacking then missing_or form written request (in_the_way request written.rules) ++ nearest_lines form written request else []

-- the indexes of the rules that decide under which profile a program runs, where its start is asked for; any other request has none
abbrev pub deciding : Request → List Rule → List ℕ
deciding (ForFile letters owned path) rules = if has letters EXEC then leading_places owned path rules else []
deciding _ rules = []

-- the lines of the rules that decide under which profile a program runs
abbrev pub deciding_lines : Form → Written → Request → List ℕ
deciding_lines form written request = group_lines form written (codes "decided by") (deciding request written.rules)

-- The lines of the rules by which an answer is logged: where something is denied, of those that deny, and else of those
-- that allow. Where something isn't allowed, that is logged by no rule.
abbrev pub auditing_lines : Form → Written → Bool → List ToldRule → List ℕ
auditing_lines form written lacking told = if lacking then [] else lines_of form written told (Auditing (is_denied told))

-- the lines of these rules by what they do: those that deny, that allow, and by which the answer is logged
abbrev pub told_lines : Form → Written → Bool → List ToldRule → List ℕ
told_lines form written lacking told =
    lines_of form written told Denying ++ lines_of form written told Allowing ++ auditing_lines form written lacking told

-- the lines of the rules that decide the answer to a request: those that apply, those that decide under which profile a program runs, the one that
-- is missing, and the nearest ones
abbrev pub why_lines : Form → Written → Request → Bool → List ℕ
why_lines form written request lacking =
    told_lines form written lacking (told written.audit request written.rules) ++ deciding_lines form written request ++ lacking_lines form written request lacking
