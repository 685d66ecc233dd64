-- The findings for wanted requests.
use Rattle.std.specs.Prelude.{ℕ, if◌then◌else◌, is_some, List, [], ◌∷◌, ◌++◌, Option, None, Some}
use Rattle.std.specs.Str.{bytes_eq}
use Rattle.aa_decide_ready.specs.Entries.{Loaded}
use Rattle.aa_explain_rules.specs.InTheWay.{in_the_way}
use Rattle.aa_explain_rules.specs.Missing.{missing_rule}
use Rattle.aa_explain_written.specs.Written.{written_rule}
use Rattle.aa_profile_data.specs.Request.{Request}
use Rattle.aa_profile_data.specs.declared.profile.Rule.{Rule}
use Rattle.aa_set_answers.specs.Askers.{asker}
use Rattle.aatry_log_rules.specs.Outcomes.{rules_by}
use Rattle.aatry_log_rules.specs.Wanted.{Wanted}
use Rattle.aatry_log_rules.specs.declared.finding.Finding.{Finding}
use Rattle.aatry_log_rules.specs.declared.finding.Finding.TheVariants as finding
use Rattle.aatry_log_rules.specs.declared.finding.NoRule.TheVariants.{InTheWay, Unwritten}

-- the finding of a missing rule, if there is one and it can be written
abbrev pub written_finding : Option Rule → Finding
written_finding None = finding.None Unwritten
written_finding (Some rule) = if is_some (written_rule rule) then finding.Missing rule else finding.None Unwritten

-- the finding for a request that lacks something by some rules, where these are in the way of the rule that it lacks
abbrev pub finding_or : List Rule → Request → List ℕ → Finding
finding_or rules request [] = written_finding (missing_rule request rules)
finding_or rules request (place ∷ places) = finding.None InTheWay

abbrev pub finding_in : List Rule → Request → Finding
finding_in rules request = finding_or rules request (in_the_way request rules)

-- the finding for a wanted request, by a policy set
abbrev pub finding_of : List Loaded → Wanted → Finding
finding_of entries wanted = finding_in (rules_by (asker entries wanted.who)) wanted.request

-- the missing rule, if one is found
abbrev pub rule_found : Finding → List Rule
rule_found (finding.Missing rule) = rule ∷ []
rule_found (finding.None reason) = []

-- the missing rules that are found for an asker
abbrev pub rules_found : List Loaded → List ℕ → List Wanted → List Rule
rules_found entries who [] = []
rules_found entries who (wanted ∷ more) =
    if bytes_eq wanted.who who then rule_found (finding_of entries wanted) ++ rules_found entries who more else rules_found entries who more
