-- The rules that decide an answer, by what they do.
use Rattle.std.specs.Prelude.{ℕ, Bool, true, false, not, ◌&&◌, List, codes}
use Rattle.std.specs.List.{filter}
use Rattle.aa_explain_rules.specs.Laws.{places_of}
use Rattle.aa_explain_rules.specs.Logged.{does_something}
use Rattle.aa_explain_rules.specs.declared.told.ToldRule.{ToldRule}
use Rattle.aatry_why_lines.specs.declared.groups.Group.{Group}
use Rattle.aatry_why_lines.specs.declared.groups.Group.TheVariants.{Allowing, Auditing, Denying}

-- the words over the rules of a group
abbrev pub heading : Group → List ℕ
heading Denying = codes "denied by"
heading Allowing = codes "allowed by"
heading (Auditing denied) = codes "audited by"

-- What a rule does puts it into a group. What is logged is what rules deny, where something is denied, and else what they allow.
abbrev pub does : Group → ToldRule → Bool
does Denying rule = rule.denies
does Allowing rule = not rule.denies
does (Auditing true) rule = rule.audited && rule.denies
does (Auditing false) rule = rule.audited && not rule.denies

-- a rule is in a group
abbrev pub is_in : Group → ToldRule → Bool
is_in group rule = does_something rule && does group rule

-- the indexes of the rules of a group
abbrev pub places_in : Group → List ToldRule → List ℕ
places_in group told = places_of (filter (is_in group) told)
