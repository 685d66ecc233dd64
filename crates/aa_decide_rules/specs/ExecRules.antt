-- What rules say of the start of a program (apparmor.d(5), "Execute Rules"; docs/policy.md, "Exec and attachment").
use Rattle.std.specs.Prelude.{ℕ, Bool, not, ◌&&◌, ◌||◌, if◌then◌else◌, List, [], ◌∷◌, Option, None, Some}
use Rattle.aa_glob_syntax.specs.Matching.{matches}
use Rattle.aa_glob_syntax.specs.Reading.{items_of}
use Rattle.aa_profile_data.specs.Cover.{covers_exec}
use Rattle.aa_profile_data.specs.declared.profile.FileRule.{FileRule}
use Rattle.aa_profile_data.specs.declared.profile.Rank.{Rank}
use Rattle.aa_profile_data.specs.declared.profile.Rule.{Rule}
use Rattle.aa_profile_data.specs.declared.profile.Rule.TheVariants.{File}
use Rattle.aa_profile_data.specs.declared.profile.Transition.{Transition}

-- What a rule says of the start of a program: that it is denied, or where it leads and with which rank; and whether that is logged.
pub data ExecRule : Type 0 where
  Denying : (audited : Bool) → ExecRule
  Leading : (transition : Transition) (rank : Rank) (audited : Bool) → ExecRule

-- A rule applies to a path where its pattern matches it and, if it is an owner's rule, the file is owned.
abbrev pub applies_to : Bool → List ℕ → FileRule → Bool
applies_to owned path rule = matches (items_of rule.pattern) path && (not rule.owner || owned)

-- What a rule that applies says: a deny rule that covers the start of programs denies it, and an allow rule leads where its exec word says. The flag
-- audits each rule, whatever its own qualifiers are.
abbrev pub said_by : Bool → FileRule → Option ExecRule
said_by flag rule =
    if rule.deny
    then (if covers_exec rule then Some (Denying (flag || rule.audit)) else None)
    else elim rule.exec [ None ↦ None | Some transition ↦ Some (Leading transition rule.rank (flag || rule.audit)) ]

-- what a rule says of the start of the program of a path
abbrev pub said_of : Bool → Bool → List ℕ → Rule → Option ExecRule
said_of flag owned path (File rule) = if applies_to owned path rule then said_by flag rule else None
said_of flag owned path _ = None

-- what rules say of that start, in their order
abbrev pub exec_rules : Bool → Bool → List ℕ → List Rule → List ExecRule
exec_rules flag owned path [] = []
exec_rules flag owned path (rule ∷ rules) = elim (said_of flag owned path rule) [
  | None ↦ exec_rules flag owned path rules
  | Some said ↦ said ∷ exec_rules flag owned path rules
]
