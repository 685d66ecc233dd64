-- The lines that show rules (docs/commands.md, "What is loaded"). The qualifiers of a rule are printed after its first word: that it is audited,
-- that it denies, that it is about the owner's files alone, and that it is the last to say where a program goes.
use Rattle.std.specs.Prelude.{ℕ, Bool, false, ◌+◌, ◌-◌, ◌^◌, ◌==◌, if◌then◌else◌, List, [], ◌∷◌, ◌++◌, Option, None, Some, bit_and, codes}
use Rattle.aa_profile_data.specs.Access.{letters_of}
use Rattle.aa_profile_data.specs.ExecWords.{row}
use Rattle.aa_bytes.specs.Bytes.{line_feed}
use Rattle.aa_profile_data.specs.Cover.{has_number}
use Rattle.aa_profile_data.specs.Ranks.{same_rank}
use Rattle.aa_profile_data.specs.declared.profile.CapRule.{CapRule}
use Rattle.aa_profile_data.specs.declared.profile.FileRule.{FileRule}
use Rattle.aa_profile_data.specs.declared.profile.NetRule.{NetRule}
use Rattle.aa_profile_data.specs.declared.profile.OtherRule.{OtherRule}
use Rattle.aa_profile_data.specs.declared.profile.Rank.TheVariants.{Last}
use Rattle.aa_profile_data.specs.declared.profile.Rule.{Rule}
use Rattle.aa_profile_data.specs.declared.profile.Rule.TheVariants.{Cap, File, Net, Other}
use Rattle.aa_profile_data.specs.declared.profile.Transition.{Transition}
use Rattle.aa_profile_data.specs.Capabilities.{names}
use Rattle.aa_profile_data.specs.Domains.{domain_name}
use Rattle.aa_profile_data.specs.Kinds.{kind_name}
use Rattle.aa_bytes.specs.Quoting.{written_text}
use Rattle.aa_profile_data.specs.TableNames.{name_or_none}

-- text, if something holds
abbrev pub text_if : Bool → List ℕ → List ℕ
text_if holds text = if holds then text else []

-- the qualifiers of a rule, each after a blank
abbrev pub qualifiers : Bool → Bool → Bool → List ℕ
qualifiers audit deny owner = text_if audit (codes " audit") ++ text_if deny (codes " deny") ++ text_if owner (codes " owner")

-- the target that a rule names, if it names one
abbrev pub target_text : Option (List ℕ) → List ℕ
target_text None = []
target_text (Some target) = codes " -> " ++ written_text target

-- the exec word of a rule, if it has one, and its target
abbrev pub exec_text : Option Transition → List ℕ
exec_text None = []
exec_text (Some transition) = (row transition.word).text ++ target_text transition.target

-- the access of a rule on files: its letters, its exec word, and the target of either
abbrev pub access_text : FileRule → List ℕ
access_text rule = letters_of rule.access.0 ++ exec_text rule.exec ++ target_text rule.link

-- the qualifiers of a rule on files: also that it decides after all others where a program goes
abbrev pub file_qualifiers : FileRule → List ℕ
file_qualifiers rule = qualifiers rule.audit rule.deny rule.owner ++ text_if (same_rank rule.rank Last) (codes " last")

-- a rule on files: its pattern, and its access
abbrev pub file_text : FileRule → List ℕ
file_text rule = codes "file" ++ file_qualifiers rule ++ codes " " ++ written_text rule.pattern ++ codes " " ++ access_text rule

-- the set of all capabilities
abbrev pub all_capabilities : ℕ
all_capabilities = 2 ^ 41 - 1

-- a set has every capability
abbrev pub has_all : ℕ → Bool
has_all set = bit_and set all_capabilities == all_capabilities

-- those of some names that a set has, each after a blank, where the first has this number
abbrev pub names_from : ℕ → ℕ → List (List ℕ) → List ℕ
names_from set number [] = []
names_from set number (name ∷ names) = text_if (has_number set number) (codes " " ++ name) ++ names_from set (number + 1) names

-- the capabilities of a set, each after a blank, in the order of their numbers, or that it has all
abbrev pub capabilities_text : ℕ → List ℕ
capabilities_text set = if has_all set then codes " all" else names_from set 0 names

-- a rule on capabilities, which is never the owner's alone
abbrev pub capability_text : CapRule → List ℕ
capability_text rule = codes "capability" ++ qualifiers rule.audit rule.deny false ++ capabilities_text rule.caps

-- the domain that a rule is about; a missing one is printed as `any`
abbrev pub domain_word : Option ℕ → List ℕ
domain_word None = codes "any"
domain_word (Some number) = name_or_none (domain_name number)

-- the type or the protocol that a rule is about; a missing one is printed as `any`
abbrev pub kind_word : Option ℕ → List ℕ
kind_word None = codes "any"
kind_word (Some number) = name_or_none (kind_name number)

-- a rule on sockets, which is never the owner's alone
abbrev pub network_text : NetRule → List ℕ
network_text rule =
    codes "network" ++ qualifiers rule.audit rule.deny false ++ codes " " ++ domain_word rule.domain ++ codes " " ++ kind_word rule.kind

-- a rule that decides nothing is shown as it is written
abbrev pub other_text : OtherRule → List ℕ
other_text rule = codes "other" ++ qualifiers rule.audit rule.deny rule.owner ++ codes " " ++ rule.text

-- a rule, by its kind
abbrev pub rule_text : Rule → List ℕ
rule_text (File rule) = file_text rule
rule_text (Cap rule) = capability_text rule
rule_text (Net rule) = network_text rule
rule_text (Other rule) = other_text rule

-- the line of a rule
abbrev pub rule_line : Rule → List ℕ
rule_line rule = codes "  " ++ rule_text rule ++ line_feed ∷ []
