-- The rule that a request lacks: the narrowest that allows what no rule allows of it.
use Rattle.std.specs.Prelude.{ℕ, ◌^◌, Bool, false, ◌&&◌, ◌==◌, nat_lt, if◌then◌else◌, List, Option, None, Some, is_ok}
use Rattle.aa_glob.specs.Laws.{quoted}
use Rattle.aa_glob_syntax.specs.Exactness.{is_exact}
use Rattle.aa_glob_syntax.specs.Reading.{items_of, reading}
use Rattle.aa_profile_data.specs.Access.{APPEND, EXEC, WRITE, has, without}
use Rattle.aa_profile_data.specs.Request.{ForCapability, ForFile, ForSockets, Request}
use Rattle.aa_profile_data.specs.declared.exec_word.ExecWord.TheVariants.{Inherit}
use Rattle.aa_profile_data.specs.declared.profile.CapRule.{CapRule}
use Rattle.aa_profile_data.specs.declared.profile.FileRule.{FileRule}
use Rattle.aa_profile_data.specs.declared.profile.NetRule.{NetRule}
use Rattle.aa_profile_data.specs.declared.profile.Rank.{Rank}
use Rattle.aa_profile_data.specs.declared.profile.Rank.TheVariants.{Loose, Plain}
use Rattle.aa_profile_data.specs.declared.profile.Rule.{Rule}
use Rattle.aa_profile_data.specs.declared.profile.Rule.TheVariants.{Cap, File, Net}
use Rattle.aa_profile_data.specs.declared.profile.Transition.{Transition}
use Rattle.aa_profile_data.specs.Kinds.{is_protocol}
use Rattle.aa_decide_rules.specs.Verdict.{denied, missing}

-- The letters of a rule that allows some needs of a file. `w` includes `a`, which can't be written beside it, and an exec word lets a program start.
abbrev pub letters_for : ℕ → ℕ
letters_for needs = if has needs WRITE then without (without needs EXEC) APPEND else without needs EXEC

-- a program runs under the profile that starts it
abbrev pub inherit : Transition
inherit = record { word = Inherit; target = None }

-- the transition of such a rule, where it allows the start of a program
abbrev pub transition_for : ℕ → Option Transition
transition_for needs = if has needs EXEC then Some inherit else None

-- the rank of such a rule: plain, where it has an exec word and its pattern is exact
abbrev pub rank_for : List ℕ → ℕ → Rank
rank_for pattern needs = if has needs EXEC && is_exact (items_of pattern) then Plain else Loose

-- a rule that allows some needs of a file, whose path alone is its pattern: for the owner alone where the file is owned
abbrev pub file_rule_for : Bool → List ℕ → ℕ → FileRule
file_rule_for owned path needs = record {
  pattern = quoted path;
  access = record { 0 = letters_for needs };
  exec = transition_for needs;
  rank = rank_for (quoted path) needs;
  link = None;
  owner = owned;
  deny = false;
  audit = false;
}

-- a rule that allows a capability, and one that allows sockets of a type in a domain
abbrev pub cap_rule_for : ℕ → CapRule
cap_rule_for number = record { caps = 2 ^ number; deny = false; audit = false }

abbrev pub net_rule_for : ℕ → ℕ → NetRule
net_rule_for domain kind = record { domain = Some domain; kind = Some kind; deny = false; audit = false }

-- A rule that allows some needs of a request and nothing else. There is one for each path that can be written as a pattern, for each number that a
-- set of capabilities can have, and for each kind of sockets that is no protocol.
abbrev pub rule_for : Request → ℕ → Option Rule
rule_for (ForFile letters owned path) needs = if is_ok (reading (quoted path)) then Some (File (file_rule_for owned path needs)) else None
rule_for (ForCapability number) needs = if nat_lt number 64 then Some (Cap (cap_rule_for number)) else None
rule_for (ForSockets domain kind) needs = if is_protocol kind then None else Some (Net (net_rule_for domain kind))

-- What a request lacks: the needs that no rule denies or allows. Where one need is denied that is nothing, since no further rule allows what another
-- denies.
abbrev pub lacked : Request → List Rule → ℕ
lacked request rules = if denied request rules == 0 then missing request rules else 0

-- the rule that a request lacks, where it lacks something
abbrev pub missing_rule : Request → List Rule → Option Rule
missing_rule request rules = if lacked request rules == 0 then None else rule_for request (lacked request rules)
