-- How many states the exec rules of a block have: the different beginnings of their patterns, deny rules included (docs/commands.md, "Limits").
use Rattle.std.specs.Prelude.{ℕ, Bool, nat_lt, if◌then◌else◌, List, Option, None, Some}
use Rattle.std.specs.List.{filter_map}
use Rattle.aa_glob.specs.States.{state_count}
use Rattle.aa_profile_data.specs.Cover.{covers_exec}
use Rattle.aa_profile_data.specs.declared.profile.Rule.{Rule}
use Rattle.aa_profile_data.specs.declared.profile.Rule.TheVariants.{Cap, File, Net, Other}

-- the pattern of a rule, if the rule covers the start of programs
abbrev pub exec_pattern : Rule → Option (List ℕ)
exec_pattern (File rule) = if covers_exec rule then Some rule.pattern else None
exec_pattern (Cap rule) = None
exec_pattern (Net rule) = None
exec_pattern (Other rule) = None

-- the patterns of those rules among some
abbrev pub exec_patterns : List Rule → List (List ℕ)
exec_patterns rules = filter_map exec_pattern rules

-- how many states these rules may have
abbrev pub most_exec_states : ℕ
most_exec_states = 8192

-- these rules have more states
abbrev pub has_many_states : List Rule → Bool
has_many_states rules = nat_lt most_exec_states (state_count (exec_patterns rules))
