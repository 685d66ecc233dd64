use Rattle.std.proofs.Common.{◌≡◌, ◌++◌, [], None, length, map}
use Rattle.std.specs.Option.{option_copied}
use Rattle.aatry_log_rules.specs.SeenTelling.{seen_telling}
use Rattle.aatry_log_rules.specs.SeenWanted.{seen_wanted}
use Rattle.aatry_log_rules.specs.Told.{wanted_texts}
use Rattle.aatry_log_rules.proofs.telling.push_all_wanted.Given as goal

-- what was told and what is left make all
abbrev pub invariant-loop-rest : goal.invariant-loop-rest
invariant-loop-rest l =
    l.out.items ++ wanted_texts (seen_telling l.telling) (option_copied l.last) l.told (map seen_wanted l.rest)
    ≡ l.initial.out.items ++ wanted_texts (seen_telling l.telling) None [] (seen_telling l.telling).wanted

abbrev pub decreases-loop-rest : goal.decreases-loop-rest
decreases-loop-rest l = length l.rest
