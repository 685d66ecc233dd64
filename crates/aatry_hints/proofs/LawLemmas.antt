-- What each command asks for with an option that it doesn't take.
use Rattle.std.proofs.Common.{◌≡◌, ◌&&◌, Bool, false, true, codes, refl}
use Rattle.std.specs.List.{list_all}
use Rattle.std.specs.Str.{chars}
use Rattle.aatry_arguments.specs.DiffAllWords.{asked_all}
use Rattle.aatry_arguments.specs.LogWords.{asked_logs}
use Rattle.aatry_arguments.specs.PathsWords.{asked_paths}
use Rattle.aatry_arguments.specs.ReachWords.{asked_reach}
use Rattle.aatry_arguments.specs.RulesWords.{asked_rules}
use Rattle.aatry_hints.specs.Commands.{commands}
use Rattle.aatry_hints.specs.Laws.{go_as_told, refuses_others}
use Rattle.aatry_hints.specs.Together.{with_all, with_rules}

of_check : refuses_others (codes "check") ≡ true
unfolding asked_logs asked_paths chars refuses_others
of_check = refl

of_why : refuses_others (codes "why") ≡ true
unfolding asked_logs asked_paths chars refuses_others
of_why = refl

of_log : refuses_others (codes "log") ≡ true
unfolding asked_logs asked_paths chars refuses_others
of_log = refl

of_who : refuses_others (codes "who") ≡ true
unfolding asked_logs asked_paths chars refuses_others
of_who = refl

of_never : refuses_others (codes "never") ≡ true
unfolding asked_logs asked_paths chars refuses_others
of_never = refl

of_always : refuses_others (codes "always") ≡ true
unfolding asked_logs asked_paths chars refuses_others
of_always = refl

of_reach : refuses_others (codes "reach") ≡ true
unfolding asked_logs asked_paths asked_reach chars refuses_others
of_reach = refl

of_diff : refuses_others (codes "diff") ≡ true
unfolding asked_logs asked_paths chars refuses_others
of_diff = refl

of_session : refuses_others (codes "session") ≡ true
unfolding asked_logs asked_paths chars refuses_others
of_session = refl

of_test : refuses_others (codes "test") ≡ true
unfolding asked_logs asked_paths chars refuses_others
of_test = refl

pub all_go : go_as_told with_all ≡ true
unfolding asked_all chars go_as_told
all_go = refl

pub rules_go : go_as_told with_rules ≡ true
unfolding asked_rules chars go_as_told
rules_go = refl

-- both hold
both : {first second : Bool} → first ≡ true → second ≡ true → (first && second) ≡ true
both {first = true} is_first is_second = is_second
both {first = false} is_first is_second = is_first

pub all-refuse : list_all refuses_others commands ≡ true
all-refuse =
    both of_check (both of_why (both of_log (both of_who (both of_never (both of_always (both of_reach (both of_diff (both of_session (both of_test refl)))))))))
