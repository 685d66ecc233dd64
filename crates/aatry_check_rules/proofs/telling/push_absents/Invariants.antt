use Rattle.std.proofs.Common.{◌≡◌, ◌++◌, length, map}
use Rattle.aatry_check_rules.specs.Telling.{absents_text}
use Rattle.aatry_policy.specs.SeenProfiles.{seen_part}
use Rattle.aatry_check_rules.proofs.telling.push_absents.Given as goal

-- what was told so far, with what is told of those that are left, is all
abbrev pub invariant-loop-rest : goal.invariant-loop-rest
invariant-loop-rest l =
    let text = absents_text l.teller.form (map seen_part l.parts) in
    l.out.items ++ text (map (λ name. name.now) l.rest) ≡ l.initial.out.items ++ text (map (λ name. name.now) l.names)

abbrev pub decreases-loop-rest : goal.decreases-loop-rest
decreases-loop-rest l = length l.rest
