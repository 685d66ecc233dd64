use Rattle.std.proofs.Common.{◌≡◌, ◌++◌}
use Rattle.aatry_log_rules.specs.Told.{denied_text}
use Rattle.aatry_requests.specs.SeenTallies.{seen_all}
use Rattle.aatry_log_rules.proofs.telling.push_denied.Given as goal

-- what was told and what is left make all
abbrev pub invariant-loop-tally : goal.invariant-loop-tally
invariant-loop-tally l =
    l.out.items ++ denied_text l.fn.teller.form (seen_all l.tally-iterator.rest.items)
    ≡ l.initial.out.items ++ denied_text l.fn.teller.form (seen_all l.initial.tally-iterator.rest.items)
