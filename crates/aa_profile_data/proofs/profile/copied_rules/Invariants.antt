use Rattle.std.proofs.Common.{◌≡◌, take}
use Rattle.aa_profile_data.proofs.profile.copied_rules.Given as goal

abbrev pub invariant-loop-rule : goal.invariant-loop-rule
invariant-loop-rule l = l.copies.items ≡ take l.rule-index l.rules
