use Rattle.std.proofs.Common.{◌≡◌, map, take}
use Rattle.aa_profile_data.specs.Domains.{names}
use Rattle.aatry_questions.proofs.misspelled.domain_names.Given as goal

-- the names of the numbers so far
abbrev pub invariant-loop-number : goal.invariant-loop-number
invariant-loop-number l = map (λ name. name.now) l.names.items ≡ take l.number names
