use Rattle.std.proofs.Common.{◌≡◌, length, map}
use Rattle.std.specs.List.{list_any}
use Rattle.aatry_check_rules.specs.Finding.{is_of_file}
use Rattle.aatry_check_rules.proofs.finding.is_named.Given as goal

-- none so far is: those that are left decide
abbrev pub invariant-loop-rest : goal.invariant-loop-rest
invariant-loop-rest l = list_any (is_of_file l.file) (map (λ name. name.now) l.rest) ≡ list_any (is_of_file l.file) (map (λ name. name.now) l.names)

abbrev pub decreases-loop-rest : goal.decreases-loop-rest
decreases-loop-rest l = length l.rest
