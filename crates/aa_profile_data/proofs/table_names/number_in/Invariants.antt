use Rattle.std.proofs.Common.{◌≡◌, ◌+◌, length, map}
use Rattle.aa_profile_data.specs.TableNames.{number_from}
use Rattle.aa_profile_data.proofs.table_names.number_in.Given as goal

-- the name isn't among those so far
abbrev pub invariant-loop-rest : goal.invariant-loop-rest
invariant-loop-rest l = record {
  same : number_from l.number (map (λ own. own.now) l.rest) l.name ≡ number_from 0 (map (λ own. own.now) l.names) l.name;
  count : l.number + length l.rest ≡ length l.names;
}

abbrev pub decreases-loop-rest : goal.decreases-loop-rest
decreases-loop-rest l = length l.rest
