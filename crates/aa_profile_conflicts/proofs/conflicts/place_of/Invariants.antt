use Rattle.std.proofs.Common.{◌≡◌, ◌+◌, length}
use Rattle.std.specs.Option.{option_map}
use Rattle.std.specs.Prelude.{slice_get}
use Rattle.aa_profile_conflicts.specs.Leads.{place_of, placed_from}
use Rattle.aa_profile_conflicts.proofs.conflicts.place_of.Given as goal

-- the one that is left among the other rules is the one that was asked for
abbrev pub invariant-loop-rest : goal.invariant-loop-rest
invariant-loop-rest l = record {
  same : option_map place_of (slice_get (placed_from l.rank l.place l.rest) l.left) ≡ option_map place_of (slice_get (placed_from l.rank 0 l.rules) l.lead);
  count : l.place + length l.rest ≡ length l.rules;
}

abbrev pub decreases-loop-rest : goal.decreases-loop-rest
decreases-loop-rest l = length l.rest
