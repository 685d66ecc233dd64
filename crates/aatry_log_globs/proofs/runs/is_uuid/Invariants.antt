use Rattle.std.proofs.Common.{◌≡◌, ◌+◌, length}
use Rattle.aatry_log_globs.specs.Runs.{are_of_uuid}
use Rattle.aatry_log_globs.proofs.runs.is_uuid.Given as goal

-- all bytes are those of a UUID if the rest are, from this place of it on
abbrev pub invariant-loop-rest : goal.invariant-loop-rest
invariant-loop-rest l = record {
  all : are_of_uuid 0 l.text ≡ are_of_uuid l.place l.rest;
  few : l.place + length l.rest ≡ length l.text;
}

abbrev pub decreases-loop-rest : goal.decreases-loop-rest
decreases-loop-rest l = length l.rest
