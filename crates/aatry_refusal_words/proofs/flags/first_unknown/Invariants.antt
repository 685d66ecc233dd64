use Rattle.std.proofs.Common.{◌≡◌, length}
use Rattle.std.specs.List.{slice_split}
use Rattle.aa_profile_parsing.specs.Flags.{separates}
use Rattle.aatry_refusal_words.specs.FlagFaults.{first_unknown}
use Rattle.aatry_refusal_words.proofs.flags.first_unknown.Given as goal

-- the words that are left decide
abbrev pub invariant-loop-more : goal.invariant-loop-more
invariant-loop-more l = first_unknown l.language (slice_split separates l.rest) ≡ first_unknown l.language (slice_split separates l.list)

abbrev pub decreases-loop-more : goal.decreases-loop-more
decreases-loop-more l = length l.rest
