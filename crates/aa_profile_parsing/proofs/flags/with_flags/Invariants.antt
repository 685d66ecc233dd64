use Rattle.std.proofs.Common.{◌≡◌, length}
use Rattle.std.specs.List.{slice_split}
use Rattle.aa_profile_parsing.specs.Flags.{separates, with_flags}
use Rattle.aa_profile_parsing.proofs.flags.with_flags.Given as goal

-- what was found, and the rest, decide
abbrev pub invariant-loop-after : goal.invariant-loop-after
invariant-loop-after l = with_flags l.language l.found (slice_split separates l.rest) ≡ with_flags l.language l.fn.flags (slice_split separates l.text)

abbrev pub decreases-loop-after : goal.decreases-loop-after
decreases-loop-after l = length l.rest
