use Rattle.std.proofs.Common.{◌≡◌, ◌++◌, length}
use Rattle.aa_profile_parsing.specs.IdleFlags.{idle_words}
use Rattle.aa_profile_parsing.proofs.idle.idle_words.Given as goal

-- those so far, and those of the rest, are all
abbrev pub invariant-loop-flags : goal.invariant-loop-flags
invariant-loop-flags l = l.flags.items ++ idle_words l.language l.rest ≡ idle_words l.language l.text

abbrev pub decreases-loop-flags : goal.decreases-loop-flags
decreases-loop-flags l = length l.rest
