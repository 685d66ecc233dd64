use Rattle.std.proofs.Common.{◌≤◌, length, map}
use Rattle.aa_profile_grammar.specs.SeenFiles.{seen_profile}
use Rattle.aa_profile_grammar.specs.Blocks.{next_profile}
use Rattle.aa_profile_grammar.proofs.SequenceLemmas.{IsSoFar}
use Rattle.aa_profile_grammar.proofs.blocks.read_profiles.Given as goal

-- those so far, and those of the rest, are all
abbrev pub invariant-loop-profiles : goal.invariant-loop-profiles
invariant-loop-profiles l = record {
  so_far : IsSoFar (next_profile l.language) (map seen_profile l.profiles.items.items) l.rest.tokens.now l.tokens;
  within : length l.rest.tokens.now ≤ length l.tokens;
}

abbrev pub decreases-loop-profiles : goal.decreases-loop-profiles
decreases-loop-profiles l = length l.rest.tokens.now
