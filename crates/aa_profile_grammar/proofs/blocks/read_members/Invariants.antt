use Rattle.std.proofs.Common.{◌≤◌, length, map}
use Rattle.aa_profile_grammar.specs.SeenFiles.{seen_member}
use Rattle.aa_profile_grammar.specs.Blocks.{next_member}
use Rattle.aa_profile_grammar.proofs.SequenceLemmas.{IsSoFar}
use Rattle.aa_profile_grammar.proofs.blocks.read_members.Given as goal

-- those so far, and those of the rest, are all
abbrev pub invariant-loop-members : goal.invariant-loop-members
invariant-loop-members l = record {
  so_far : IsSoFar (next_member l.language) (map seen_member l.members.items.items) l.rest.tokens.now l.tokens;
  within : length l.rest.tokens.now ≤ length l.tokens;
}

abbrev pub decreases-loop-members : goal.decreases-loop-members
decreases-loop-members l = length l.rest.tokens.now
