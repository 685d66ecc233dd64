use Rattle.std.proofs.Common.{◌≤◌, length, map}
use Rattle.aa_profile_grammar.specs.SeenFiles.{seen_assignment}
use Rattle.aa_profile_grammar.specs.Preamble.{next_assignment}
use Rattle.aa_profile_grammar.proofs.SequenceLemmas.{IsSoFar}
use Rattle.aa_profile_grammar.proofs.preamble.read_preamble.Given as goal

-- those so far, and those of the rest, are all
abbrev pub invariant-loop-assignments : goal.invariant-loop-assignments
invariant-loop-assignments l = record {
  so_far : IsSoFar (λ read. next_assignment) (map seen_assignment l.assignments.items) l.rest.tokens.now l.tokens;
  within : length l.rest.tokens.now ≤ length l.tokens;
}

abbrev pub decreases-loop-assignments : goal.decreases-loop-assignments
decreases-loop-assignments l = length l.rest.tokens.now
