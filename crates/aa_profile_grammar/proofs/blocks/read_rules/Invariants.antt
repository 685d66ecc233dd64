use Rattle.std.proofs.Common.{◌≤◌, length, map}
use Rattle.aa_profile_rules.specs.SeenRules.{seen_rule}
use Rattle.aa_profile_grammar.specs.Blocks.{next_rule}
use Rattle.aa_profile_grammar.proofs.SequenceLemmas.{IsSoFar}
use Rattle.aa_profile_grammar.proofs.blocks.read_rules.Given as goal

-- those so far, and those of the rest, are all
abbrev pub invariant-loop-rules : goal.invariant-loop-rules
invariant-loop-rules l = record {
  so_far : IsSoFar (λ read. next_rule l.language) (map seen_rule l.rules.items) l.rest.tokens.now l.tokens;
  within : length l.rest.tokens.now ≤ length l.tokens;
}

abbrev pub decreases-loop-rules : goal.decreases-loop-rules
decreases-loop-rules l = length l.rest.tokens.now
