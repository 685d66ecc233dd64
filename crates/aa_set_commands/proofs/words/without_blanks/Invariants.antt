use Rattle.std.proofs.Common.{◌≡◌, ◌≤◌, length}
use Rattle.aa_set_commands.specs.Words.{words_of}
use Rattle.aa_set_commands.proofs.words.without_blanks.Given as goal

abbrev pub invariant-loop-rest : goal.invariant-loop-rest
invariant-loop-rest l = record {
  words : words_of l.rest ≡ words_of l.fn.line;
  within : length l.rest ≤ length l.fn.line;
}

abbrev pub decreases-loop-rest : goal.decreases-loop-rest
decreases-loop-rest l = length l.rest
