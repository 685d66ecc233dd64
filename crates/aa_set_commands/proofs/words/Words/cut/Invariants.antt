use Rattle.std.proofs.Common.{◌≡◌, ◌≤◌, ◌++◌, length, map, take}
use Rattle.std.specs.Option.{option_map}
use Rattle.aa_set_commands.specs.Words.{words_of}
use Rattle.aa_set_commands.specs.Limits.{most_words}
use Rattle.aa_set_commands.proofs.words.Words.cut.Given as goal

-- the words so far and those of the rest are the line's
abbrev pub invariant-loop-word : goal.invariant-loop-word
invariant-loop-word l = record {
  words : option_map (λ more. map (λ word. word.now) (take l.count l.words) ++ more) (words_of l.rest) ≡ words_of l.line;
  few : l.count ≤ most_words;
  room : length l.words ≡ most_words;
}

abbrev pub decreases-loop-word : goal.decreases-loop-word
decreases-loop-word l = length l.rest
