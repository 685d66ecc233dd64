use Rattle.std.proofs.Common.{◌≡◌, length}
use Rattle.aa_profile_data.specs.ExecWords.{word_among}
use Rattle.aa_profile_data.proofs.exec_word.word_among.Given as goal

-- the text is none of the words so far
abbrev pub invariant-loop-rest : goal.invariant-loop-rest
invariant-loop-rest l = word_among l.rest l.text ≡ word_among l.words l.text

abbrev pub decreases-loop-rest : goal.decreases-loop-rest
decreases-loop-rest l = length l.rest
