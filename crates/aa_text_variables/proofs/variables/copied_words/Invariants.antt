use Rattle.std.proofs.Common.{◌≡◌, take, map}
use Rattle.aa_text_variables.proofs.variables.copied_words.Given as goal

-- the words so far are copied
abbrev pub invariant-loop-word : goal.invariant-loop-word
invariant-loop-word l = l.copies.items ≡ map (λ w. w.now) (take l.word-index l.words)
