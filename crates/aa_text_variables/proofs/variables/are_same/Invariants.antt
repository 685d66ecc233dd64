use Rattle.std.proofs.Common.{◌≡◌, drop, map}
use Rattle.aa_text_variables.specs.Variables.{same_texts}
use Rattle.aa_text_variables.proofs.variables.are_same.Given as goal

-- the words so far are the same
abbrev pub invariant-loop-word : goal.invariant-loop-word
invariant-loop-word l = same_texts (map (λ w. w.now) (drop l.word-index l.words)) l.rest ≡ same_texts (map (λ w. w.now) l.words) l.others
