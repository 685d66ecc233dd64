use Rattle.std.proofs.Common.{◌≡◌, ◌++◌, length, map}
use Rattle.aa_text_tokens.specs.SeenTokens.{seen}
use Rattle.aatry_folder.specs.Asked.{asked_of}
use Rattle.aatry_folder.specs.SeenPaths.{lent_paths}
use Rattle.aatry_folder.proofs.asked.push_of.Given as goal

-- what was asked for so far, with what the tokens ask for that are left, is all
abbrev pub invariant-loop-rest : goal.invariant-loop-rest
invariant-loop-rest l =
    lent_paths l.asked.items ++ asked_of l.front (map seen l.rest) ≡ lent_paths l.initial.asked.items ++ asked_of l.front (map seen l.tokens)

abbrev pub decreases-loop-rest : goal.decreases-loop-rest
decreases-loop-rest l = length l.rest
