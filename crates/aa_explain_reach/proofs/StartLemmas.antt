-- How the start of programs depends on their paths.
use Rattle.std.proofs.Common.{ℕ, List}
use Rattle.aa_glob_paths.specs.Laws.{AreMatchedAlike}
use Rattle.aa_explain_reach.specs.StartLaws.{AreAmong, StartsAreAlike, StartsOfAllPaths}
use Rattle.aa_explain_reach.proofs.AlikeLemmas.{MatchedAlike, answer-alike}

-- patterns that are among those that match both paths alike match them alike
among-alike : (patterns own : List (List ℕ)) (path other : List ℕ) → AreMatchedAlike patterns path other → AreAmong own patterns → MatchedAlike path other own
among-alike patterns own path other alike among pattern at =
    let there = among pattern at in
    alike there.0 pattern there.1

pub starts-alike : StartsAreAlike
starts-alike entries asker patterns path other have alike owned =
    answer-alike path other entries asker owned
    (among-alike patterns _ path other alike have.attachments)
    (among-alike patterns _ path other alike have.children)
    (λ rule at. let there = have.rules rule at in alike there.0 rule.pattern there.1)

pub starts-all : StartsOfAllPaths
starts-all patterns classes paths stand path bytes told =
    let there = stand path bytes told in
    (there.0, there.1, there.2, λ entries asker have. starts-alike entries asker patterns path there.0 have there.2.alike)
