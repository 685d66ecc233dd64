use Rattle.std.proofs.Common.{ap, Bool, List, ℕ, reverse, ◌∙◌}
use Rattle.std.proofs.lemmas.Bool.Decides.{same_from_decides}
use Rattle.aa_glob_syntax.specs.Matching.{matches, Matches}
use Rattle.aa_glob_syntax.specs.Reading.{items_of}
use Rattle.aa_glob_pattern.proofs.PatternLemmas.{Decides-reading}
use Rattle.aa_glob_pattern.proofs.WalkLemmas.{reads-trail_of}
use Rattle.aa_glob_pattern.specs.Reads.{empty_text, pattern_behind}
use Rattle.aa_glob_pattern.proofs.laws.what_reads_to_the_end_matches.Goals as goal

pub returns : goal.returns
returns c = λ text path is_read.
    ap (λ (test : List ℕ → Bool). test (reverse path)) (reads-trail_of text (items_of text) is_read)
    ∙ same_from_decides {P = Matches (items_of text) path} (pattern_behind (items_of text) empty_text (reverse path)) (matches (items_of text) path) (Decides-reading (items_of text) path) (c.matching_is_by_splits.ensures (items_of text) path)
