use Rattle.std.specs.List.{All}
use Rattle.aa_profile.proofs.ReadPatternLemmas.{read-patterns}
use Rattle.aa_profile.proofs.ReadingLemmas.{file-fits}
use Rattle.aa_profile.proofs.laws.which_patterns_read.Goals as goal
use Rattle.aa_profile.specs.ReadPatterns.{HasReadPatterns}

pub returns : goal.returns
returns c language files name = file-fits language (All HasReadPatterns) (read-patterns language) files name
