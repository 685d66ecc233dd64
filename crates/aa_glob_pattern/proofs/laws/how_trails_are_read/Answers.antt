use Rattle.std.proofs.Common.{ap, Bool, List, ℕ}
use Rattle.aa_glob_pattern.proofs.GroupLemmas.{shorter-sources, some_reads-one}
use Rattle.aa_glob_pattern.proofs.SourceLemmas.{reads-sources}
use Rattle.aa_glob_pattern.proofs.laws.how_trails_are_read.Goals as goal

pub returns-clause-trails_are_read_behind_sources : goal.returns-clause-trails_are_read_behind_sources
returns-clause-trails_are_read_behind_sources c = λ e trail past. ap (λ (test : List ℕ → Bool). test past) (reads-sources e trail)

pub returns-clause-some_are_read_as_one_is : goal.returns-clause-some_are_read_as_one_is
returns-clause-some_are_read_as_one_is c = some_reads-one

pub returns-clause-sources_are_shorter : goal.returns-clause-sources_are_shorter
returns-clause-sources_are_shorter c = shorter-sources
