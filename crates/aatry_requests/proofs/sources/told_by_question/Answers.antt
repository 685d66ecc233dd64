use Rattle.aa_set_commands.specs.Words.{words_of}
use Rattle.aatry_requests.proofs.SourceLemmas.{uncut}
use Rattle.aatry_requests.proofs.sources.told_by_question.Goals as goal

-- a line that can't be cut
pub returns-in-Err : goal.returns-in-Err
returns-in-Err c = uncut (words_of c.args.line.now) c.in-Err.ensures.refused
