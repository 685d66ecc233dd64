use Rattle.aa_glob_nfa.proofs.LeavingLemmas.{known_ways}
use Rattle.aa_glob_paths.proofs.told.tell_away.Goals as goal

pub tell_by-requires-clause-each : goal.tell_by-requires-clause-each
tell_by-requires-clause-each c = known_ways c.args.tables.now _ c.requires.sound c.ways_around.ensures.only
