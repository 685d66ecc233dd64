use Rattle.std.proofs.lemmas.Result.{on_ok_weaker}
use Rattle.aa_glob_nfa.specs.OfTables.{graph_of}
use Rattle.aa_glob_paths.proofs.ToldLemmas.{stand-picked}
use Rattle.aa_glob_paths.proofs.told.bytes_for_set.Goals as goal

pub returns : goal.returns
returns c =
    on_ok_weaker c.pick.result (λ picks. stand-picked (graph_of c.args.tables.now) c.args.bytes.now c.told_by-told.result c.args.set.now c.pick.new.own.items
    c.told_by-told.ensures.ends c.told_by-told.ensures.tells picks c.requires.bytes) c.pick.ensures
