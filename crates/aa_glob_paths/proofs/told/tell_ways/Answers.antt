use Rattle.aa_glob_paths.proofs.ToldLemmas.{all-ways, keeps-ends}
use Rattle.aa_glob_paths.proofs.told.tell_ways.Goals as goal

pub tell_away-requires-clause-ends : goal.tell_away-requires-clause-ends
tell_away-requires-clause-ends c = keeps-ends c.args.told.now c.tell_on.new.told c.tell_on.ensures.keeps c.requires.ends

pub returns-clause-tells : goal.returns-clause-tells
returns-clause-tells c =
    all-ways c.args.tables.now c.args.bytes.now c.tell_on.new.told c.tell_away.new.told c.args.from c.tell_away.ensures.keeps c.tell_on.ensures.tells c.tell_away.ensures.tells
