use Rattle.aa_glob.proofs.WayLemmas.{ways-one}
use Rattle.aa_glob.proofs.ways.draw_way.Goals as goal

pub returns : goal.returns
returns c = ways-one c.args.drawing.now c.link.new.self c.args.from c.args.to c.in_ok-link.ensures.added
