use Rattle.aatry_folder.proofs.StandingLemmas.{asked-answered, stands-among, told-stands}
use Rattle.aatry_folder.proofs.laws.what_stands_is_among_the_names.Goals as goal

pub returns-clause-answered : goal.returns-clause-answered
returns-clause-answered g c base answers names name walk stands = stands-among (g.F.Folders.told c.args.folders.now) base answers names walk name stands

pub returns-clause-asked : goal.returns-clause-asked
returns-clause-asked g c base answers names folder walk among is_one = asked-answered (g.F.Folders.told c.args.folders.now) base answers names walk folder among is_one

pub returns-clause-steady : goal.returns-clause-steady
returns-clause-steady g c base answers names name walk steady stands = told-stands (g.F.Folders.told c.args.folders.now) base answers names walk steady name stands
