use Rattle.aatry_folder.specs.Includes.{Answered, Lacks, NothingStandsFor, ToldBelow}
use Rattle.aatry_folder.proofs.MissingLemmas.{include-missing, missing-so}
use Rattle.aatry_folder.proofs.StandingLemmas.{among-more, lacked-nowhere, stands-among, told-stands}
use Rattle.aatry_folder.proofs.laws.nothing_that_stands_is_missing.Goals as goal

pub returns-clause-answered : goal.returns-clause-answered
returns-clause-answered g c base answers names others files name place walk named is =
    missing-so files place (Lacks files) (NothingStandsFor (Answered answers))
    (lacked-nowhere (Answered answers) files
    (among-more (Answered answers) names others files named (stands-among (g.F.Folders.told c.args.folders.now) base answers names walk)))
    (include-missing files name place is)

pub returns-clause-steady : goal.returns-clause-steady
returns-clause-steady g c base answers names others files name place walk named steady is =
    missing-so files place (Lacks files) (NothingStandsFor (ToldBelow (g.F.Folders.told c.args.folders.now) base))
    (lacked-nowhere (ToldBelow (g.F.Folders.told c.args.folders.now) base) files
    (among-more (ToldBelow (g.F.Folders.told c.args.folders.now) base) names others files named
    (told-stands (g.F.Folders.told c.args.folders.now) base answers names walk steady)))
    (include-missing files name place is)
