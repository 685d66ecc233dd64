use Rattle.aatry_folder.proofs.OrderLemmas.{IsSorted-texts}
use Rattle.aatry_folder.proofs.folders.RuntimeFoldersFolders.members.Goals as goal

-- They were sorted.
pub returns-clause-ok : goal.returns-clause-ok
returns-clause-ok g c = IsSorted-texts c.sort.new.self.items c.in_ok-sort.ensures.sorted
