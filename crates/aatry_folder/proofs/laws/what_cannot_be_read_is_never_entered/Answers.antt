use Rattle.aatry_folder.proofs.EnteringLemmas.{spliced-fails, unread-stands_in}
use Rattle.aatry_folder.proofs.laws.what_cannot_be_read_is_never_entered.Goals as goal

pub returns : goal.returns
returns g c base files unread name one other way fault taken found reaches is =
    spliced-fails files name one other way found reaches (unread-stands_in (g.D.FileSystem.known c.args.disk.now) base files unread other fault taken is)
