use Rattle.aatry_test.proofs.LawLemmas.{nothing_is_replaced}
use Rattle.aatry_test.proofs.laws.what_tests_replace.Goals as goal

pub returns : goal.returns
returns g c = nothing_is_replaced (g.D.FileSystem.known c.args.disk.now)
